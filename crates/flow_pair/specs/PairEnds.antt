-- The end of a pair: the cheapest assignment of its region.
use Rattle.std.specs.Prelude.{◌≡◌, ◌≤◌, ℕ, List, [], ◌∷◌, length, slice_set}
use Rattle.hg_defs.specs.Hypergraph.{Hyper}
use Rattle.hg_defs.specs.Partition.{Fits}
use Rattle.hg_defs.specs.Cost.{cost}
use Rattle.round_log.specs.Rounds.{region, pair_cost, IsAssignment}
use Rattle.flow_pair.specs.declared.solve.PairEnd.{PairEnd}

-- the partition after each vertex of a list got the block at its place
abbrev pub reassigned : List ℕ → List ℕ → List ℕ → List ℕ
reassigned p [] blocks = p
reassigned p (v ∷ vs) [] = p
reassigned p (v ∷ vs) (b ∷ blocks) = slice_set (reassigned p vs blocks) v b

-- the region of the pair, and a cheapest assignment of it that fits
pub record IsPairEnd (h : Hyper) (k l : ℕ) (p : List ℕ) (a b : ℕ) (end : PairEnd) : Type 0 where
  pub vertices_of : end.region ≡ region h l p a b
  pub blocks_of : length end.blocks ≡ length end.region
  pub assigned : IsAssignment p a b end.region (reassigned p end.region end.blocks)
  pub fits : Fits h k l (reassigned p end.region end.blocks)
  pub cheapest : (q : List ℕ) → IsAssignment p a b end.region q → cost h (reassigned p end.region end.blocks) ≤ cost h q
  pub value : end.value ≡ pair_cost h (reassigned p end.region end.blocks) a b
