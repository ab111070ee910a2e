-- The wishes of all vertices in one partition, in the order in which they are granted.
use Rattle.std.specs.Prelude.{◌≡◌, ℕ, ◌+◌, ◌-◌, ◌<◌, ◌≤◌, List, length, slice_index, map, All, Some}
use Rattle.std.specs.List.{range_with_len}
use Rattle.std.specs.Ordering.{nat_cmp, ordering_then}
use Rattle.std.specs.declared.cmp.Ordering.{Ordering}
use Rattle.std.specs.declared.cmp.Reverse.{Reverse}
use Rattle.hg_defs.specs.Hypergraph.{Hyper}
use Rattle.hg_defs.specs.Synchronous.{wish, wishing}

-- what a wish would save, its vertex, and the block to which it wishes to go
abbrev pub Wish : Type 0
Wish = Reverse ℕ × ℕ × ℕ

-- the order of wishes: the highest gain first, then the lowest vertex, then the lowest block
abbrev pub wish_cmp : Wish → Wish → Ordering
wish_cmp a b = ordering_then (ordering_then (nat_cmp b.0.0 a.0.0) (nat_cmp a.1 b.1)) (nat_cmp a.2 b.2)

-- all wishes of the partition p, the best first
pub record AreWishes (h : Hyper) (k l : ℕ) (p : List ℕ) (wishes : List Wish) : Type 0 where
  pub order : map (λ w. w.1) wishes ≡ wishing h k l p
  pub each : All (λ w. wish h k l p w.1 ≡ Some w.2) wishes

-- where n vertices are cut into parts
pub record AreCuts (n : ℕ) (cuts : List ℕ) : Type 0 where
  pub some : 0 < length cuts
  pub first : slice_index cuts 0 ≡ 0
  pub rising : (j : ℕ) → j + 1 < length cuts → slice_index cuts j ≤ slice_index cuts (j + 1)
  pub within : (j : ℕ) → j < length cuts → slice_index cuts j ≤ n
  pub last : slice_index cuts (length cuts - 1) ≡ n

-- the vertices of part j
abbrev pub part_at : List ℕ → ℕ → List ℕ
part_at cuts j = range_with_len (slice_index cuts j) (slice_index cuts (j + 1) - slice_index cuts j)
