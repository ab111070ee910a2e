-- The ranks are those of the single vertices, the lightest first.
use Rattle.std.proofs.Common.{◌≡◌, ◌≢◌, ◌&&◌, false, nat_eq, get_or, filter, ℕ, ◌+◌, ◌<◌, List, Bool, length, map, All}
use Rattle.std.proofs.Common.{AllPairs, IsPermutation, IsSorted, refl, sym, ap, ◌∙◌, subst, arith}
use Rattle.hg_defs.specs.Sorting.{lower_first}
use Rattle.hg_defs.specs.Hypergraph.{Hyper, vertex_count}
use Rattle.hg_defs.specs.Partition.{block_of}
use Rattle.hg_defs.specs.Clustering.{IsSingleton}
use Rattle.hg_defs.specs.Pairing.{pair_up}
use Rattle.coarsen.specs.Marks.{AreMarked, weighed}
use Rattle.coarsen.proofs.PairLaws.{no_block}
use Rattle.coarsen.proofs.SweepLaws.{singles_of, singles_marked, ranks_lightest, ranks_single, ranks_apart}
use Rattle.coarsen.proofs.pairing.pair_block.Goals as goal

-- the ranks that were sorted
moved_from : (h : Hyper) (blocks roots pins : List ℕ) (b : ℕ) (single : List Bool) (listed ranks lent : List (ℕ × ℕ)) → AreMarked h roots single →
    All (λ v. v < vertex_count h) pins
    → listed ≡ map (weighed h) (filter (λ v. get_or single v false && nat_eq (block_of blocks v) b) pins) → IsPermutation listed ranks → lent ≡ ranks
    → IsPermutation (map (weighed h) (singles_of h blocks roots pins b)) lent
moved_from h blocks roots pins b single listed ranks lent m below made moved same =
    subst (IsPermutation (map (weighed h) (singles_of h blocks roots pins b))) (sym same)
    (subst (λ (rs : List (ℕ × ℕ)). IsPermutation rs ranks) (made ∙ ap (map (weighed h)) (singles_marked h blocks roots pins b single m below)) moved)

pub join_ranks-requires-clause-singles : goal.join_ranks-requires-clause-singles
join_ranks-requires-clause-singles c =
    ranks_single c.args.h.now c.args.blocks.now c.args.roots.now c.args.pins.now c.args.b c.deref.result.now
    (moved_from c.args.h.now c.args.blocks.now c.args.roots.now c.args.pins.now c.args.b c.args.single.now c.rank_singles.new.ranks.items
    c.sort_unstable.new.self.items c.deref.result.now c.requires.marked c.requires.pins c.in_ok-rank_singles.ensures c.sort_unstable.ensures.permutation
    c.deref.ensures.value)
    (subst (IsSorted lower_first) (sym c.deref.ensures.value) c.sort_unstable.ensures.sorted) c.requires.pins

pub join_ranks-requires-clause-apart : goal.join_ranks-requires-clause-apart
join_ranks-requires-clause-apart c =
    ranks_apart c.args.h.now c.args.blocks.now c.args.roots.now c.args.pins.now c.args.b c.deref.result.now
    (moved_from c.args.h.now c.args.blocks.now c.args.roots.now c.args.pins.now c.args.b c.args.single.now c.rank_singles.new.ranks.items
    c.sort_unstable.new.self.items c.deref.result.now c.requires.marked c.requires.pins c.in_ok-rank_singles.ensures c.sort_unstable.ensures.permutation
    c.deref.ensures.value)
    (subst (IsSorted lower_first) (sym c.deref.ensures.value) c.sort_unstable.ensures.sorted) c.requires.rising

pub returns-clause-paired : goal.returns-clause-paired
returns-clause-paired c =
    c.join_ranks.ensures.paired
    ∙ ap (pair_up c.args.h.now c.args.cap 1 no_block c.args.roots.now)
    (ranks_lightest c.args.h.now c.args.blocks.now c.args.roots.now c.args.pins.now c.args.b c.deref.result.now
    (moved_from c.args.h.now c.args.blocks.now c.args.roots.now c.args.pins.now c.args.b c.args.single.now c.rank_singles.new.ranks.items
    c.sort_unstable.new.self.items c.deref.result.now c.requires.marked c.requires.pins c.in_ok-rank_singles.ensures c.sort_unstable.ensures.permutation
    c.deref.ensures.value)
    (subst (IsSorted lower_first) (sym c.deref.ensures.value) c.sort_unstable.ensures.sorted) c.args.cap)
