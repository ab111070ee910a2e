-- A net with fewer than two single vertices stays, and so does a large one.
use Rattle.std.proofs.Common.{◌≡◌, ℕ, ◌+◌, ◌<◌, ◌≤◌, List, [], ◌∷◌, Bool, false, length, filter, get_or, All, refl, sym, ap, ◌∙◌, subst, arith}
use Rattle.std.specs.List.{range_with_len}
use Rattle.hg_defs.specs.Hypergraph.{Net, Hyper, vertex_count, net_of}
use Rattle.hg_defs.specs.Partition.{block_of}
use Rattle.hg_defs.specs.Clustering.{is_single}
use Rattle.hg_defs.specs.Pairing.{pair_nets, pair_blocks}
use Rattle.coarsen.specs.Marks.{AreMarked}
use Rattle.coarsen.proofs.SweepLaws.{large_net, few_net, pairing_more}
use Rattle.coarsen.proofs.pairing.pair_net.Goals as goal
use Rattle.coarsen.proofs.pairing.pair_net.Goals.{then-pins-gt-MOST_PINS-via-then-pins-gt-MOST_PINS}
use Rattle.coarsen.proofs.pairing.pair_net.Goals.{then-pins-gt-MOST_PINS-via-else-pins-gt-MOST_PINS+then-count_singles-lt2}

pub returns-then-pins-gt-MOST_PINS-clause-paired : goal.returns-then-pins-gt-MOST_PINS-clause-paired
returns-then-pins-gt-MOST_PINS-clause-paired c =
    let h = c.args.h.now in
    let n = ap length c.pins-pins.ensures.value in
    elim c.then-pins-gt-MOST_PINS.branch [
      | then-pins-gt-MOST_PINS-via-then-pins-gt-MOST_PINS w ↦
          large_net h c.args.cap c.args.k c.args.blocks.now c.args.roots.now (net_of h c.args.e) (omega (arith, w.if-pins-gt-MOST_PINS.true))
      | then-pins-gt-MOST_PINS-via-else-pins-gt-MOST_PINS+then-count_singles-lt2 w ↦
          let same = ap (λ (ps : List ℕ). length (filter (λ v. get_or c.args.single.now v false) ps)) c.pins-pins.ensures.value in
          few_net h c.args.cap c.args.k c.args.blocks.now c.args.roots.now c.args.single.now (net_of h c.args.e) c.requires.marked
          (subst (All (λ v. v < vertex_count h)) c.pins-pins.ensures.value c.pins-pins.ensures.below)
          (omega (arith, w.count_singles.ensures, w.if-count_singles-lt2.true))
    ]

pub loop-b-preserved : goal.loop-b-preserved
loop-b-preserved c =
    pairing_more c.args.h.now c.args.cap c.args.k c.args.blocks.now c.pins-pins.result.now c.args.roots.now c.loop-b.roots c.pair_block.new.roots
    c.args.single.now c.loop-b.single c.pair_block.new.single c.loop-b.b c.loop-b.invariant c.loop-b-test.true
    c.in_ok-pair_block.ensures.paired c.in_ok-pair_block.ensures.rooted c.in_ok-pair_block.ensures.marked
    c.in_ok-pair_block.ensures.fewer
