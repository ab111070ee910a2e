-- A net is paired, or had fewer than two single pins at first.
use Rattle.std.proofs.Common.{◌≡◌, ℕ, ◌+◌, ◌<◌, List, Bool, length, drop, slice_index, min, sym, ap, ◌∙◌, subst, arith}
use Rattle.std.proofs.lemmas.List.{take_at, get_or_read}
use Rattle.hg_defs.specs.Hypergraph.{net_count}
use Rattle.coarsen.specs.Marks.{AreFewer, AreCounted, marked_pins}
use Rattle.coarsen.proofs.SweepLaws.{IsSweeping, sweeping_more, sweeping_past}
use Rattle.coarsen.proofs.pairing.pair_nets.Goals as goal
use Rattle.coarsen.proofs.pairing.pair_nets.Goals.{then-index-ge2+in_ok-pair_net, else-index-ge2}

pub loop-e-preserved : goal.loop-e-preserved
loop-e-preserved c =
    let h = c.args.h.now in
    let cap = c.args.cap in
    let k = c.args.k in
    let blocks = c.args.blocks.now in
    let start = c.args.roots.now in
    let first = c.as_slice.result.now in
    let e = c.loop-e.e in
    let roots = c.loop-e.roots in
    let single = c.loop-e.single.items in
    let low : e < net_count h = omega (arith, c.loop-e-test.true, c.loop-e.auto.e-end, c.nets-e-end.ensures.count) in
    let so_far : IsSweeping h cap k blocks start first e roots single =
    subst (λ (ms : List Bool). IsSweeping h cap k blocks start ms e roots single) (sym c.as_slice.ensures.value) c.loop-e.invariant in
    subst (λ (ms : List Bool). IsSweeping h cap k blocks start ms (e + 1) c.if-index-ge2.roots c.if-index-ge2.single.items) c.as_slice.ensures.value
    (elim c.if-index-ge2.branch [
      | then-index-ge2+in_ok-pair_net w ↦
          let next = w.pair_net.new.roots in
          let marks = w.pair_net.new.single in
          let long : length marks ≡ c.loop-e.single.len = w.pair_net.auto.single ∙ w.as_mut_slice-then-index-ge2.ensures.len in
          let items : c.if-index-ge2.single.items ≡ marks =
          ap (λ v. v.items) w.single-is ∙ take_at marks (drop (length marks) c.loop-e.single.items) c.loop-e.single.len long in
          let fewer = subst (λ (ms : List Bool). AreFewer ms marks) w.as_mut_slice-then-index-ge2.ensures.value w.in_ok-pair_net.ensures.fewer in
          subst (λ (rs : List ℕ). IsSweeping h cap k blocks start first (e + 1) rs c.if-index-ge2.single.items) (sym w.roots-is)
          (subst (λ (ms : List Bool). IsSweeping h cap k blocks start first (e + 1) next ms) (sym items)
          (sweeping_more h cap k blocks start roots next first single marks e so_far low w.in_ok-pair_net.ensures.paired
          w.in_ok-pair_net.ensures.rooted w.in_ok-pair_net.ensures.marked fewer))
      | else-index-ge2 w ↦
          let items : c.if-index-ge2.single.items ≡ single = ap (λ v. v.items) w.single-is in
          let count : slice_index c.in_ok-counts.counts.items e ≡ min (marked_pins h first e) 255 = c.in_ok-counts.ensures.each e low in
          let below : e < length c.in_ok-counts.counts.items = omega (arith, c.in_ok-counts.ensures.nets) in
          let read = get_or_read c.in_ok-counts.counts.items _ _ below c.index.ensures 0 in
          let few : marked_pins h first e < 2 = omega (arith, count, read, w.if-index-ge2.false) in
          subst (λ (rs : List ℕ). IsSweeping h cap k blocks start first (e + 1) rs c.if-index-ge2.single.items) (sym w.roots-is)
          (subst (λ (ms : List Bool). IsSweeping h cap k blocks start first (e + 1) roots ms) (sym items)
          (sweeping_past h cap k blocks start roots first single e c.nets-e-end.ensures.sound so_far low few))
    ])
