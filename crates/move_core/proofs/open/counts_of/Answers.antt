-- One pin more is counted in its block.
use Rattle.std.proofs.Common.{◌+◌, ◌<◌, ℕ, length, length-set, take, slice_index, [], ap, ◌∙◌, arith}
use Rattle.std.proofs.lemmas.List.{length-take}
use Rattle.hg_defs.specs.Hypergraph.{Net, net_count, net_of}
use Rattle.hg_defs.specs.Partition.{block_of}
use Rattle.hg_defs.proofs.SumLaws.{total_at-le}
use Rattle.move_core.specs.State.{count_place}
use Rattle.move_core.proofs.TimesLaws.{same_default}
use Rattle.move_core.proofs.WriteLaws.{place-below}
use Rattle.move_core.proofs.OpenFacts.{pins_with_at, pins_in-le, counts_more, counts_all, pins_with_all}
use Rattle.move_core.proofs.open.counts_of.Goals as goal

pub overflow_add-index_mut : goal.overflow_add-index_mut
overflow_add-index_mut c =
    let e : ℕ = c.loop-e.e in
    let pins = (net_of c.args.h.now e).pins in
    let v : ℕ = slice_index c.pins-v-items.result.now c.loop-v.v-index in
    let lv = c.pins-v-items.ensures.below c.loop-v.v-index 0 c.loop-v-test.true in
    let n = c.requires.vertices in
    let lb = c.requires.blocks v 0 (omega arith) in
    let m = c.nets-e-end.ensures.count in
    let le : e < net_count c.args.h.now = omega arith in
    let inside = place-below c.args.k e (block_of c.args.p.now v) (net_count c.args.h.now) le lb in
    let w = c.loop-v.invariant.wide in
    let q = c.index_mut.ensures.value ∙ same_default c.loop-v.counts.items (count_place c.args.k e (block_of c.args.p.now v)) c.index_mut.result.now 0
    (omega arith) in
    let o = c.loop-v.invariant.each e (block_of c.args.p.now v) le lb in
    let a = pins_with_at c.args.h.now c.args.p.now e (block_of c.args.p.now v) (take c.loop-v.v-index pins) in
    let b = pins_in-le c.args.p.now (take c.loop-v.v-index pins) (block_of c.args.p.now v) in
    let t = length-take c.loop-v.v-index pins in
    let x = total_at-le (λ (z : Net). length z.pins) c.args.h.now.nets e (record { weight = 0; pins = [] }) le in
    let y = c.nets-e-end.ensures.bounds.pins in
    omega arith

pub loop-v-preserved : goal.loop-v-preserved
loop-v-preserved c =
    let e : ℕ = c.loop-e.e in
    let pins = (net_of c.args.h.now e).pins in
    let v : ℕ = slice_index c.pins-v-items.result.now c.loop-v.v-index in
    let lv = c.pins-v-items.ensures.below c.loop-v.v-index 0 c.loop-v-test.true in
    let n = c.requires.vertices in
    let lb = c.requires.blocks v 0 (omega arith) in
    let m = c.nets-e-end.ensures.count in
    let le : e < net_count c.args.h.now = omega arith in
    let inside = place-below c.args.k e (block_of c.args.p.now v) (net_count c.args.h.now) le lb in
    let w = c.loop-v.invariant.wide in
    let q = c.index_mut.ensures.value ∙ same_default c.loop-v.counts.items (count_place c.args.k e (block_of c.args.p.now v)) c.index_mut.result.now 0
    (omega arith) in
    let lp = ap length c.pins-v-items.ensures.value in
    let lj : c.loop-v.v-index < length pins = omega arith in
    let ev = ap (λ xs. slice_index xs c.loop-v.v-index) c.pins-v-items.ensures.value in
    record {
      wide = length-set c.loop-v.counts.items (count_place c.args.k e (block_of c.args.p.now v)) (c.index_mut.result.now + 1) ∙ w;
      each = counts_more c.args.h.now c.args.p.now c.loop-v.counts.items e (net_count c.args.h.now) c.args.k c.loop-v.v-index v (c.index_mut.result.now + 1)
          pins w le lj ev lb c.loop-v.invariant.each (ap (λ z. z + 1) q);
    }

pub returns : goal.returns
returns c =
    let m = c.nets-e-end.ensures.count in
    counts_all c.args.h.now c.args.p.now c.loop-e.counts.items c.args.k c.loop-e.invariant.wide
    (λ f b lf lb. c.loop-e.invariant.each f b lf lb ∙ pins_with_all c.args.h.now c.args.p.now c.loop-e.e f b (omega arith))
