use Rattle.std.proofs.Common.{◌∙◌, length, slice_index, ap, arith}
use Rattle.std.proofs.lemmas.List.{take_all}
use Rattle.hg_defs.specs.Sums.{total}
use Rattle.hg_defs.specs.Partition.{block_of}
use Rattle.hg_defs.proofs.SumLaws.{total-take_more}
use Rattle.hg_defs.proofs.DistinctLaws.{pins_in-le}
use Rattle.hg_defs.specs.Hypergraph.{net_of}
use Rattle.pin_plain.specs.Savings.{net_saved, net_lost}
use Rattle.pin_plain.proofs.ScoreLaws.{told_inside, told_count, told_few, saved_is, lost_is, saved_so_far, lost_so_far, saved_bound, lost_bound}
use Rattle.pin_plain.proofs.gains.saved_and_lost.Goals as goal

pub count-requires-clause-inside : goal.count-requires-clause-inside
count-requires-clause-inside c =
    told_inside c.args.lent.now.h.now c.args.lent.now.k c.args.lent.now.blocks.now c.args.lent.now.starts.now c.args.lent.now.words.now c.args.lent.now.told
    (slice_index c.nets_of-e-items.result.now c.loop-e.e-index) 0 c.bits_of-bits.result c.pins.result.now
    (c.nets_of-e-items.ensures.below c.loop-e.e-index 0 c.loop-e-test.true) c.pins.ensures.value c.bits_of-bits.ensures.value c.args.to c.requires.block

pub count-requires-clause-few : goal.count-requires-clause-few
count-requires-clause-few c = told_few c.args.lent.now.h.now c.args.lent.now.k c.args.lent.now.blocks.now c.args.lent.now.starts.now
    c.args.lent.now.words.now
    c.args.lent.now.told

pub saved-requires : goal.saved-requires
saved-requires c =
    let e = slice_index c.nets_of-e-items.result.now c.loop-e.e-index in
    let now =
    told_count c.args.lent.now.h.now c.args.lent.now.k c.args.lent.now.blocks.now c.args.lent.now.starts.now c.args.lent.now.words.now c.args.lent.now.told
    e 0
    c.bits_of-bits.result c.pins.result.now
    (c.nets_of-e-items.ensures.below c.loop-e.e-index 0 c.loop-e-test.true) c.pins.ensures.value c.bits_of-bits.ensures.value c.args.to c.requires.block in
    let few = pins_in-le c.args.lent.now.blocks.now (net_of c.args.lent.now.h.now e).pins c.args.to in
    let same = ap length c.pins.ensures.value in
    let read = c.count.ensures in
    omega arith

pub overflow_add-up : goal.overflow_add-up
overflow_add-up c =
    let h = c.args.lent.now.h.now in
    let e = slice_index c.nets_of-e-items.result.now c.loop-e.e-index in
    let now =
    told_count h c.args.lent.now.k c.args.lent.now.blocks.now c.args.lent.now.starts.now c.args.lent.now.words.now c.args.lent.now.told e 0
    c.bits_of-bits.result c.pins.result.now
    (c.nets_of-e-items.ensures.below c.loop-e.e-index 0 c.loop-e-test.true) c.pins.ensures.value c.bits_of-bits.ensures.value c.args.to c.requires.block in
    let one = saved_is h c.args.lent.now.blocks.now c.args.to e _ _ _ _ _ c.net_weight-weight.ensures.value c.objective-objective.ensures
    (c.count.ensures.value ∙ now) (ap length c.pins.ensures.value) c.saved.ensures.value in
    let bound = saved_so_far h c.args.lent.now.blocks.now c.args.to c.args.v c.loop-e.e-index c.nets_of-e-items.result.now
    c.args.lent.now.told.parted.bounds
    c.nets_of-e-items.ensures.value c.loop-e-test.true in
    let up = c.loop-e.invariant.up in
    omega arith

pub count-requires-in-loop-e-clause-inside : goal.count-requires-in-loop-e-clause-inside
count-requires-in-loop-e-clause-inside c =
    let whole = c.args.lent.now.told.parted.partition in
    let long = whole.vertices in
    let vertex = c.requires.vertex in
    told_inside c.args.lent.now.h.now c.args.lent.now.k c.args.lent.now.blocks.now c.args.lent.now.starts.now c.args.lent.now.words.now c.args.lent.now.told
    (slice_index c.nets_of-e-items.result.now c.loop-e.e-index) 0 c.bits_of-bits.result c.pins.result.now
    (c.nets_of-e-items.ensures.below c.loop-e.e-index 0 c.loop-e-test.true) c.pins.ensures.value c.bits_of-bits.ensures.value
    (block_of c.args.lent.now.blocks.now c.args.v) (whole.blocks c.args.v 0 (omega arith))

pub count-requires-in-loop-e-clause-few : goal.count-requires-in-loop-e-clause-few
count-requires-in-loop-e-clause-few c = told_few c.args.lent.now.h.now c.args.lent.now.k c.args.lent.now.blocks.now c.args.lent.now.starts.now
    c.args.lent.now.words.now c.args.lent.now.told

pub overflow_add-down : goal.overflow_add-down
overflow_add-down c =
    let h = c.args.lent.now.h.now in
    let e = slice_index c.nets_of-e-items.result.now c.loop-e.e-index in
    let whole = c.args.lent.now.told.parted.partition in
    let long = whole.vertices in
    let vertex = c.requires.vertex in
    let from = block_of c.args.lent.now.blocks.now c.args.v in
    let now =
    told_count h c.args.lent.now.k c.args.lent.now.blocks.now c.args.lent.now.starts.now c.args.lent.now.words.now c.args.lent.now.told e 0
    c.bits_of-bits.result c.pins.result.now
    (c.nets_of-e-items.ensures.below c.loop-e.e-index 0 c.loop-e-test.true) c.pins.ensures.value c.bits_of-bits.ensures.value from
    (whole.blocks c.args.v 0 (omega arith)) in
    let one = lost_is h c.args.lent.now.blocks.now from e _ _ _ _ _ c.net_weight-weight.ensures.value c.objective-objective.ensures
    (c.count-in-loop-e.ensures.value ∙ now) (ap length c.pins.ensures.value) c.lost.ensures.value in
    let bound = lost_so_far h c.args.lent.now.blocks.now from c.args.v c.loop-e.e-index c.nets_of-e-items.result.now c.args.lent.now.told.parted.bounds
    c.nets_of-e-items.ensures.value c.loop-e-test.true in
    let down = c.loop-e.invariant.down in
    omega arith

pub loop-e-preserved : goal.loop-e-preserved
loop-e-preserved c =
    let h = c.args.lent.now.h.now in
    let e = slice_index c.nets_of-e-items.result.now c.loop-e.e-index in
    let whole = c.args.lent.now.told.parted.partition in
    let long = whole.vertices in
    let vertex = c.requires.vertex in
    let from = block_of c.args.lent.now.blocks.now c.args.v in
    let net = c.nets_of-e-items.ensures.below c.loop-e.e-index 0 c.loop-e-test.true in
    let read = told_count h c.args.lent.now.k c.args.lent.now.blocks.now c.args.lent.now.starts.now c.args.lent.now.words.now c.args.lent.now.told e 0
    c.bits_of-bits.result c.pins.result.now net c.pins.ensures.value c.bits_of-bits.ensures.value in
    let up = saved_is h c.args.lent.now.blocks.now c.args.to e _ _ _ _ _ c.net_weight-weight.ensures.value c.objective-objective.ensures
    (c.count.ensures.value ∙ read c.args.to c.requires.block) (ap length c.pins.ensures.value) c.saved.ensures.value in
    let down = lost_is h c.args.lent.now.blocks.now from e _ _ _ _ _ c.net_weight-weight.ensures.value c.objective-objective.ensures
    (c.count-in-loop-e.ensures.value ∙ read from (whole.blocks c.args.v 0 (omega arith))) (ap length c.pins.ensures.value) c.lost.ensures.value in
    let more_up = total-take_more (net_saved h c.args.lent.now.blocks.now c.args.to) c.nets_of-e-items.result.now c.loop-e.e-index 0 c.loop-e-test.true in
    let more_down = total-take_more (net_lost h c.args.lent.now.blocks.now from) c.nets_of-e-items.result.now c.loop-e.e-index 0 c.loop-e-test.true in
    record {
      up = let was = c.loop-e.invariant.up in omega arith;
      down = let was = c.loop-e.invariant.down in omega arith;
    }

pub returns-clause-saved_bound : goal.returns-clause-saved_bound
returns-clause-saved_bound c =
    let h = c.args.lent.now.h.now in
    let all = ap (total (net_saved h c.args.lent.now.blocks.now c.args.to)) (take_all c.loop-e.e-index c.nets_of-e-items.result.now (omega arith) ∙
    c.nets_of-e-items.ensures.value) in
    let bound = saved_bound h c.args.lent.now.blocks.now c.args.to c.args.v c.args.lent.now.told.parted.bounds in
    let up = c.loop-e.invariant.up in
    omega arith

pub returns-clause-lost_bound : goal.returns-clause-lost_bound
returns-clause-lost_bound c =
    let h = c.args.lent.now.h.now in
    let from = block_of c.args.lent.now.blocks.now c.args.v in
    let all = ap (total (net_lost h c.args.lent.now.blocks.now from)) (take_all c.loop-e.e-index c.nets_of-e-items.result.now (omega arith) ∙
    c.nets_of-e-items.ensures.value) in
    let bound = lost_bound h c.args.lent.now.blocks.now from c.args.v c.args.lent.now.told.parted.bounds in
    let down = c.loop-e.invariant.down in
    omega arith
