use Rattle.std.proofs.Common.{◌∙◌, length, slice_index, ap, arith}
use Rattle.std.proofs.lemmas.List.{take_all}
use Rattle.hg_defs.specs.Sums.{total}
use Rattle.hg_defs.specs.Partition.{block_of}
use Rattle.hg_defs.proofs.SumLaws.{total-take_more}
use Rattle.pin_plain.specs.Savings.{net_most, net_lost}
use Rattle.pin_plain.proofs.ScoreLaws.{told_inside, told_count, told_few, most_is, lost_is, most_so_far, lost_so_far, saved_at_most}
use Rattle.pin_plain.proofs.gains.most_and_lost.Goals as goal

pub count-own-requires-clause-inside : goal.count-own-requires-clause-inside
count-own-requires-clause-inside c =
    let l = c.args.lent.now in
    let whole = l.told.parted.partition in
    let long = whole.vertices in
    let vertex = c.requires.vertex in
    told_inside l.h.now l.k l.blocks.now l.starts.now l.words.now l.told
    (slice_index c.nets_of-e-items.result.now c.loop-e.e-index) 0 c.bits_of-bits.result c.pins.result.now
    (c.nets_of-e-items.ensures.below c.loop-e.e-index 0 c.loop-e-test.true) c.pins.ensures.value c.bits_of-bits.ensures.value
    (block_of l.blocks.now c.args.v) (whole.blocks c.args.v 0 (omega arith))

pub count-own-requires-clause-few : goal.count-own-requires-clause-few
count-own-requires-clause-few c = let l = c.args.lent.now in told_few l.h.now l.k l.blocks.now l.starts.now l.words.now l.told

pub overflow_add-most : goal.overflow_add-most
overflow_add-most c =
    let l = c.args.lent.now in
    let e = slice_index c.nets_of-e-items.result.now c.loop-e.e-index in
    let whole = l.told.parted.partition in
    let long = whole.vertices in
    let vertex = c.requires.vertex in
    let from = block_of l.blocks.now c.args.v in
    let now =
    told_count l.h.now l.k l.blocks.now l.starts.now l.words.now l.told e 0 c.bits_of-bits.result c.pins.result.now
    (c.nets_of-e-items.ensures.below c.loop-e.e-index 0 c.loop-e-test.true) c.pins.ensures.value c.bits_of-bits.ensures.value from
    (whole.blocks c.args.v 0 (omega arith)) in
    let one = most_is l.h.now l.blocks.now from e _ _ _ _ _ c.net_weight-weight.ensures.value c.objective-objective.ensures
    (c.count-own.ensures.value ∙ now) (ap length c.pins.ensures.value) c.most_saved.ensures.value in
    let bound = most_so_far l.h.now l.blocks.now from c.args.v c.loop-e.e-index c.nets_of-e-items.result.now l.told.parted.bounds
    c.nets_of-e-items.ensures.value c.loop-e-test.true in
    let most = c.loop-e.invariant.most in
    omega arith

pub overflow_add-down : goal.overflow_add-down
overflow_add-down c =
    let l = c.args.lent.now in
    let e = slice_index c.nets_of-e-items.result.now c.loop-e.e-index in
    let whole = l.told.parted.partition in
    let long = whole.vertices in
    let vertex = c.requires.vertex in
    let from = block_of l.blocks.now c.args.v in
    let now =
    told_count l.h.now l.k l.blocks.now l.starts.now l.words.now l.told e 0 c.bits_of-bits.result c.pins.result.now
    (c.nets_of-e-items.ensures.below c.loop-e.e-index 0 c.loop-e-test.true) c.pins.ensures.value c.bits_of-bits.ensures.value from
    (whole.blocks c.args.v 0 (omega arith)) in
    let one = lost_is l.h.now l.blocks.now from e _ _ _ _ _ c.net_weight-weight.ensures.value c.objective-objective.ensures
    (c.count-own.ensures.value ∙ now) (ap length c.pins.ensures.value) c.lost.ensures.value in
    let bound = lost_so_far l.h.now l.blocks.now from c.args.v c.loop-e.e-index c.nets_of-e-items.result.now l.told.parted.bounds
    c.nets_of-e-items.ensures.value c.loop-e-test.true in
    let down = c.loop-e.invariant.down in
    omega arith

pub loop-e-preserved : goal.loop-e-preserved
loop-e-preserved c =
    let l = c.args.lent.now in
    let e = slice_index c.nets_of-e-items.result.now c.loop-e.e-index in
    let whole = l.told.parted.partition in
    let long = whole.vertices in
    let vertex = c.requires.vertex in
    let from = block_of l.blocks.now c.args.v in
    let now =
    told_count l.h.now l.k l.blocks.now l.starts.now l.words.now l.told e 0 c.bits_of-bits.result c.pins.result.now
    (c.nets_of-e-items.ensures.below c.loop-e.e-index 0 c.loop-e-test.true) c.pins.ensures.value c.bits_of-bits.ensures.value from
    (whole.blocks c.args.v 0 (omega arith)) in
    let read = c.count-own.ensures.value ∙ now in
    let same = ap length c.pins.ensures.value in
    let up = most_is l.h.now l.blocks.now from e _ _ _ _ _ c.net_weight-weight.ensures.value c.objective-objective.ensures read same
    c.most_saved.ensures.value in
    let down = lost_is l.h.now l.blocks.now from e _ _ _ _ _ c.net_weight-weight.ensures.value c.objective-objective.ensures read same
    c.lost.ensures.value in
    let more_up = total-take_more (net_most l.h.now l.blocks.now from) c.nets_of-e-items.result.now c.loop-e.e-index 0 c.loop-e-test.true in
    let more_down = total-take_more (net_lost l.h.now l.blocks.now from) c.nets_of-e-items.result.now c.loop-e.e-index 0 c.loop-e-test.true in
    record {
      most = let was = c.loop-e.invariant.most in omega arith;
      down = let was = c.loop-e.invariant.down in omega arith;
    }

pub returns-clause-most : goal.returns-clause-most
returns-clause-most c b other =
    let l = c.args.lent.now in
    let whole = l.told.parted.partition in
    let long = whole.vertices in
    let vertex = c.requires.vertex in
    let from = block_of l.blocks.now c.args.v in
    let all = ap (total (net_most l.h.now l.blocks.now from)) (take_all c.loop-e.e-index c.nets_of-e-items.result.now (omega arith) ∙
    c.nets_of-e-items.ensures.value) in
    let less = saved_at_most l.h.now l.k l.blocks.now l.starts.now l.words.now l.told from b c.args.v (whole.blocks c.args.v 0 (omega arith)) other in
    let most = c.loop-e.invariant.most in
    omega arith
