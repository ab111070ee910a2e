use Rattle.std.proofs.Common.{◌<◌, take, length, get_or, sym, refl, arith, nat_eq, length-take}
use Rattle.hg_defs.proofs.DistinctLaws.{pins_in-le}
use Rattle.rollback_prefix.proofs.PinLaws.{counts_more, counts_none, counted_raise, counted_zeros, counted-le, tested, tested-le}
use Rattle.rollback_prefix.proofs.pins.count_pins.Goals as goal

pub loop-v-init : goal.loop-v-init
loop-v-init c = record {
  counts = counts_none (length c.args.counts.now) c.args.blocks.now c.args.counts.now refl c.requires.zeros;
  touched = sym (counted_zeros c.args.counts.now c.requires.zeros);
}

pub overflow_add-touched : goal.overflow_add-touched
overflow_add-touched c =
    let few = counted-le c.loop-v.counts in
    let is = c.loop-v.invariant.touched in
    let one = tested-le (nat_eq (get_or c.loop-v.counts (get_or c.args.blocks.now (get_or c.args.pins.now c.loop-v.v-index 0) 0) 0) 0) in
    omega arith

pub overflow_add-counts : goal.overflow_add-counts
overflow_add-counts c =
    let low : get_or c.args.blocks.now (get_or c.args.pins.now c.loop-v.v-index 0) 0 < length c.args.counts.now = omega arith in
    let is = c.loop-v.invariant.counts.each (get_or c.args.blocks.now (get_or c.args.pins.now c.loop-v.v-index 0) 0) low in
    let few = pins_in-le c.args.blocks.now (take c.loop-v.v-index c.args.pins.now) (get_or c.args.blocks.now (get_or c.args.pins.now c.loop-v.v-index 0)
    0) in
    let long = length-take c.loop-v.v-index c.args.pins.now in
    omega arith

pub loop-v-preserved : goal.loop-v-preserved
loop-v-preserved c =
    let low : get_or c.args.blocks.now (get_or c.args.pins.now c.loop-v.v-index 0) 0 < length c.args.counts.now = omega arith in
    record {
      counts = counts_more (length c.args.counts.now) c.args.blocks.now c.args.pins.now c.loop-v.counts c.loop-v.v-index c.loop-v-test.true low
          c.loop-v.invariant.counts;
      touched =
          let is = c.loop-v.invariant.touched in
          let inside : get_or c.args.blocks.now (get_or c.args.pins.now c.loop-v.v-index 0) 0 < length c.loop-v.counts = omega arith in
          let law = counted_raise c.loop-v.counts (get_or c.args.blocks.now (get_or c.args.pins.now c.loop-v.v-index 0) 0) inside in
          let one = tested (nat_eq (get_or c.loop-v.counts (get_or c.args.blocks.now (get_or c.args.pins.now c.loop-v.v-index 0) 0) 0) 0) in
          omega arith;
    }
