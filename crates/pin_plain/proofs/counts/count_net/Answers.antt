use Rattle.std.proofs.Common.{◌∙◌, take, slice_index, arith}
use Rattle.std.proofs.lemmas.List.{length-take-le}
use Rattle.hg_defs.specs.Partition.{block_of}
use Rattle.hg_defs.proofs.SumLaws.{total-take_more, weight_if}
use Rattle.hg_defs.proofs.DistinctLaws.{pins_in-le}
use Rattle.pin_plain.proofs.CountLaws.{one_flip}
use Rattle.pin_plain.proofs.counts.count_net.Goals as goal

pub raise-requires-clause-room : goal.raise-requires-clause-room
raise-requires-clause-room c =
    let v = slice_index c.args.pins.now c.loop-v.v-index in
    let b = slice_index c.args.blocks.now v in
    let now = c.loop-v.invariant.counts b in
    let few = pins_in-le c.args.blocks.now (take c.loop-v.v-index c.args.pins.now) b in
    let len = length-take-le c.loop-v.v-index c.args.pins.now (omega arith) in
    let room = c.requires.room v 0 (c.requires.pins c.loop-v.v-index 0 c.loop-v-test.true) in
    omega arith

pub loop-v-preserved : goal.loop-v-preserved
loop-v-preserved c =
    let v = slice_index c.args.pins.now c.loop-v.v-index in
    record {
      counts = λ b.
          let one = c.raise.ensures.counts b in
          let was = c.loop-v.invariant.counts b in
          let more = total-take_more (λ u. weight_if (block_of c.args.blocks.now u) b 1) c.args.pins.now c.loop-v.v-index 0 c.loop-v-test.true in
          let flip = one_flip b (slice_index c.args.blocks.now v) in
          omega arith;
      others = λ i apart. c.raise.ensures.others i (apart v 0 (c.requires.pins c.loop-v.v-index 0 c.loop-v-test.true)) ∙ c.loop-v.invariant.others i apart;
    }
