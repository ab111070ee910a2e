use Rattle.std.proofs.Common.{◌+◌, ◌*◌, ◌<◌, ◌∙◌, length, slice_index, refl, sym, ap, arith}
use Rattle.std.proofs.lemmas.List.{get_or-set_other}
use Rattle.hg_defs.proofs.DistinctLaws.{pins_in-le}
use Rattle.hg_defs.specs.Pins.{pins_in}
use Rattle.pin_plain.specs.Scores.{amount_for}
use Rattle.pin_plain.proofs.TallyLaws.{block_low, amount_is, between_past, word_step}
use Rattle.pin_plain.proofs.scores.Scores.add_word.Goals as goal

pub saved-requires : goal.saved-requires
saved-requires c =
    let counts = c.requires.counts c.loop-place.place c.loop-place-test.true in
    let few = pins_in-le c.args.net.now.blocks.now c.args.net.now.pins.now (c.args.first + c.loop-place.place) in
    let read = c.field-pins.ensures.value in
    omega arith

pub add-requires-clause-block : goal.add-requires-clause-block
add-requires-clause-block c =
    let counts = c.requires.counts c.loop-place.place c.loop-place-test.true in
    let read = c.field-pins.ensures.value in
    let some = c.if-pins-eq0.false in
    block_low c.args.net.now.blocks.now c.args.net.now.pins.now (c.args.first + c.loop-place.place) c.args.net.now.pinned c.args.net.now.below
    (let n : 0 < pins_in c.args.net.now.blocks.now c.args.net.now.pins.now (c.args.first + c.loop-place.place) = omega arith in n)

pub add-requires-clause-room : goal.add-requires-clause-room
add-requires-clause-room c =
    let net = c.args.net.now in
    let block = c.args.first + c.loop-place.place in
    let counts = c.field-pins.ensures.value ∙ c.requires.counts c.loop-place.place c.loop-place-test.true in
    let amount = amount_is net.objective net.weight c.saved.result c.field-pins.result (length net.pins.now) c.args.net.now.blocks.now net.pins.now block
    c.saved.ensures.value counts refl in
    let room = c.requires.room c.loop-place.place c.loop-place-test.true in
    let was = c.loop-place.invariant.sums block c.if-block-from.false in
    let none = between_past c.args.first c.loop-place.place (amount_for net.objective net.weight c.args.net.now.blocks.now net.pins.now block) in
    omega arith

pub loop-place-preserved : goal.loop-place-preserved
loop-place-preserved c =
    let net = c.args.net.now in
    let block = c.args.first + c.loop-place.place in
    let counts = c.field-pins.ensures.value ∙ c.requires.counts c.loop-place.place c.loop-place-test.true in
    let amount = amount_is net.objective net.weight c.saved.result c.field-pins.result (length net.pins.now) c.args.net.now.blocks.now net.pins.now block
    c.saved.ensures.value counts refl in
    let some = c.if-pins-eq0.false in
    let low : block < 256 = block_low c.args.net.now.blocks.now net.pins.now block c.args.net.now.pinned c.args.net.now.below (omega arith) in
    record {
      sums = λ b q.
          ap (λ xs. slice_index xs b) c.add.ensures.sums
          ∙ word_step net.objective net.weight (net.weight * c.saved.result) c.args.net.now.blocks.now net.pins.now c.args.first c.loop-place.place
          c.args.from
          c.loop-place.self.sums c.args.self.now.sums
          (let size = c.add.ensures.size in omega arith) amount c.loop-place.invariant.sums b q;
      own = ap (λ xs. slice_index xs c.args.from) c.add.ensures.sums ∙ get_or-set_other c.loop-place.self.sums block c.args.from _ 0
          (λ e. c.if-block-from.false (sym e)) ∙ c.loop-place.invariant.own;
    }
