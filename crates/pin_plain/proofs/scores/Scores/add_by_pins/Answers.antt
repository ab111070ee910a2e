use Rattle.std.proofs.Common.{◌≡◌, ◌≢◌, ◌+◌, ◌*◌, ◌∙◌, ℕ, true, false, length, take, slice_index, nat_eq}
use Rattle.std.proofs.Common.{nat_lt, ◌||◌, if◌then◌else◌, refl, sym, ap, subst, arith}
use Rattle.std.proofs.lemmas.List.{take_all, get_or-set_other}
use Rattle.std.proofs.lemmas.Bool.{not-true, not-false}
use Rattle.hg_defs.specs.Pins.{pins_in}
use Rattle.hg_defs.proofs.DistinctLaws.{pins_in-le}
use Rattle.pin_plain.specs.Scores.{amount_for, is_seen}
use Rattle.pin_plain.proofs.TallyLaws.{touched_kept, touched_more, amount_all, amount_first, amount_is, sums_step}
use Rattle.pin_plain.proofs.scores.Scores.add_by_pins.Goals as goal

pub loop-v-preserved-then-block-from : goal.loop-v-preserved-then-block-from
loop-v-preserved-then-block-from c =
    let p = c.args.net.now.blocks.now in
    let pins = c.args.net.now.pins.now in
    let i = c.loop-v.v-index in
    let kept : (b : ℕ) → b ≢ c.args.from → nat_lt 0 (pins_in p (take (i + 1) pins) b) ≡ nat_lt 0 (pins_in p (take i pins) b) =
    λ b q. touched_kept p pins i b c.loop-v-test.true (λ e. absurd (q (sym e ∙ c.if-block-from.true))) in
    record {
      sums = λ b q.
          c.loop-v.invariant.sums b q
          ∙ ap (λ t. slice_index c.args.self.now.sums b + (if t then amount_for c.args.net.now.objective c.args.net.now.weight p pins b else 0))
          (sym (kept b q));
      own = c.loop-v.invariant.own;
      marked = λ b l q. c.loop-v.invariant.marked b l q ∙ sym (kept b q);
    }

pub loop-v-preserved-then-not-mark : goal.loop-v-preserved-then-not-mark
loop-v-preserved-then-not-mark c =
    let p = c.args.net.now.blocks.now in
    let pins = c.args.net.now.pins.now in
    let i = c.loop-v.v-index in
    let block = slice_index p (slice_index pins i) in
    let low = c.args.net.now.below (slice_index pins i) 0 (c.args.net.now.pinned i 0 c.loop-v-test.true) in
    let old : nat_lt 0 (pins_in p (take i pins) block) ≡ true =
    sym (c.loop-v.invariant.marked block low c.if-block-from.false) ∙ not-false (is_seen c.loop-v.self.seen block) (sym c.mark.ensures.first ∙
    c.if-not-mark.true) in
    let kept : (b : ℕ) → nat_lt 0 (pins_in p (take (i + 1) pins) b) ≡ nat_lt 0 (pins_in p (take i pins) b) =
    λ b. touched_kept p pins i b c.loop-v-test.true (λ e. subst (λ d. nat_lt 0 (pins_in p (take i pins) d) ≡ true) e old) in
    record {
      sums = λ b q.
          c.loop-v.invariant.sums b q
          ∙ ap (λ t. slice_index c.args.self.now.sums b + (if t then amount_for c.args.net.now.objective c.args.net.now.weight p pins b else 0))
          (sym (kept b));
      own = c.loop-v.invariant.own;
      marked = λ b l q. c.mark.ensures.seen b l ∙ ap (λ t. t || nat_eq block b) (c.loop-v.invariant.marked b l q) ∙
          sym (touched_more p pins i b c.loop-v-test.true);
    }

pub saved-requires : goal.saved-requires
saved-requires c =
    let p = c.args.net.now.blocks.now in
    let pins = c.args.net.now.pins.now in
    let v = slice_index pins c.loop-v.v-index in
    let now = c.requires.counts v 0 (c.args.net.now.pinned c.loop-v.v-index 0 c.loop-v-test.true) in
    let few = pins_in-le p pins (slice_index p v) in
    let read = c.count-pins.ensures in
    omega arith

pub add-requires-clause-room : goal.add-requires-clause-room
add-requires-clause-room c =
    let p = c.args.net.now.blocks.now in
    let net = c.args.net.now in
    let v = slice_index net.pins.now c.loop-v.v-index in
    let block = slice_index p v in
    let inside = c.args.net.now.pinned c.loop-v.v-index 0 c.loop-v-test.true in
    let new : nat_lt 0 (pins_in p (take c.loop-v.v-index net.pins.now) block) ≡ false =
    sym (c.loop-v.invariant.marked block (c.args.net.now.below v 0 inside) c.if-block-from.false) ∙ not-true (is_seen c.loop-v.self.seen block)
    (sym c.mark.ensures.first ∙ c.if-not-mark.false) in
    let none = amount_first p net.pins.now c.loop-v.v-index block net.objective net.weight new in
    let was = c.loop-v.invariant.sums block c.if-block-from.false in
    let amount = amount_is net.objective net.weight c.saved.result c.count-pins.result (length net.pins.now) p net.pins.now block c.saved.ensures.value
    (c.count-pins.ensures.value ∙ c.requires.counts v 0 inside) refl in
    let room = c.requires.room block in
    omega arith

pub loop-v-preserved : goal.loop-v-preserved
loop-v-preserved c =
    let p = c.args.net.now.blocks.now in
    let net = c.args.net.now in
    let i = c.loop-v.v-index in
    let v = slice_index net.pins.now i in
    let block = slice_index p v in
    let inside = c.args.net.now.pinned i 0 c.loop-v-test.true in
    let low = c.args.net.now.below v 0 inside in
    let new : nat_lt 0 (pins_in p (take i net.pins.now) block) ≡ false =
    sym (c.loop-v.invariant.marked block low c.if-block-from.false) ∙ not-true (is_seen c.loop-v.self.seen block) (sym c.mark.ensures.first ∙
    c.if-not-mark.false) in
    let amount = amount_is net.objective net.weight c.saved.result c.count-pins.result (length net.pins.now) p net.pins.now block c.saved.ensures.value
    (c.count-pins.ensures.value ∙ c.requires.counts v 0 inside) refl in
    record {
      sums = λ b q.
          ap (λ xs. slice_index xs b) c.add.ensures.sums
          ∙ sums_step p net.pins.now i block c.args.from net.objective net.weight (net.weight * c.saved.result) c.loop-v.self.sums c.args.self.now.sums
          c.loop-v-test.true refl
          (let size = c.add.ensures.size in omega arith) amount new c.loop-v.invariant.sums b q;
      own = ap (λ xs. slice_index xs c.args.from) c.add.ensures.sums ∙ get_or-set_other c.loop-v.self.sums block c.args.from _ 0
          (λ e. c.if-block-from.false (sym e)) ∙ c.loop-v.invariant.own;
      marked = λ b l q. c.mark.ensures.seen b l ∙ ap (λ t. t || nat_eq block b) (c.loop-v.invariant.marked b l q) ∙
          sym (touched_more p net.pins.now i b c.loop-v-test.true);
    }

pub returns-clause-sums : goal.returns-clause-sums
returns-clause-sums c b q =
    let p = c.args.net.now.blocks.now in
    let pins = c.args.net.now.pins.now in
    c.loop-v.invariant.sums b q
    ∙ ap (λ ps. slice_index c.args.self.now.sums b + (if nat_lt 0 (pins_in p ps b) then amount_for c.args.net.now.objective c.args.net.now.weight p pins
    b else 0)) (take_all c.loop-v.v-index pins (omega arith))
    ∙ ap (λ x. slice_index c.args.self.now.sums b + x) (amount_all c.args.net.now.objective c.args.net.now.weight p pins b)
