use Rattle.std.proofs.Common.{◌≡◌, ◌∙◌, ℕ, sym, ap, arith}
use Rattle.hg_base.specs.Packed.{fields_of, field}
use Rattle.pin_plain.proofs.TallyLaws.{words_more, words_none}
use Rattle.pin_plain.proofs.scores.Scores.add_by_words.Goals as goal

field_zero : (bits place : ℕ) → field 0 bits place ≡ 0
field_zero bits place = grind arith

pub loop-i-preserved-then-word-eq0 : goal.loop-i-preserved-then-word-eq0
loop-i-preserved-then-word-eq0 c =
    let net = c.args.net.now in
    let f = fields_of net.bits in
    let i = c.loop-i.i in
    record {
      sums = λ b q.
          let was = c.loop-i.invariant.sums b q in
          let more = words_more net.objective net.weight c.args.net.now.blocks.now net.pins.now i f b in
          let none =
          words_none net.objective net.weight c.args.net.now.blocks.now net.pins.now i f b
          (λ place l. sym (c.requires.counts i place c.loop-i-test.true l) ∙ ap (λ w. field w net.bits place) c.if-word-eq0.true ∙
          field_zero net.bits place) in
          omega arith;
      own = c.loop-i.invariant.own;
    }

pub loop-i-preserved : goal.loop-i-preserved
loop-i-preserved c =
    let net = c.args.net.now in
    let f = fields_of net.bits in
    let i = c.loop-i.i in
    record {
      sums = λ b q.
          let was = c.loop-i.invariant.sums b q in
          let more = words_more net.objective net.weight c.args.net.now.blocks.now net.pins.now i f b in
          let step = c.add_word.ensures.sums b q in
          omega arith;
      own = c.add_word.ensures.own ∙ c.loop-i.invariant.own;
    }
