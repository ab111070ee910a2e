use Rattle.std.proofs.Common.{◌≡◌, ◌+◌, ◌-◌, ℕ, Bool, true, false, if◌then◌else◌, nat_eq, ◌∙◌}
use Rattle.std.proofs.Common.{take, slice_index, slice_set, refl, sym, ap, subst, arith}
use Rattle.std.proofs.lemmas.List.{take_all}
use Rattle.hg_base.specs.Packed.{count_at}
use Rattle.hg_defs.proofs.SumLaws.{weight_if, weight_if-le}
use Rattle.pin_plain.proofs.OpeningLaws.{few_blocks, few_pins}
use Rattle.hg_defs.specs.Moves.{moved}
use Rattle.pin_plain.specs.Counts.{net_bits, net_place, HoldsCounts, HaveSpreadsBetween, counts_between}
use Rattle.pin_plain.proofs.CountLaws.{all_words-le, part_inside, pin_held, pin_room, pin_moved, all_moved, all_respread, net_part}
use Rattle.pin_plain.proofs.CountLaws.{spreads_kept, spread_before, spread_after, spreads_moved, counts_beside}
use Rattle.pin_plain.proofs.counts.move_pin.Goals as goal
use mir.Val.{bool_byte}

byte_is : (t : Bool) → bool_byte t ≡ (if t then 1 else 0)
byte_is true = refl
byte_is false = refl

pub lower-requires-clause-inside : goal.lower-requires-clause-inside
lower-requires-clause-inside c =
    let h = c.args.h.now in
    let e = slice_index c.nets_of-e-items.result.now c.loop-e.e-index in
    let net = c.nets_of-e-items.ensures.below c.loop-e.e-index 0 c.loop-e-test.true in
    let bits : c.from-bits.result ≡ net_bits h e = c.from-bits.ensures ∙ c.requires.wide.width_of e net in
    let blocks = c.requires.parted.partition in
    let vertex = c.requires.vertex in
    let inside =
    part_inside h c.args.k c.args.starts.now c.args.words.now e (slice_index c.args.blocks.now c.args.v) (slice_index c.args.starts.now e)
    c.from-bits.result c.requires.laid net
    (blocks.blocks c.args.v 0 (let long = blocks.vertices in omega arith)) (c.requires.laid.starts_at e net) bits in
    omega arith

pub lower-requires-clause-few : goal.lower-requires-clause-few
lower-requires-clause-few c =
    let all = c.requires.laid.all in
    let few = all_words-le c.args.h.now c.args.k c.requires.parted.some c.requires.parted.few c.requires.parted.bounds c.requires.parted.suits in
    omega arith

pub lower-requires-clause-held : goal.lower-requires-clause-held
lower-requires-clause-held c =
    let h = c.args.h.now in
    let e = slice_index c.nets_of-e-items.result.now c.loop-e.e-index in
    let net = c.nets_of-e-items.ensures.below c.loop-e.e-index 0 c.loop-e-test.true in
    let bits : c.from-bits.result ≡ net_bits h e = c.from-bits.ensures ∙ c.requires.wide.width_of e net in
    pin_held h c.args.k c.args.blocks.now c.args.v c.args.to e c.loop-e.e-index c.nets_of-e-items.result.now c.requires.parted.sound
    c.requires.parted.partition c.requires.vertex c.requires.block
    c.requires.other c.nets_of-e-items.ensures.value c.loop-e-test.true refl c.loop-e.words (slice_index c.args.starts.now e) c.from-bits.result
    (c.requires.laid.starts_at e net) bits c.loop-e.invariant.counted

pub raise-requires-clause-inside : goal.raise-requires-clause-inside
raise-requires-clause-inside c =
    let h = c.args.h.now in
    let e = slice_index c.nets_of-e-items.result.now c.loop-e.e-index in
    let net = c.nets_of-e-items.ensures.below c.loop-e.e-index 0 c.loop-e-test.true in
    let bits : c.from-bits.result ≡ net_bits h e = c.from-bits.ensures ∙ c.requires.wide.width_of e net in
    let inside =
    part_inside h c.args.k c.args.starts.now c.args.words.now e c.args.to (slice_index c.args.starts.now e) c.from-bits.result c.requires.laid net
    c.requires.block
    (c.requires.laid.starts_at e net) bits in
    omega arith

pub raise-requires-clause-few : goal.raise-requires-clause-few
raise-requires-clause-few c =
    let all = c.requires.laid.all in
    let few = all_words-le c.args.h.now c.args.k c.requires.parted.some c.requires.parted.few c.requires.parted.bounds c.requires.parted.suits in
    omega arith

pub raise-requires-clause-room : goal.raise-requires-clause-room
raise-requires-clause-room c =
    let h = c.args.h.now in
    let e = slice_index c.nets_of-e-items.result.now c.loop-e.e-index in
    let net = c.nets_of-e-items.ensures.below c.loop-e.e-index 0 c.loop-e-test.true in
    let bits : c.from-bits.result ≡ net_bits h e = c.from-bits.ensures ∙ c.requires.wide.width_of e net in
    pin_room h c.args.k c.args.blocks.now c.args.v c.args.to e c.loop-e.e-index c.nets_of-e-items.result.now c.requires.parted.sound
    c.requires.parted.partition c.requires.vertex c.requires.block
    c.requires.other c.nets_of-e-items.ensures.value c.loop-e-test.true refl c.loop-e.words (slice_index c.args.starts.now e) c.from-bits.result
    (c.requires.laid.starts_at e net) bits c.loop-e.invariant.counted
    c.lower.new.words c.lower.ensures.counts (few_pins h e c.requires.parted.bounds net)

pub count-requires-clause-inside : goal.count-requires-clause-inside
count-requires-clause-inside c =
    let h = c.args.h.now in
    let e = slice_index c.nets_of-e-items.result.now c.loop-e.e-index in
    let net = c.nets_of-e-items.ensures.below c.loop-e.e-index 0 c.loop-e-test.true in
    let bits : c.from-bits.result ≡ net_bits h e = c.from-bits.ensures ∙ c.requires.wide.width_of e net in
    let blocks = c.requires.parted.partition in
    let vertex = c.requires.vertex in
    let inside =
    part_inside h c.args.k c.args.starts.now c.args.words.now e (slice_index c.args.blocks.now c.args.v) (slice_index c.args.starts.now e)
    c.from-bits.result c.requires.laid net
    (blocks.blocks c.args.v 0 (let long = blocks.vertices in omega arith)) (c.requires.laid.starts_at e net) bits in
    omega arith

pub count-requires-clause-few : goal.count-requires-clause-few
count-requires-clause-few c =
    let all = c.requires.laid.all in
    let few = all_words-le c.args.h.now c.args.k c.requires.parted.some c.requires.parted.few c.requires.parted.bounds c.requires.parted.suits in
    omega arith

pub count-requires-in-loop-e-clause-inside : goal.count-requires-in-loop-e-clause-inside
count-requires-in-loop-e-clause-inside c =
    let h = c.args.h.now in
    let e = slice_index c.nets_of-e-items.result.now c.loop-e.e-index in
    let net = c.nets_of-e-items.ensures.below c.loop-e.e-index 0 c.loop-e-test.true in
    let bits : c.from-bits.result ≡ net_bits h e = c.from-bits.ensures ∙ c.requires.wide.width_of e net in
    let inside =
    part_inside h c.args.k c.args.starts.now c.args.words.now e c.args.to (slice_index c.args.starts.now e) c.from-bits.result c.requires.laid net
    c.requires.block
    (c.requires.laid.starts_at e net) bits in
    omega arith

pub count-requires-in-loop-e-clause-few : goal.count-requires-in-loop-e-clause-few
count-requires-in-loop-e-clause-few c =
    let all = c.requires.laid.all in
    let few = all_words-le c.args.h.now c.args.k c.requires.parted.some c.requires.parted.few c.requires.parted.bounds c.requires.parted.suits in
    omega arith

pub overflow_add-words : goal.overflow_add-words
overflow_add-words c =
    let h = c.args.h.now in
    let k = c.args.k in
    let p = c.args.blocks.now in
    let e = slice_index c.nets_of-e-items.result.now c.loop-e.e-index in
    let words = c.loop-e.words in
    let net = c.nets_of-e-items.ensures.below c.loop-e.e-index 0 c.loop-e-test.true in
    let bits : c.from-bits.result ≡ net_bits h e = c.from-bits.ensures ∙ c.requires.wide.width_of e net in
    let start = c.requires.laid.starts_at e net in
    let kept = spreads_kept h k p c.args.v c.args.to e c.loop-e.e-index c.nets_of-e-items.result.now c.requires.parted.sound c.requires.parted.partition
    c.requires.vertex c.requires.block c.requires.other c.nets_of-e-items.ensures.value c.loop-e-test.true refl words (slice_index c.args.starts.now e)
    c.from-bits.result start bits c.loop-e.invariant.counted c.lower.new.words c.raise.new.words c.lower.ensures.others c.raise.ensures.others in
    let was = spread_before h k p c.args.v c.args.to e c.loop-e.e-index c.nets_of-e-items.result.now c.requires.parted.sound c.requires.parted.partition
    c.requires.vertex c.requires.block c.requires.other c.nets_of-e-items.ensures.value c.loop-e-test.true refl words (slice_index c.args.starts.now e)
    c.from-bits.result start bits c.loop-e.invariant.counted c.loop-e.invariant.spreads in
    let at : slice_index c.args.starts.now e - 1 ≡ net_place h k e = omega arith in
    let now = ap (slice_index c.raise.new.words) at ∙ kept e ∙ was in
    let joined = c.from-joined.ensures ∙ byte_is (nat_eq c.count-in-loop-e.result 0) ∙ ap (λ n. weight_if n 0 1) c.count-in-loop-e.ensures.value in
    let left = c.from-left.ensures ∙ byte_is (nat_eq c.count.result 1) ∙ ap (λ n. weight_if n 1 1) c.count.ensures.value in
    let few = few_blocks h k p e c.requires.parted net in
    let one = weight_if-le (count_at words (slice_index c.args.starts.now e) c.from-bits.result c.args.to) 0 1 in
    omega arith

pub overflow_sub-words : goal.overflow_sub-words
overflow_sub-words c =
    let h = c.args.h.now in
    let k = c.args.k in
    let p = c.args.blocks.now in
    let e = slice_index c.nets_of-e-items.result.now c.loop-e.e-index in
    let words = c.loop-e.words in
    let net = c.nets_of-e-items.ensures.below c.loop-e.e-index 0 c.loop-e-test.true in
    let bits : c.from-bits.result ≡ net_bits h e = c.from-bits.ensures ∙ c.requires.wide.width_of e net in
    let start = c.requires.laid.starts_at e net in
    let kept = spreads_kept h k p c.args.v c.args.to e c.loop-e.e-index c.nets_of-e-items.result.now c.requires.parted.sound c.requires.parted.partition
    c.requires.vertex c.requires.block c.requires.other c.nets_of-e-items.ensures.value c.loop-e-test.true refl words (slice_index c.args.starts.now e)
    c.from-bits.result start bits c.loop-e.invariant.counted c.lower.new.words c.raise.new.words c.lower.ensures.others c.raise.ensures.others in
    let was = spread_before h k p c.args.v c.args.to e c.loop-e.e-index c.nets_of-e-items.result.now c.requires.parted.sound c.requires.parted.partition
    c.requires.vertex c.requires.block c.requires.other c.nets_of-e-items.ensures.value c.loop-e-test.true refl words (slice_index c.args.starts.now e)
    c.from-bits.result start bits c.loop-e.invariant.counted c.loop-e.invariant.spreads in
    let at : slice_index c.args.starts.now e - 1 ≡ net_place h k e = omega arith in
    let now = ap (slice_index c.raise.new.words) at ∙ kept e ∙ was in
    let joined = c.from-joined.ensures ∙ byte_is (nat_eq c.count-in-loop-e.result 0) ∙ ap (λ n. weight_if n 0 1) c.count-in-loop-e.ensures.value in
    let left = c.from-left.ensures ∙ byte_is (nat_eq c.count.result 1) ∙ ap (λ n. weight_if n 1 1) c.count.ensures.value in
    let one = weight_if-le (count_at words (slice_index c.args.starts.now e) c.from-bits.result (slice_index p c.args.v)) 1 1 in
    omega arith

pub loop-e-preserved : goal.loop-e-preserved
loop-e-preserved c =
    let h = c.args.h.now in
    let k = c.args.k in
    let p = c.args.blocks.now in
    let e = slice_index c.nets_of-e-items.result.now c.loop-e.e-index in
    let words = c.loop-e.words in
    let net = c.nets_of-e-items.ensures.below c.loop-e.e-index 0 c.loop-e-test.true in
    let bits : c.from-bits.result ≡ net_bits h e = c.from-bits.ensures ∙ c.requires.wide.width_of e net in
    let start = c.requires.laid.starts_at e net in
    let kept = spreads_kept h k p c.args.v c.args.to e c.loop-e.e-index c.nets_of-e-items.result.now c.requires.parted.sound c.requires.parted.partition
    c.requires.vertex c.requires.block c.requires.other c.nets_of-e-items.ensures.value c.loop-e-test.true refl words (slice_index c.args.starts.now e)
    c.from-bits.result start bits c.loop-e.invariant.counted c.lower.new.words c.raise.new.words c.lower.ensures.others c.raise.ensures.others in
    let was = spread_before h k p c.args.v c.args.to e c.loop-e.e-index c.nets_of-e-items.result.now c.requires.parted.sound c.requires.parted.partition
    c.requires.vertex c.requires.block c.requires.other c.nets_of-e-items.ensures.value c.loop-e-test.true refl words (slice_index c.args.starts.now e)
    c.from-bits.result start bits c.loop-e.invariant.counted c.loop-e.invariant.spreads in
    let at : slice_index c.args.starts.now e - 1 ≡ net_place h k e = omega arith in
    let now = ap (slice_index c.raise.new.words) at ∙ kept e ∙ was in
    let joined = c.from-joined.ensures ∙ byte_is (nat_eq c.count-in-loop-e.result 0) ∙ ap (λ n. weight_if n 0 1) c.count-in-loop-e.ensures.value in
    let left = c.from-left.ensures ∙ byte_is (nat_eq c.count.result 1) ∙ ap (λ n. weight_if n 1 1) c.count.ensures.value in
    let moved_counts = pin_moved h k p c.args.v c.args.to e c.loop-e.e-index c.nets_of-e-items.result.now c.requires.parted.sound
    c.requires.parted.partition c.requires.vertex c.requires.block
    c.requires.other c.nets_of-e-items.ensures.value c.loop-e-test.true refl words (slice_index c.args.starts.now e) c.from-bits.result
    start bits c.loop-e.invariant.counted
    c.lower.new.words c.lower.ensures.counts c.raise.new.words c.lower.ensures.others c.raise.ensures.counts c.raise.ensures.others in
    let law = spread_after h k p c.args.v c.args.to e c.loop-e.e-index c.nets_of-e-items.result.now c.requires.parted.sound c.requires.parted.partition
    c.requires.vertex c.requires.block c.requires.other c.nets_of-e-items.ensures.value c.loop-e-test.true refl words (slice_index c.args.starts.now e)
    c.from-bits.result start bits c.loop-e.invariant.counted c.from-joined.result c.from-left.result joined left in
    let x : ℕ = slice_index c.raise.new.words (slice_index c.args.starts.now e - 1) + c.from-joined.result - c.from-left.result in
    let same : slice_set c.raise.new.words (slice_index c.args.starts.now e - 1) x ≡ slice_set c.raise.new.words (net_place h k e) x =
    ap (λ i. slice_set c.raise.new.words i x) at in
    let part = net_part h k e net in
    let all = c.requires.laid.all in
    record {
      counted = subst (λ ws. HoldsCounts h k ws (counts_between h p (moved p c.args.v c.args.to) (take (c.loop-e.e-index + 1)
          c.nets_of-e-items.result.now))) (sym same) (counts_beside h k c.raise.new.words _ e x moved_counts);
      spreads = subst (HaveSpreadsBetween h k p (moved p c.args.v c.args.to) (take (c.loop-e.e-index + 1) c.nets_of-e-items.result.now)) (sym same)
          (spreads_moved h k p c.args.v c.args.to e c.loop-e.e-index c.nets_of-e-items.result.now c.requires.parted.sound c.requires.parted.partition
          c.requires.vertex c.requires.block c.requires.other c.nets_of-e-items.ensures.value c.loop-e-test.true refl words (slice_index c.args.starts.now e)
          c.from-bits.result start bits c.loop-e.invariant.counted c.raise.new.words x kept c.loop-e.invariant.spreads (omega arith) (omega arith));
    }

pub returns : goal.returns
returns c =
    let h = c.args.h.now in
    let p = c.args.blocks.now in
    let nets = take_all c.loop-e.e-index c.nets_of-e-items.result.now (omega arith) ∙ c.nets_of-e-items.ensures.value in
    let long = c.requires.parted.partition.vertices in
    let vertex = c.requires.vertex in
    record {
      counted = all_moved h c.args.k p c.loop-e.words c.args.v c.args.to (omega arith)
          (subst (λ ns. HoldsCounts h c.args.k c.loop-e.words (counts_between h p (moved p c.args.v c.args.to) ns)) nets c.loop-e.invariant.counted);
      spreads = all_respread h c.args.k p c.loop-e.words c.args.v c.args.to (omega arith)
          (subst (λ ns. HaveSpreadsBetween h c.args.k p (moved p c.args.v c.args.to) ns c.loop-e.words) nets c.loop-e.invariant.spreads);
    }
