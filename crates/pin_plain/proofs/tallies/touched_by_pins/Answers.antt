-- One pin more: its block is counted where it is new.
use Rattle.std.proofs.Common.{◌≡◌, ℕ, ◌+◌, ◌<◌, ◌≤◌, Bool, true, false, not, ◌||◌, if◌then◌else◌, nat_eq, length}
use Rattle.std.proofs.Common.{map, take, slice_index, refl, sym, ap, ap₂, ◌∙◌, arith}
use Rattle.std.specs.Set.{is_member, distinct_count}
use Rattle.std.proofs.lemmas.List.{map_more}
use Rattle.hg_defs.specs.Partition.{block_of}
use Rattle.hg_base.proofs.CountLaws.{is_member_push, distinct_push}
use Rattle.pin_plain.proofs.tallies.touched_by_pins.Goals as goal
use mir.Val.{bool_byte}

byte_is : (t : Bool) → bool_byte t ≡ (if t then 1 else 0)
byte_is true = refl
byte_is false = refl

byte-le : (t : Bool) → bool_byte t ≤ 1
byte-le true = omega arith
byte-le false = omega arith

pub loop-v-preserved : goal.loop-v-preserved
loop-v-preserved c =
    let i = c.loop-v.v-index in
    let p = c.args.blocks.now in
    let pins = c.args.pins.now in
    let xs = map (block_of p) (take i pins) in
    let x = block_of p (slice_index pins i) in
    let inside : i < length pins = omega arith in
    let more = map_more (block_of p) pins i 0 inside in
    let new = c.insert.ensures.new ∙ ap not (c.loop-v.invariant.2 x) in
    let added = c.from-touched.ensures ∙ ap bool_byte new ∙ byte_is (not (is_member nat_eq xs x)) in
    let most = byte-le c.insert.result in (
      ap₂ (λ (m n : ℕ). m + n) c.loop-v.invariant.0 added ∙ sym (distinct_push xs x) ∙ sym (ap (distinct_count nat_eq) more),
      omega (arith, c.loop-v.invariant.1, c.from-touched.ensures),
      λ b. c.insert.ensures.joined b ∙ ap (λ t. nat_eq b x || t) (c.loop-v.invariant.2 b) ∙ sym (is_member_push xs x b) ∙
          sym (ap (λ ys. is_member nat_eq ys b) more),
    )
