use Rattle.std.proofs.Common.{◌≡◌, ℕ, ◌+◌, ◌/◌, ◌%◌, slice_index, slice_set, nat_eq, if◌then◌else◌, ap, sym, ◌∙◌}
use Rattle.hg_base.specs.Packed.{count_at, field, fields_of}
use Rattle.pin_plain.proofs.FieldLaws.{lower_count}
use Rattle.pin_plain.proofs.counts.lower.Goals as goal

pub returns-clause-counts : goal.returns-clause-counts
returns-clause-counts c = λ x.
    let at : c.args.start + c.place_of-word.result.0 ≡ c.args.start + c.args.b / fields_of c.args.bits =
    ap (λ w. c.args.start + w) c.place_of-word.ensures.word in
    let fields : (q : ℕ) → field c.lower_field.result c.args.bits q + (if nat_eq q (c.args.b % fields_of c.args.bits) then 1 else 0) ≡
    field (slice_index c.args.words.now (c.args.start + c.args.b / fields_of c.args.bits)) c.args.bits q =
    λ q. ap (λ (p : ℕ). field c.lower_field.result c.args.bits q + (if nat_eq q p then 1 else 0)) (sym c.place_of-word.ensures.place)
    ∙ c.lower_field.ensures.fields q ∙ ap (λ (w : ℕ). field (slice_index c.args.words.now w) c.args.bits q) at in
    ap (λ w. count_at (slice_set c.args.words.now w c.lower_field.result) c.args.start c.args.bits x + (if nat_eq x c.args.b then 1 else 0)) at
    ∙ lower_count c.args.words.now c.args.start c.args.bits c.args.b c.lower_field.result c.requires.inside fields x
