use Rattle.std.proofs.Common.{◌≡◌, ℕ, ◌+◌, ◌/◌, ◌%◌, slice_index, slice_set, nat_eq, if◌then◌else◌, ap, ap₂, ◌∙◌}
use Rattle.hg_base.specs.Packed.{count_at, field, fields_of}
use Rattle.pin_plain.proofs.FieldLaws.{raise_count}
use Rattle.pin_plain.proofs.counts.raise.Goals as goal

pub returns-clause-counts : goal.returns-clause-counts
returns-clause-counts c = λ x.
    let at : c.args.start + c.place_of-word.result.0 ≡ c.args.start + c.args.b / fields_of c.args.bits =
    ap (λ w. c.args.start + w) c.place_of-word.ensures.word in
    let fields : (q : ℕ) → field c.raise_field.result c.args.bits q ≡ field (slice_index c.args.words.now (c.args.start + c.args.b / fields_of c.args.bits)) c.args.bits q +
    (if nat_eq q (c.args.b % fields_of c.args.bits) then 1 else 0) =
    λ q. c.raise_field.ensures.fields q ∙ ap₂ (λ (w p : ℕ). field (slice_index c.args.words.now w) c.args.bits q + (if nat_eq q p then 1 else 0)) at c.place_of-word.ensures.place in
    ap (λ w. count_at (slice_set c.args.words.now w c.raise_field.result) c.args.start c.args.bits x) at
    ∙ raise_count c.args.words.now c.args.start c.args.bits c.args.b c.raise_field.result c.requires.inside fields x
