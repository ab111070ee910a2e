use Rattle.std.proofs.Common.{◌≡◌, ◌<◌, ◌≤◌, length, arith, ℕ, List, sym, ◌∙◌, ap, inl, inr, ◌⊎◌, Option, Some, None, if◌then◌else◌, nat_lt, ◌^◌, refl}
use Rattle.std.specs.List.{prefix_len}
use Rattle.std.specs.Char.{is_ascii_digit}
use Rattle.std.specs.Option.{ok_or}
use Rattle.std.specs.Str.Parse.{digits_value}
use Rattle.std.proofs.lemmas.List.{take_all}
use Rattle.std.proofs.lemmas.List.Sums.{prefix_len-le-length}
use Rattle.hg_text.specs.declared.numeral.BadNumber.TheVariants.{TooBig}
use Rattle.hg_text.proofs.Digits.{number_not_digits, number_digits, fitting_option}
use Rattle.hg_text.proofs.numeral.number.Goals as goal
use Rattle.hg_text.proofs.numeral.number.Goals.{then-count-eq0-via-then-count-eq0, then-count-eq0-via-else-count-eq0+then-count-field}

pub returns-then-count-eq0 : goal.returns-then-count-eq0
returns-then-count-eq0 c =
    let field : List ℕ = c.args.field.now in
    let early : (prefix_len is_ascii_digit field ≡ 0) ⊎ (prefix_len is_ascii_digit field < length field) = elim c.then-count-eq0.either
    [ inl e ↦ inl (omega arith) | inr l ↦ inr (omega arith) ] in
    sym (number_not_digits field early)

pub returns : goal.returns
returns c =
    let field : List ℕ = c.args.field.now in
    let count : ℕ = c.leading_digits-count.result.0 in
    let many : length field ≤ count = omega arith in
    let value : c.leading_digits-count.result.1 ≡ (if nat_lt (digits_value 10 field) (2 ^ 64) then Some (digits_value 10 field) else None) =
    c.leading_digits-count.ensures.value ∙ rw (take_all count field many) refl in
    c.ok_or.ensures.value ∙ ap (λ (o : Option ℕ). ok_or o TooBig) value ∙ fitting_option (digits_value 10 field)
    ∙ sym (number_digits field (omega (arith, prefix_len-le-length is_ascii_digit field)) (omega arith))
