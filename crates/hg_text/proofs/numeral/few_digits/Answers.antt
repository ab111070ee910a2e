use Rattle.std.proofs.Common.{ℕ, List, take, ap, ◌∙◌, arith}
use Rattle.std.specs.List.{prefix_len}
use Rattle.std.specs.Char.{is_ascii_digit}
use Rattle.std.specs.Str.Parse.{digits_value}
use Rattle.std.proofs.lemmas.List.{take-take}
use Rattle.hg_text.proofs.Digits.{prefix_len-take}
use Rattle.hg_text.proofs.numeral.few_digits.Goals as goal

pub returns-in-Some-clause-value : goal.returns-in-Some-clause-value
returns-in-Some-clause-value c =
    let text : List ℕ = c.args.text.now in
    let count : ℕ = c.eight_digits.result.0 in
    let head = c.in-Some.ensures.cases.0 in
    c.eight_digits.ensures.value ∙ ap (λ (xs : List ℕ). digits_value 10 (take count xs)) head
    ∙ ap (digits_value 10) (take-take count 8 text (omega (arith, ap (prefix_len is_ascii_digit) head, prefix_len-take is_ascii_digit 8 text)))
