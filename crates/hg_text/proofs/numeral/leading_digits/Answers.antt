use Rattle.std.proofs.Common.{◌≡◌, ℕ, take, ap, ◌∙◌, arith}
use Rattle.std.specs.Str.Parse.{digits_value}
use Rattle.hg_text.proofs.numeral.leading_digits.Goals as goal

pub more_digits-requires-clause-value : goal.more_digits-requires-clause-value
more_digits-requires-clause-value c =
    let all : c.few_digits-count.result.0 ≡ 8 = omega arith in
    c.few_digits-count.ensures.value ∙ ap (λ (k : ℕ). digits_value 10 (take k c.args.text.now)) all
