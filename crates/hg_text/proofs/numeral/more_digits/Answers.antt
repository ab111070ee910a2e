use Rattle.std.proofs.Common.{◌≡◌, ◌≤◌, ◌+◌, ◌*◌, ◌^◌, length, take, drop, arith, ℕ, List, sym, ap, get_or, ◌-◌, Bool, Some, None, if◌then◌else◌}
use Rattle.std.specs.List.{prefix_len}
use Rattle.std.specs.Char.{is_ascii_digit}
use Rattle.std.specs.Str.Parse.{digits_value}
use Rattle.std.proofs.lemmas.List.Sums.{prefix_len-drop_yes, prefix_len-le-length}
use Rattle.std.proofs.lemmas.Bool.{le-ltb}
use Rattle.std.proofs.lemmas.List.{take_rest}
use Rattle.hg_text.proofs.Digits.{value_more, value_past, prefix_len_split}
use Rattle.hg_text.proofs.numeral.more_digits.Goals as goal

pub returns-then-value-digit-clause-value : goal.returns-then-value-digit-clause-value
returns-then-value-digit-clause-value c =
    let text : List ℕ = c.args.text.now in
    let i : ℕ = c.loop-count.count in
    let behind : prefix_len is_ascii_digit (drop i text) ≡ 1 + prefix_len is_ascii_digit (drop (i + 1) text) = prefix_len-drop_yes is_ascii_digit text i 0
    (omega arith) (sym c.if-is_ascii_digit.ensures.value) in
    let whole : prefix_len is_ascii_digit (take (length text - i) (drop i text)) ≡ prefix_len is_ascii_digit (drop i text) = ap (prefix_len is_ascii_digit)
    (take_rest text i) in
    let past : 2 ^ 64 ≤ digits_value 10 (take (i + c.digits_len.result) text) = value_past text i c.digits_len.result (omega arith)
    c.if-is_ascii_digit.ensures.cases.0 c.if-is_ascii_digit.ensures.cases.1 (omega arith) (omega arith) in
    sym (ap (λ (b : Bool). if b then Some (digits_value 10 (take (i + c.digits_len.result) text)) else None) (le-ltb _ _ past))

pub loop-count-preserved : goal.loop-count-preserved
loop-count-preserved c =
    let text : List ℕ = c.args.text.now in
    let i : ℕ = c.loop-count.count in
    let more : digits_value 10 (take (i + 1) text) ≡ digits_value 10 (take i text) * 10 + (get_or text i 0 - 48) = value_more text i (omega arith)
    c.if-is_ascii_digit.ensures.cases.0 c.if-is_ascii_digit.ensures.cases.1 in
    let behind : prefix_len is_ascii_digit (drop i text) ≡ 1 + prefix_len is_ascii_digit (drop (i + 1) text) = prefix_len-drop_yes is_ascii_digit text i 0
    (omega arith) (sym c.if-is_ascii_digit.ensures.value) in
    (omega arith, omega arith, omega arith)

pub loop-count-init : goal.loop-count-init
loop-count-init c = (
  omega (arith, prefix_len-le-length is_ascii_digit c.args.text.now),
  c.requires.value,
  prefix_len_split is_ascii_digit 8 c.args.text.now
      c.requires.digits,
)
