use Rattle.std.proofs.Common.{◌≡◌, ◌+◌, ◌-◌, ◌*◌, ℕ, List, take, drop, get_or, sym, arith}
use Rattle.std.specs.List.{prefix_len}
use Rattle.std.specs.Char.{is_ascii_digit}
use Rattle.std.specs.Str.Parse.{digits_value}
use Rattle.std.proofs.lemmas.List.Sums.{prefix_len-drop_yes}
use Rattle.hg_text.proofs.Digits.{value_more, room, room_more}
use Rattle.hg_text.proofs.numeral.short_digits.Goals as goal

pub overflow_mul-value : goal.overflow_mul-value
overflow_mul-value c = omega (arith, room c.loop-count.value c.loop-count.count c.loop-count.invariant.3 (omega arith))

pub overflow_add-value : goal.overflow_add-value
overflow_add-value c =
    omega (arith, room c.loop-count.value c.loop-count.count c.loop-count.invariant.3 (omega arith), c.if-is_ascii_digit.ensures.cases.1)

pub loop-count-preserved : goal.loop-count-preserved
loop-count-preserved c =
    let text : List ℕ = c.args.text.now in
    let i : ℕ = c.loop-count.count in
    let more : digits_value 10 (take (i + 1) text) ≡ digits_value 10 (take i text) * 10 + (get_or text i 0 - 48) = value_more text i (omega arith)
    c.if-is_ascii_digit.ensures.cases.0 c.if-is_ascii_digit.ensures.cases.1 in
    let behind : prefix_len is_ascii_digit (drop i text) ≡ 1 + prefix_len is_ascii_digit (drop (i + 1) text) = prefix_len-drop_yes is_ascii_digit text i 0
    (omega arith) (sym c.if-is_ascii_digit.ensures.value) in (
      omega arith,
      omega arith,
      omega arith,
      room_more c.loop-count.value i c.from.result c.loop-count.invariant.3
          (omega (arith, c.if-is_ascii_digit.ensures.cases.1)),
    )
