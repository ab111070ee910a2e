use Rattle.std.proofs.Common.{◌≡◌, ℕ, ◌⊎◌, List, true, false, sym, ◌∙◌, arith, inl, inr}
use Rattle.hg_text.specs.Cut.{ends_field}
use Rattle.hg_text.proofs.Numbers.{digits_end, spells_digits, spells_none}
use Rattle.hg_text.proofs.cut.number_at.Goals as goal
use Rattle.hg_text.proofs.cut.number_at.Goals.{else-count-gt0-via-then-count-gt0+else-is_end, else-count-gt0-via-else-count-gt0}

pub returns-then-is_end-clause-spelt : goal.returns-then-is_end-clause-spelt
returns-then-is_end-clause-spelt c =
    let line : List ℕ = c.args.line.now in
    let count : ℕ = c.leading_digits-count.result.0 in
    let ends : ends_field line count ≡ true = sym c.is_end.ensures ∙ c.if-is_end.true in
    rw c.ok_or.ensures.value
    (spells_digits line count c.leading_digits-count.result.1 c.leading_digits-count.ensures.count
    (digits_end line count c.leading_digits-count.ensures.count c.if-count-gt0.true ends)
    c.leading_digits-count.ensures.value)

pub returns-clause-spelt : goal.returns-clause-spelt
returns-clause-spelt c =
    let line : List ℕ = c.args.line.now in
    let count : ℕ = c.leading_digits-count.result.0 in
    let early : (count ≡ 0) ⊎ (ends_field line count ≡ false) =
    elim c.else-count-gt0.branch [
      | else-count-gt0-via-then-count-gt0+else-is_end w ↦ inr (sym w.is_end.ensures ∙ w.if-is_end.false)
      | else-count-gt0-via-else-count-gt0 w ↦ inl (omega arith)
    ] in
    spells_none line count c.field_len.result c.leading_digits-count.ensures.count c.field_len.ensures early
