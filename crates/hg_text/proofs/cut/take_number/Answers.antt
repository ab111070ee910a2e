use Rattle.std.proofs.Common.{ℕ, List, ◌≤◌, ◌≡◌, true, get_or, sym, ◌∙◌, arith}
use Rattle.hg_text.specs.Kept.{is_blank}
use Rattle.hg_text.proofs.Numbers.{few_in_line, spells_blank, spells_last}
use Rattle.hg_text.proofs.cut.take_number.Goals as goal

pub returns-then-count-len-clause-spelt : goal.returns-then-count-len-clause-spelt
returns-then-count-len-clause-spelt c =
    let text : List ℕ = c.args.text.now in
    let count : ℕ = c.few_digits-count.result.0 in
    spells_last text c.args.len count c.few_digits-count.result.1 c.requires.part c.requires.stops c.few_digits-count.ensures.count (omega arith)
    (omega arith) c.few_digits-count.ensures.value (omega arith) (omega arith)

pub bounds-text-count : goal.bounds-text-count
bounds-text-count c =
    omega (
      arith,
      (few_in_line c.args.text.now c.args.len c.few_digits-count.result.0 c.requires.part c.requires.stops c.few_digits-count.ensures.count (omega arith)).0,
    )

pub returns-then-is_blank-clause-spelt : goal.returns-then-is_blank-clause-spelt
returns-then-is_blank-clause-spelt c =
    let text : List ℕ = c.args.text.now in
    let count : ℕ = c.few_digits-count.result.0 in
    let least : count ≤ c.args.len = (few_in_line text c.args.len count c.requires.part c.requires.stops c.few_digits-count.ensures.count (omega arith)).0 in
    let blank : is_blank (get_or text count 0) ≡ true = sym c.is_blank.ensures ∙ c.if-is_blank.true in
    spells_blank text c.args.len count c.few_digits-count.result.1 c.requires.part c.requires.stops c.few_digits-count.ensures.count (omega arith)
    (omega arith) c.few_digits-count.ensures.value (omega arith) (omega arith) blank

pub returns-then-is_blank-clause-part : goal.returns-then-is_blank-clause-part
returns-then-is_blank-clause-part c =
    omega (
      arith,
      (few_in_line c.args.text.now c.args.len c.few_digits-count.result.0 c.requires.part c.requires.stops c.few_digits-count.ensures.count (omega arith)).0,
    )
