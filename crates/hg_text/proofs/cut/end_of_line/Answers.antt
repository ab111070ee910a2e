use Rattle.std.proofs.Common.{◌≡◌, ℕ, ◌+◌, ◌-◌, ◌<◌, List, length, take, drop, get_or, true, sym, ◌∙◌, ap, arith, inr, add-one}
use Rattle.std.proofs.lemmas.Bool.{false_from_ne_true}
use Rattle.std.proofs.lemmas.List.{take_rest, length-drop}
use Rattle.hg_text.specs.Kept.{is_line_feed}
use Rattle.hg_text.proofs.Parts.{lines_cut, lists_parted, read_behind, fails_behind}
use Rattle.hg_text.proofs.cut.end_of_line.Goals as goal

pub returns-in-Some-clause-lines : goal.returns-in-Some-clause-lines
returns-in-Some-clause-lines c =
    let text : List ℕ = c.args.text.now in
    let from : ℕ = c.args.from in
    let end : ℕ = c.in-Some.end in
    let hit : is_line_feed (get_or text (from + end) 0) ≡ true = sym (ap is_line_feed (read_behind text from end)) ∙ c.in-Some.ensures.1 in
    let inside : from + end < length text = omega (arith, c.in-Some.ensures.0.high, ap length (take_rest text from), length-drop from text) in
    rw add-one (lines_cut text (from + end) inside hit)

pub returns-in-Some-clause-kept : goal.returns-in-Some-clause-kept
returns-in-Some-clause-kept c =
    let text : List ℕ = c.args.text.now in
    let end : ℕ = c.args.from + c.in-Some.end + 1 in
    lists_parted text (take end text) (drop end text) (returns-in-Some-clause-lines c)

pub returns-in-Some-clause-ends : goal.returns-in-Some-clause-ends
returns-in-Some-clause-ends c =
    let text : List ℕ = c.args.text.now in
    let from : ℕ = c.args.from in
    let end : ℕ = c.in-Some.end in
    let hit : is_line_feed (get_or text (from + end) 0) ≡ true = sym (ap is_line_feed (read_behind text from end)) ∙ c.in-Some.ensures.1 in
    let before : from + end + 1 - 1 ≡ from + end = omega arith in
    inr (omega arith, ap (λ (n : ℕ). is_line_feed (get_or text n 0)) before ∙ hit)

pub returns-in-Some-clause-first : goal.returns-in-Some-clause-first
returns-in-Some-clause-first c k low high =
    fails_behind c.args.text.now c.args.from c.in-Some.end (λ j h. false_from_ne_true _ (c.in-Some.ensures.0.before j (omega arith) h)) k low (omega arith)

pub returns-in-None-clause-first : goal.returns-in-None-clause-first
returns-in-None-clause-first c k low high =
    let text : List ℕ = c.args.text.now in
    let size = length-drop c.args.from text in
    let same = ap length (take_rest text c.args.from) in
    fails_behind text c.args.from (length (take (length text - c.args.from) (drop c.args.from text))) (λ j h. false_from_ne_true _ (c.in-None.ensures j (omega arith) h)) k low (omega arith)
