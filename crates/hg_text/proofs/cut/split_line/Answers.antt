use Rattle.std.proofs.Common.{ap, sym, refl, ◌+◌, ◌∙◌, length, take, arith, ℕ, List, ◌∷◌}
use Rattle.std.proofs.lemmas.Bool.{false_from_ne_true}
use Rattle.std.proofs.lemmas.List.{take_all, drop_all, take_rest}
use Rattle.hg_text.specs.Kept.{lines}
use Rattle.hg_text.proofs.Cuts.{lines_at, lines_last}
use Rattle.hg_text.proofs.cut.split_line.Goals as goal

pub returns-in-Some-clause-lines : goal.returns-in-Some-clause-lines
returns-in-Some-clause-lines c =
    let text : List ℕ = c.args.text.now in
    let end : ℕ = c.in-Some.end in
    lines_at text end c.in-Some.ensures.0.high c.in-Some.ensures.1 (λ k h. false_from_ne_true _ (c.in-Some.ensures.0.before k (omega arith) h))
    ∙ ap (λ (rest : List ℕ). take end text ∷ lines rest) (sym (take_rest text (end + 1)))

pub returns-in-None-clause-lines : goal.returns-in-None-clause-lines
returns-in-None-clause-lines c =
    let text : List ℕ = c.args.text.now in
    lines_last text c.requires (λ k h. false_from_ne_true _ (c.in-None.ensures k (omega arith) h))
    ∙ sym (rw (c.split_at.ensures.front, c.split_at.ensures.back, take_all (length text) text (omega arith), drop_all (length text) text (omega arith))
    refl)
