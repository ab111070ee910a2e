use Rattle.std.proofs.Common.{◌∙◌, ℕ, [], inl, length, map, refl, sym, subst}
use Rattle.std.proofs.lemmas.Bool.{eqb-true}
use Rattle.std.proofs.lemmas.List.{nil_from_length}
use Rattle.std.specs.declared.cmp.Reverse.{Reverse}
use Rattle.hg_defs.proofs.SortLaws.{Contains-nil}
use Rattle.flow_round.specs.Waves.{AreTouched}
use Rattle.flow_round.proofs.FoundLaws.{gains_all}
use Rattle.flow_round.proofs.worker.solve_wave.Goals as goal

abbrev first_of : Reverse (ℕ × ℕ) × ℕ → ℕ
first_of pair = pair.1

pub returns-then-is_empty-clause-ends : goal.returns-then-is_empty-clause-ends
returns-then-is_empty-clause-ends g c =
    let h = c.args.h.now in
    let p = c.args.p.now in
    let s = c.args.wave in
    let pairs = c.as_slice-pairs.result.now in
    let none = nil_from_length pairs (eqb-true (length pairs) 0 (sym c.is_empty.ensures ∙ c.if-is_empty.true)) in
    let touched = subst (λ xs. AreTouched h p s p.k (map first_of xs)) (sym c.as_slice-pairs.ensures.value ∙ none) c.in_ok-made.ensures in
    gains_all h p s c.args.ends.now c.args.ends.now [] touched (λ x b sum. inl (c.requires.none x b sum)) (λ x b n. refl) (λ a d. absurd (Contains-nil a d))
