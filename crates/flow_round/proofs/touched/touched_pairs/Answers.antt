use Rattle.std.proofs.Common.{◌≡◌, ◌+◌, ◌∙◌, ℕ, true, map, sym, ap, subst, arith}
use Rattle.std.proofs.lemmas.List.{map-append}
use Rattle.std.specs.declared.cmp.Reverse.{Reverse}
use Rattle.round_log.specs.Rounds.{touching}
use Rattle.flow_round.specs.PairTurns.{is_of_wave}
use Rattle.flow_round.specs.Waves.{AreTouched}
use Rattle.flow_round.proofs.FoundLaws.{touched_more, touched_same, touched_sorted}
use Rattle.flow_round.proofs.touched.touched_pairs.Goals as goal
use Rattle.flow_round.proofs.touched.touched_pairs.Goals.{then-touch+in_ok-push, else-touch}

abbrev first_of : Reverse (ℕ × ℕ) × ℕ → ℕ
first_of pair = pair.1

pub loop-first-preserved : goal.loop-first-preserved
loop-first-preserved c = elim c.if-touch.branch [
  | then-touch+in_ok-push w ↦
      let h = c.args.h.now in
      let p = c.args.p.now in
      let n = c.loop-first.first in
      let t : is_of_wave p.k c.args.wave n ≡ true = subst (λ k. is_of_wave k c.args.wave n ≡ true) c.k-k.ensures c.in-Some.ensures.0 in
      let same = ap (λ v. v.items) w.pairs-is ∙ w.in_ok-push.ensures.items in
      subst (λ xs. AreTouched h p c.args.wave (n + 1) (map first_of xs)) (sym same)
      (subst (AreTouched h p c.args.wave (n + 1)) (sym (map-append first_of c.loop-first.pairs.items _))
      (touched_more h p c.args.wave n (map first_of c.loop-first.pairs.items) t c.loop-first.invariant))
  | else-touch w ↦
      let h = c.args.h.now in
      let p = c.args.p.now in
      let n = c.loop-first.first in
      let same = ap (λ v. v.items) w.pairs-is in
      subst (λ xs. AreTouched h p c.args.wave (n + 1) (map first_of xs)) (sym same)
      (touched_same h p c.args.wave n (map first_of c.loop-first.pairs.items)
      (λ t. ap (touching h p.blocks n) (sym c.in-Some.ensures.1) ∙ c.touch.ensures.0 w.if-touch.false) c.loop-first.invariant)
]

pub returns : goal.returns
returns c =
    let h = c.args.h.now in
    let p = c.args.p.now in
    let end : c.loop-first.first ≡ p.k = (let e = c.k-k.ensures in let f = c.loop-first-test.false in let l = c.loop-first.auto.first-end in omega arith) in
    touched_sorted h p c.args.wave first_of p.k c.loop-first.pairs.items c.sort_unstable.new.self.items c.sort_unstable.ensures.permutation
    (subst (λ n. AreTouched h p c.args.wave n (map first_of c.loop-first.pairs.items)) end c.loop-first.invariant)
