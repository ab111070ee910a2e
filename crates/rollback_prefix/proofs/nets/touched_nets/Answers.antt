use Rattle.std.proofs.Common.{pos, ◌<◌, ◌-◌, List, [], ◌∷◌, Bool, true, false, set, subst, sym, ap, ◌∙◌, arith, ℕ, get_or}
use Rattle.std.proofs.Common.{below_more, All, Contains}
use Rattle.std.proofs.lemmas.List.{get_or_default}
use Rattle.std.proofs.lemmas.List.Elements.{All-push, Contains-push, Contains-append_left}
use Rattle.hg_defs.specs.declared.moves.Move.{Move}
use Rattle.hg_defs.specs.Hypergraph.{net_count}
use Rattle.hg_defs.specs.Incidence.{nets_of}
use Rattle.rollback_prefix.specs.Gains.{IsInRun}
use Rattle.rollback_prefix.proofs.NetLaws.{AreSeen, seen_more, contained_by_places, all_more}
use Rattle.rollback_prefix.proofs.nets.touched_nets.Goals as goal
use Rattle.rollback_prefix.proofs.nets.touched_nets.Goals.{then-first-e+then-e-end+then-not-index+in_ok-push, else-first-e}
use Rattle.rollback_prefix.proofs.nets.touched_nets.Goals.{else-first-e-via-then-first-e+then-e-end+else-not-index}
use Rattle.rollback_prefix.proofs.nets.touched_nets.Goals.{else-first-e-via-then-first-e+else-e-end, else-first-e-via-else-first-e}

pub loop-e-preserved : goal.loop-e-preserved
loop-e-preserved c =
    let row = c.nets_of-e-items.result.now in
    let e = get_or row c.loop-e.e-index 0 in
    let low = c.nets_of-e-items.ensures.below c.loop-e.e-index 0 c.loop-e-test.true in
    let place = e - c.args.first in
    let long = c.loop-e.invariant.seen.size in
    elim c.if-first-e.branch [
      | then-first-e+then-e-end+then-not-index+in_ok-push w ↦
          let nets_are = ap (λ v. v.items) w.nets-is ∙ w.in_ok-push.ensures.items in
          let seen_are = ap (λ v. v.items) w.seen-is in
          let fresh = get_or_default c.loop-e.seen.items place false w.index.result.now (omega arith) ∙ sym w.index.ensures in
          let more = seen_more c.args.first c.args.end c.loop-e.seen.items c.loop-e.nets.items place e (omega arith) (omega arith)
          (fresh ∙ w.if-not-index.true) c.loop-e.invariant.seen in
          record {
            seen = subst (λ (xs : List Bool). AreSeen c.args.first c.args.end xs c.if-first-e.nets.items) (sym seen_are)
                (subst (λ (xs : List ℕ). AreSeen c.args.first c.args.end (set c.loop-e.seen.items place true) xs) (sym nets_are) more);
            below = subst (All (λ x. x < net_count c.args.h.now)) (sym nets_are)
                (All-push (λ x. x < net_count c.args.h.now) c.loop-e.nets.items e c.loop-e.invariant.below low);
            all = λ j d x l q m. subst (λ (xs : List ℕ). Contains xs x) (sym nets_are) (Contains-append_left c.loop-e.nets.items (e ∷ []) x
                (c.loop-e.invariant.all j d x l q m));
            row = below_more (λ j. IsInRun c.args.first c.args.end (get_or row j 0) → Contains c.if-first-e.nets.items (get_or row j 0)) c.loop-e.e-index
                (λ j l m. subst (λ (xs : List ℕ). Contains xs (get_or row j 0)) (sym nets_are)
                (Contains-append_left c.loop-e.nets.items (e ∷ []) (get_or row j 0) (c.loop-e.invariant.row j l m)))
                (λ m. subst (λ (xs : List ℕ). Contains xs e) (sym nets_are) (Contains-push c.loop-e.nets.items e));
          }
      | else-first-e w ↦
          let nets_are = ap (λ v. v.items) w.nets-is in
          let seen_are = ap (λ v. v.items) w.seen-is in
          let here : IsInRun c.args.first c.args.end e → Contains c.loop-e.nets.items e =
          elim w.else-first-e.branch [
            | else-first-e-via-then-first-e+then-e-end+else-not-index v ↦
                λ m. subst (Contains c.loop-e.nets.items) (omega arith) (c.loop-e.invariant.seen.listed place
                (get_or_default c.loop-e.seen.items place false v.index.result.now (omega arith) ∙ sym v.index.ensures ∙ v.if-not-index.false))
            | else-first-e-via-then-first-e+else-e-end v ↦ λ m. absurd (let l = m.1 in let r = v.if-e-end.false in omega arith)
            | else-first-e-via-else-first-e v ↦ λ m. absurd (let l = m.0 in let r = v.if-first-e.false in omega arith)
          ] in
          record {
            seen = subst (λ (xs : List Bool). AreSeen c.args.first c.args.end xs c.if-first-e.nets.items) (sym seen_are)
                (subst (λ (xs : List ℕ). AreSeen c.args.first c.args.end c.loop-e.seen.items xs) (sym nets_are) c.loop-e.invariant.seen);
            below = subst (All (λ x. x < net_count c.args.h.now)) (sym nets_are) c.loop-e.invariant.below;
            all = λ j d x l q m. subst (λ (xs : List ℕ). Contains xs x) (sym nets_are) (c.loop-e.invariant.all j d x l q m);
            row = below_more (λ j. IsInRun c.args.first c.args.end (get_or row j 0) → Contains c.if-first-e.nets.items (get_or row j 0)) c.loop-e.e-index
                (λ j l m. subst (λ (xs : List ℕ). Contains xs (get_or row j 0)) (sym nets_are) (c.loop-e.invariant.row j l m))
                (λ m. subst (λ (xs : List ℕ). Contains xs e) (sym nets_are) (here m));
          }
    ]

pub loop-step-preserved : goal.loop-step-preserved
loop-step-preserved c = record {
  seen = c.loop-e.invariant.seen;
  below = c.loop-e.invariant.below;
  all = λ j d x l q m. all_more c.args.h.now c.args.moves.now (λ e. IsInRun c.args.first c.args.end e → Contains c.loop-e.nets.items e) c.loop-step.step-index
      c.loop-e.invariant.all row j d x l q m;
}
  where
    row : (d : Move) (x : ℕ) → Contains (nets_of c.args.h.now (get_or c.args.moves.now c.loop-step.step-index d).vertex) x
        → IsInRun c.args.first c.args.end x → Contains c.loop-e.nets.items x
    row d x q m =
        let none : Move = record { vertex = 0; from = 0; to = 0; worker = 0; booked = pos 0 } in
        let same = ap (λ (m : Move). nets_of c.args.h.now m.vertex) (get_or_default c.args.moves.now c.loop-step.step-index d none c.loop-step-test.true) in
        contained_by_places (λ e. IsInRun c.args.first c.args.end e → Contains c.loop-e.nets.items e) c.nets_of-e-items.result.now
        (λ j l. c.loop-e.invariant.row j (omega arith)) x
        (subst (λ (xs : List ℕ). Contains xs x) (same ∙ sym c.nets_of-e-items.ensures.value) q) m

pub returns : goal.returns
returns c = record {
  below = c.loop-step.invariant.below;
  once = c.loop-step.invariant.seen.once;
  each = c.loop-step.invariant.seen.each;
  all = λ i d e l q m. c.loop-step.invariant.all i d e (omega arith) q m;
}
