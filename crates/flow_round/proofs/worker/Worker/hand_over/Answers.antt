use Rattle.std.proofs.Common.{◌≡◌, ◌⊎◌, inl, ◌+◌, ◌*◌, ◌∙◌, List, [], ◌∷◌, Contains}
use Rattle.std.proofs.Common.{Option, length, slice_set, refl, sym, ap, subst}
use Rattle.std.proofs.Common.{arith, length-set}
use Rattle.std.proofs.lemmas.List.Elements.{All-contains, Contains-append_left, Contains-push}
use Rattle.flow_pair.specs.declared.solve.PairEnd.{PairEnd}
use Rattle.flow_round.specs.declared.worker.Found.{Found}
use Rattle.flow_round.specs.PairTurns.{IsPairBelow}
use Rattle.flow_round.specs.Waves.{HasEnd, end_at}
use Rattle.flow_round.proofs.TableLaws.{end_put}
use Rattle.flow_round.proofs.worker.Worker.hand_over.Goals as goal

pub loop-found-init : goal.loop-found-init
loop-found-init c = record {
  solver = refl;
  table = c.requires.table;
  within = λ t d. d;
  written = λ x b. inl refl;
}

pub place_of-requires-clause-first : goal.place_of-requires-clause-first
place_of-requires-clause-first c =
    let t = c.in-Some.found in
    let last = subst (λ (xs : List Found). Contains xs t) (sym c.in-Some.ensures.items) (Contains-push c.pop.new.self.items t) in
    let low = All-contains (λ (x : Found). IsPairBelow c.args.k (x.first, x.second)) c.args.self.now.found.items t c.requires.below
    (c.loop-found.invariant.within t last) in
    let a = low.order in
    let b = low.below in
    omega arith

pub place_of-requires-clause-second : goal.place_of-requires-clause-second
place_of-requires-clause-second c =
    let t = c.in-Some.found in
    let last = subst (λ (xs : List Found). Contains xs t) (sym c.in-Some.ensures.items) (Contains-push c.pop.new.self.items t) in
    (All-contains (λ (x : Found). IsPairBelow c.args.k (x.first, x.second)) c.args.self.now.found.items t c.requires.below
    (c.loop-found.invariant.within t last)).below

pub loop-found-preserved : goal.loop-found-preserved
loop-found-preserved c =
    let k = c.args.k in
    let t = c.in-Some.found in
    let all = c.args.self.now.found.items in
    let i = c.loop-found.invariant in
    let last = subst (λ (xs : List Found). Contains xs t) (sym c.in-Some.ensures.items) (Contains-push c.pop.new.self.items t) in
    let has = i.within t last in
    let low = All-contains (λ (x : Found). IsPairBelow k (x.first, x.second)) all t c.requires.below has in
    let put = c.put_end.ensures ∙ ap (λ n. slice_set c.loop-found.ends n t.end) c.place_of.ensures.value in
    record {
      solver = i.solver;
      table = ap length put ∙ length-set c.loop-found.ends (t.first * k + t.second) t.end ∙ i.table;
      within = λ x d. i.within x (subst (λ (xs : List Found). Contains xs x) (sym c.in-Some.ensures.items)
          (Contains-append_left c.pop.new.self.items (t ∷ []) x d));
      written = λ x bx. subst (λ (es : List (Option PairEnd)). (end_at k es x ≡ end_at k c.args.ends.now x) ⊎ HasEnd all x (end_at k es x)) (sym put)
          (end_put k c.loop-found.ends c.args.ends.now all t i.table low has x bx (i.written x bx));
    }
