-- One pass more has a worker.
use Rattle.std.proofs.Common.{◌≡◌, ◌∷◌, [], ◌++◌, map, All, ap, ap₂, sym, ◌∙◌, subst}
use Rattle.std.proofs.lemmas.List.{map_push}
use Rattle.std.proofs.lemmas.List.Elements.{All-push}
use Rattle.fm_search.specs.Standing.{standing_of}
use Rattle.move_core.specs.declared.account.Stage.TheVariants.{Idle}
use Rattle.std.specs.Vec.Iter.{into_iter_steps}
use Rattle.fm_search.proofs.TakenLaws.{taken_item}
use Rattle.fm_search.proofs.race.workers_of.Goals as goal

pub passes-preserved : goal.passes-preserved
passes-preserved c =
    let idle = taken_item (λ p. p.view.account.stage ≡ Idle) c.into_iter-pass-iterator.result c.passes.yielded c.passes.pass-iterator
    c.in-Some.pass c.next.new.self c.passes.yielded_by
    (subst (λ r. into_iter_steps c.passes.pass-iterator r c.next.new.self) c.in-Some.is c.next.ensures.steps)
    (subst (All (λ p. p.view.account.stage ≡ Idle)) (sym (c.into_iter-pass-iterator.ensures.into_iter_gives.0 ∙ c.into_vec-pass-items.ensures))
    c.requires.idle) in
    record {
      movers =
          ap (map (λ w. w.mover)) c.in_ok-push.ensures.items
          ∙ map_push (λ w. w.mover) c.passes.workers.items _
          ∙ ap₂ (λ xs x. xs ++ x ∷ []) c.passes.invariant.movers c.of.ensures
          ∙ sym (map_push standing_of c.passes.yielded c.in-Some.pass);
      blocks = subst (All (λ w. w.desk.blocks ≡ c.args.k)) (sym c.in_ok-push.ensures.items)
          (All-push (λ w. w.desk.blocks ≡ c.args.k) c.passes.workers.items _ c.passes.invariant.blocks c.in_ok-desk.ensures.desk);
      desks = c.desk_for.ensures.desks;
    }
