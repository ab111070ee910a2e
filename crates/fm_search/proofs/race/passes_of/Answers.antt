-- One worker more is taken apart.
use Rattle.std.proofs.Common.{◌≡◌, ◌∷◌, [], ◌++◌, map, All, ap, ap₂, sym, ◌∙◌, subst}
use Rattle.std.proofs.lemmas.List.{map_push}
use Rattle.std.proofs.lemmas.List.Elements.{All-push}
use Rattle.move_core.specs.declared.account.Stage.TheVariants.{Idle}
use Rattle.fm_search.specs.Standing.{standing_of}
use Rattle.std.specs.Vec.Iter.{into_iter_steps}
use Rattle.fm_search.proofs.TakenLaws.{taken_item}
use Rattle.fm_search.proofs.race.passes_of.Goals as goal

pub workers-preserved : goal.workers-preserved
workers-preserved c =
    let sized = taken_item (λ w. w.desk.blocks ≡ c.args.k) c.into_iter-worker-iterator.result c.workers.yielded c.workers.worker-iterator
    c.in-Some.worker c.next.new.self c.workers.yielded_by (subst (λ r. into_iter_steps c.workers.worker-iterator r c.next.new.self) c.in-Some.is
    c.next.ensures.steps)
    (subst (All (λ w. w.desk.blocks ≡ c.args.k)) (sym c.into_iter-worker-iterator.ensures.into_iter_gives.0) c.requires.blocks) in
    record {
      movers =
          ap (map standing_of) c.in_ok-push.ensures.items
          ∙ map_push standing_of c.workers.passes.items c.into_pass.result
          ∙ ap₂ (λ xs x. xs ++ x ∷ []) c.workers.invariant.movers c.into_pass.ensures.same
          ∙ sym (map_push (λ w. w.mover) c.workers.yielded c.in-Some.worker);
      idle = subst (All (λ p. p.view.account.stage ≡ Idle)) (sym c.in_ok-push.ensures.items)
          (All-push (λ p. p.view.account.stage ≡ Idle) c.workers.passes.items c.into_pass.result c.workers.invariant.idle c.into_pass.ensures.idle);
      desks = subst (All (λ d. d.blocks ≡ c.args.k)) (sym c.in_ok-push-2.ensures.items)
          (All-push (λ d. d.blocks ≡ c.args.k) c.workers.desks.items c.in-Some.worker.desk c.workers.invariant.desks sized);
    }
