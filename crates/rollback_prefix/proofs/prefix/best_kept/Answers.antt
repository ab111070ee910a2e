use Rattle.std.proofs.Common.{arith, pos, length, sym, ap, ◌∙◌, subst, ◌+◌, ◌-ℤ◌}
use Rattle.std.proofs.lemmas.Int.{ints}
use Rattle.hg_defs.specs.Cost.{cost}
use Rattle.hg_defs.specs.Replay.{replay_first}
use Rattle.hg_defs.specs.Hypergraph.{vertex_count}
use Rattle.hg_base.proofs.CountLaws.{cost-lt}
use Rattle.round_log.proofs.FewMoves.{few_moves}
use Rattle.rollback_prefix.proofs.LoadLaws.{none_past, fits_from, next_held, next_room, next_loaded, saved_more}
use Rattle.rollback_prefix.proofs.BestLaws.{IsBestUpTo, best_first, best_new, best_same, best_is, above, not_above, sum_kept}
use Rattle.rollback_prefix.proofs.prefix.best_kept.Goals as goal
use Rattle.rollback_prefix.proofs.prefix.best_kept.Goals.{then-over-eq0+then-saved-most, else-over-eq0}
use Rattle.rollback_prefix.proofs.prefix.best_kept.Goals.{else-over-eq0-via-then-over-eq0+else-saved-most}
use Rattle.rollback_prefix.proofs.prefix.best_kept.Goals.{else-over-eq0-via-else-over-eq0}

pub loop-i-init : goal.loop-i-init
loop-i-init c = record {
  loaded = c.requires.loaded;
  over = sym (none_past c.args.h.now (length c.args.loads.now) c.args.limit c.args.before.now c.args.loads.now c.requires.loaded c.requires.fits);
  saved = omega (arith, ints);
  most = omega (arith, ints);
  best = best_first c.args.h.now (length c.args.loads.now) c.args.limit c.args.before.now c.args.moves.now c.requires.fits;
}

pub overflow_sub-left : goal.overflow_sub-left
overflow_sub-left c =
    let held = next_held c.args.h.now (length c.args.loads.now) c.args.before.now c.args.moves.now c.loop-i.i c.requires.partition c.requires.moves
    c.loop-i-test.true c.loop-i.loads c.loop-i.invariant.loaded in
    let w = c.vertex_weight-weight.ensures.value in
    omega arith

pub overflow_add-joined : goal.overflow_add-joined
overflow_add-joined c =
    let room = next_room c.args.h.now (length c.args.loads.now) c.args.before.now c.args.moves.now c.loop-i.i c.requires.partition c.requires.moves
    c.loop-i-test.true c.loop-i.loads c.set_load-over.new.loads c.vertex_weight-weight.result
    c.vertices-vertices.ensures.bounds c.loop-i.invariant.loaded c.vertex_weight-weight.ensures.bound c.set_load-over.ensures.loads in
    omega arith

pub overflow_add-saved : goal.overflow_add-saved
overflow_add-saved c =
    let a = cost-lt c.args.h.now c.args.before.now c.vertices-vertices.ensures.bounds in
    let b = cost-lt c.args.h.now (replay_first c.args.before.now c.args.moves.now c.loop-i.i) c.vertices-vertices.ensures.bounds in
    let d = cost-lt c.args.h.now (replay_first c.args.before.now c.args.moves.now (c.loop-i.i + 1)) c.vertices-vertices.ensures.bounds in
    let e = c.loop-i.invariant.saved in
    let f = c.requires.gains.each c.loop-i.i c.loop-i-test.true in
    omega (arith, ints)

pub loop-i-preserved : goal.loop-i-preserved
loop-i-preserved c =
    let bounds = c.vertices-vertices.ensures.bounds in
    let a = cost-lt c.args.h.now c.args.before.now bounds in
    let b = cost-lt c.args.h.now (replay_first c.args.before.now c.args.moves.now c.loop-i.i) bounds in
    let d = cost-lt c.args.h.now (replay_first c.args.before.now c.args.moves.now (c.loop-i.i + 1)) bounds in
    let loaded = next_loaded c.args.h.now (length c.args.loads.now) c.args.before.now c.args.moves.now c.loop-i.i c.requires.partition c.requires.moves
    c.loop-i-test.true c.loop-i.loads c.set_load-over.new.loads c.set_load-over-in-loop-i.new.loads c.vertex_weight-weight.result
    c.loop-i.invariant.loaded c.vertex_weight-weight.ensures.value c.set_load-over.ensures.loads c.set_load-over-in-loop-i.ensures.loads in
    let saved = saved_more _ _ (cost c.args.h.now c.args.before.now) (cost c.args.h.now (replay_first c.args.before.now c.args.moves.now c.loop-i.i))
    (cost c.args.h.now (replay_first c.args.before.now c.args.moves.now (c.loop-i.i + 1)))
    c.loop-i.invariant.saved (c.requires.gains.each c.loop-i.i c.loop-i-test.true) a b d in
    elim c.if-over-eq0.branch [
      | then-over-eq0+then-saved-most w ↦ record {
        loaded = loaded;
        over = c.set_load-over-in-loop-i.ensures.over;
        saved = saved;
        most = w.most-is ∙ saved ∙ ap (λ n. pos (cost c.args.h.now c.args.before.now) -ℤ pos
            (cost c.args.h.now (replay_first c.args.before.now c.args.moves.now n))) (sym w.kept-is);
        best = subst (λ n. IsBestUpTo c.args.h.now (length c.args.loads.now) c.args.limit c.args.before.now c.args.moves.now (c.loop-i.i + 1) n)
            (sym w.kept-is)
            (best_new c.args.h.now (length c.args.loads.now) c.args.limit c.args.before.now c.args.moves.now c.loop-i.i c.loop-i.kept
            c.loop-i.invariant.best
            (fits_from c.args.h.now (length c.args.loads.now) c.args.limit (replay_first c.args.before.now c.args.moves.now (c.loop-i.i + 1))
            c.set_load-over-in-loop-i.new.loads loaded (sym c.set_load-over-in-loop-i.ensures.over ∙ w.if-over-eq0.true))
            (above _ _ (cost c.args.h.now c.args.before.now) (cost c.args.h.now (replay_first c.args.before.now c.args.moves.now c.loop-i.kept))
            (cost c.args.h.now (replay_first c.args.before.now c.args.moves.now (c.loop-i.i + 1))) c.loop-i.invariant.most saved w.if-saved-most.true));
      }
      | else-over-eq0 w ↦ record {
        loaded = loaded;
        over = c.set_load-over-in-loop-i.ensures.over;
        saved = saved;
        most = w.most-is ∙ c.loop-i.invariant.most ∙ ap (λ n. pos (cost c.args.h.now c.args.before.now) -ℤ pos
            (cost c.args.h.now (replay_first c.args.before.now c.args.moves.now n))) (sym w.kept-is);
        best = subst (λ n. IsBestUpTo c.args.h.now (length c.args.loads.now) c.args.limit c.args.before.now c.args.moves.now (c.loop-i.i + 1) n)
            (sym w.kept-is)
            (best_same c.args.h.now (length c.args.loads.now) c.args.limit c.args.before.now c.args.moves.now c.loop-i.i c.loop-i.kept
            c.loop-i.invariant.best
            (elim w.else-over-eq0.branch [
              | else-over-eq0-via-then-over-eq0+else-saved-most u ↦ λ f. not_above _ _ (cost c.args.h.now c.args.before.now)
                  (cost c.args.h.now (replay_first c.args.before.now c.args.moves.now c.loop-i.kept))
                  (cost c.args.h.now (replay_first c.args.before.now c.args.moves.now (c.loop-i.i + 1))) c.loop-i.invariant.most saved u.if-saved-most.false
              | else-over-eq0-via-else-over-eq0 u ↦ λ f.
                  absurd (u.if-over-eq0.false (c.set_load-over-in-loop-i.ensures.over ∙ none_past c.args.h.now (length c.args.loads.now) c.args.limit
                  (replay_first c.args.before.now c.args.moves.now (c.loop-i.i + 1)) c.set_load-over-in-loop-i.new.loads loaded f))
            ]));
      }
    ]

pub overflow_cast-result : goal.overflow_cast-result
overflow_cast-result c =
    let few = few_moves (vertex_count c.args.h.now) c.args.moves.now (λ j d l. (c.requires.moves.each j d l).vertex) c.requires.moves.once in
    let within = c.loop-i.invariant.best.within in
    let bounds = c.vertices-vertices.ensures.bounds.vertices in
    omega arith

pub overflow_cast-result-2 : goal.overflow_cast-result-2
overflow_cast-result-2 c =
    let most = c.loop-i.invariant.most in
    let bound = cost-lt c.args.h.now c.args.before.now c.vertices-vertices.ensures.bounds in
    let less = c.loop-i.invariant.best.cheapest 0 (omega arith) c.requires.fits in
    omega (arith, ints)

pub returns-clause-best : goal.returns-clause-best
returns-clause-best c = best_is c.args.h.now (length c.args.loads.now) c.args.limit c.args.before.now c.args.moves.now c.loop-i.i c.loop-i.kept
    (omega arith)
    (omega arith) c.requires.fits c.loop-i.invariant.best

pub returns-clause-within : goal.returns-clause-within
returns-clause-within c = let w = c.loop-i.invariant.best.within in omega arith

pub returns-clause-saved : goal.returns-clause-saved
returns-clause-saved c =
    let less = c.loop-i.invariant.best.cheapest 0 (omega arith) c.requires.fits in
    sum_kept _ (cost c.args.h.now c.args.before.now) (cost c.args.h.now (replay_first c.args.before.now c.args.moves.now c.loop-i.kept))
    c.loop-i.invariant.most less
