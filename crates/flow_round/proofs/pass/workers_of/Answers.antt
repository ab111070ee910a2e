use Rattle.std.proofs.Common.{◌∙◌, All, sym, subst, arith}
use Rattle.std.proofs.lemmas.List.Elements.{All-push}
use Rattle.flow_round.specs.Waves.{IsIdle}
use Rattle.flow_round.proofs.pass.workers_of.Goals as goal

pub loop-number-preserved : goal.loop-number-preserved
loop-number-preserved c =
    let idle = IsIdle c.args.h.now in
    record {
      many = let more = c.in_ok-push.ensures.len in let was = c.loop-number.invariant.many in omega arith;
      working = subst (All idle) (sym c.in_ok-push.ensures.items)
          (All-push idle c.loop-number.workers.items _ c.loop-number.invariant.working
          (record { solver_is = c.another.ensures ∙ c.new-solver.ensures; none = c.new.ensures.items }));
    }
