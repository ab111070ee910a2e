use Rattle.std.proofs.Common.{◌≡◌, length, subst, ap, arith, Some, None, Err}
use Rattle.hg_defs.specs.Hypergraph.{Hyper}
use Rattle.hg_defs.specs.Placement.{named_best}
use Rattle.round_log.specs.TraceLaws.{IsSound}
use Rattle.det_sync.specs.Descent.{NoneFitsAt}
use Rattle.det_sync.proofs.DescentLaws.{one_more, best_sound}
use Rattle.det_sync.proofs.descent.first_placed.Goals as goal

pub returns-in-Ok-clause-start : goal.returns-in-Ok-clause-start
returns-in-Ok-clause-start g c =
    let first = c.in-Ok.placed in
    let made = c.in-Ok.ensures in
    record {
      on_level = let deep = c.depth-depth.ensures in omega arith;
      none_above = λ i less within. c.loop-above.invariant i (let test = c.loop-above-test.true in omega arith) within;
      best = made.best;
      sound = best_sound _ c.args.k c.args.limit c.args.seed first made.best made.partition made.fixes;
    }

pub returns-in-Ok-clause-none : goal.returns-in-Ok-clause-none
returns-in-Ok-clause-none g c = λ e i low. cc

pub loop-above-preserved : goal.loop-above-preserved
loop-above-preserved g c =
    one_more (NoneFitsAt c.args.stack.now.base c.args.stack.now.maps c.args.k c.args.limit c.args.seed) c.depth-depth.result c.loop-above.above
    (length c.args.stack.now.maps) c.loop-above.invariant
    (c.in-Err-NoneFits.ensures.none (ap Err c.in-Err-NoneFits.field-0-is))
