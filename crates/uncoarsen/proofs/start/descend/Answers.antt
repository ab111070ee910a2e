use Rattle.std.proofs.Common.{length, ap, arith, Err}
use Rattle.uncoarsen.specs.Start.{NoneFitsAt}
use Rattle.uncoarsen.proofs.StartLemmas.{one_more}
use Rattle.uncoarsen.proofs.start.descend.Goals as goal

pub returns-in-Ok-clause-start : goal.returns-in-Ok-clause-start
returns-in-Ok-clause-start g c =
    let made = c.in-Ok.ensures in
    record {
      on_level = let deep = c.depth-depth.ensures in omega arith;
      none_above = λ i less within. c.loop-above.invariant i (let test = c.loop-above-test.true in omega arith) within;
      partition = made.partition;
      fits = made.fits;
      obeys = made.fixes;
      cheapest = made.cost;
    }

pub loop-above-preserved : goal.loop-above-preserved
loop-above-preserved g c =
    one_more (NoneFitsAt c.args.stack.now c.args.k c.args.limit c.args.seed) c.depth-depth.result c.loop-above.above (length c.args.stack.now.maps)
    c.loop-above.invariant (c.in-Err-NoneFits.ensures.none (ap Err c.in-Err-NoneFits.field-0-is))
