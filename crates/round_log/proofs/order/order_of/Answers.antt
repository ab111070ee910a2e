use Rattle.std.proofs.Common.{◌≤◌, length, arith}
use Rattle.round_log.proofs.FewMoves.{few_moves}
use Rattle.round_log.proofs.OrderLaws.{order_of_more}
use Rattle.round_log.proofs.order.order_of.Goals as goal

pub overflow_cast-place : goal.overflow_cast-place
overflow_cast-place c =
    let few : length c.args.moves.now ≤ c.args.n = few_moves c.args.n c.args.moves.now c.requires.vertices c.requires.distinct in
    omega (arith, c.ranges.n.fits)

pub overflow_add-place : goal.overflow_add-place
overflow_add-place c =
    let few : length c.args.moves.now ≤ c.args.n = few_moves c.args.n c.args.moves.now c.requires.vertices c.requires.distinct in
    omega (arith, c.ranges.n.fits)

pub loop-place-preserved : goal.loop-place-preserved
loop-place-preserved c =
    order_of_more _ c.args.moves.now _ _ _ c.loop-place-test.true c.requires.vertices c.requires.distinct c.loop-place.invariant
