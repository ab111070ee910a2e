use Rattle.std.proofs.Common.{pos, arith}
use Rattle.hg_defs.specs.declared.moves.Move.{Move}
use Rattle.pin_plain.proofs.SettleLaws.{saved_more}
use Rattle.pin_plain.proofs.partition.sweep.saved_by.Goals as goal

-- what is read past the end of a list
no_move : Move
no_move = record { vertex = 0; from = 0; to = 0; worker = 0; booked = pos 0 }

pub overflow_add-saved : goal.overflow_add-saved
unfolding no_move
overflow_add-saved c =
    let more = saved_more c.args.moves.now c.loop-step.step-index c.loop-step.saved no_move c.loop-step-test.true c.requires.gains c.requires.bound
    c.loop-step.invariant in
    omega (arith, more.1)

pub loop-step-preserved : goal.loop-step-preserved
unfolding no_move
loop-step-preserved c = (saved_more c.args.moves.now c.loop-step.step-index c.loop-step.saved no_move c.loop-step-test.true c.requires.gains
    c.requires.bound
    c.loop-step.invariant).0
