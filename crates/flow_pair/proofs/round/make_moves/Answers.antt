use Rattle.std.proofs.Common.{◌∙◌, get_or, slice_set, pos, sym, ap}
use Rattle.hg_defs.specs.declared.moves.Move.{Move}
use Rattle.hg_defs.proofs.ReplayLaws.{replay_first_more}
use Rattle.flow_pair.proofs.round.make_moves.Goals as goal

pub loop-step-preserved : goal.loop-step-preserved
loop-step-preserved c =
    let none : Move = record { vertex = 0; from = 0; to = 0; worker = 0; booked = pos 0 } in
    let step = get_or c.args.moves.now c.loop-step.step-index none in
    ap (λ bs. slice_set bs step.vertex step.to) c.loop-step.invariant
    ∙ sym (replay_first_more c.args.blocks.now c.args.moves.now c.loop-step.step-index none c.loop-step-test.true)
