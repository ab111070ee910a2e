use Rattle.std.proofs.Common.{ℕ, ◌<◌, List, length, get_or, slice_set, pos, sym, ap, ◌∙◌}
use Rattle.hg_defs.specs.declared.moves.Move.{Move}
use Rattle.hg_defs.proofs.ReplayLaws.{replay_first_more}
use Rattle.pin_plain.specs.Parted.{Parted}
use Rattle.pin_plain.proofs.partition.Partition.replay_in_turn.Goals as goal

pub loop-step-preserved : goal.loop-step-preserved
loop-step-preserved c =
    let p = c.args.self.now in
    let ms = c.args.moves.now in
    let i = c.loop-step.step-index in
    let l : i < length ms = c.loop-step-test.true in
    let d : Move = record { vertex = 0; from = 0; to = 0; worker = 0; booked = pos 0 } in
    c.shift.ensures
    ∙ ap (λ (q : Parted). record q { blocks = slice_set q.blocks (get_or ms i d).vertex (get_or ms i d).to }) c.loop-step.invariant
    ∙ ap (λ (bs : List ℕ). record p { blocks = bs }) (sym (replay_first_more p.blocks ms i d l))
