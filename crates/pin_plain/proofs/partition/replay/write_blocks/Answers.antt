use Rattle.std.proofs.Common.{ℕ, ◌<◌, List, length, get_or, slice_set, pos, take, sym, ap, ◌∙◌, arith}
use Rattle.hg_defs.specs.declared.moves.Move.{Move}
use Rattle.hg_defs.proofs.ReplayLaws.{replay_first_more, length-replay}
use Rattle.pin_plain.proofs.partition.replay.write_blocks.Goals as goal

pub set-requires : goal.set-requires
set-requires c =
    let ms = c.args.moves.now in
    let i = c.loop-step.step-index in
    let d : Move = record { vertex = 0; from = 0; to = 0; worker = 0; booked = pos 0 } in
    let long = ap length c.loop-step.invariant ∙ length-replay c.args.blocks.now (take i ms) in
    let low = c.requires i d c.loop-step-test.true in
    omega arith

pub loop-step-preserved : goal.loop-step-preserved
loop-step-preserved c =
    let p = c.args.blocks.now in
    let ms = c.args.moves.now in
    let i = c.loop-step.step-index in
    let l : i < length ms = c.loop-step-test.true in
    let d : Move = record { vertex = 0; from = 0; to = 0; worker = 0; booked = pos 0 } in
    c.set.ensures
    ∙ ap (λ (bs : List ℕ). slice_set bs (get_or ms i d).vertex (get_or ms i d).to) c.loop-step.invariant
    ∙ sym (replay_first_more p ms i d l)
