use Rattle.std.proofs.Common.{rules, ◌+◌, ◌<◌, ◌≤◌, List, length, get_or, map, drop, ap, ◌∙◌, pos}
use Rattle.move_table.specs.declared.grant.Done.{Done}
use Rattle.move_table.specs.Closing.{laid}
use Rattle.hg_defs.specs.declared.moves.Move.{Move}
use Rattle.move_table.proofs.LaidLaws.{laid_step, laid_past}
use Rattle.move_table.proofs.close.lay_moves.Goals as goal
use Rattle.move_table.proofs.close.lay_moves.Goals.{then-place-moves, else-place-moves}

pub loop-step-preserved : goal.loop-step-preserved
loop-step-preserved c =
    let done = c.args.done.now in
    let i = c.loop-step.step-index in
    let l : i < length done = search rules in
    let d : Done = record { number = 0; action = record { vertex = 0; from = 0; to = 0; worker = 0; booked = pos 0 } } in
    let rest = λ (out : List Move). laid out (map (λ (x : Done). x.number) (drop (i + 1) done)) (map (λ (x : Done). x.action) (drop (i + 1) done)) in
    elim c.if-place-moves.branch [
      | then-place-moves w ↦ ap rest w.moves-is ∙ laid_step c.loop-step.moves done i d l ∙ c.loop-step.invariant
      | else-place-moves w ↦
          let past : length c.loop-step.moves ≤ (get_or done i d).number = search rules in
          ap rest w.moves-is ∙ laid_past c.loop-step.moves done i d l past ∙ c.loop-step.invariant
    ]
