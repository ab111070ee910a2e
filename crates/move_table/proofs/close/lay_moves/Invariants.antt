use Rattle.std.proofs.Common.{◌≡◌, map, drop}
use Rattle.move_table.specs.declared.grant.Done.{Done}
use Rattle.move_table.specs.Closing.{laid}
use Rattle.move_table.proofs.close.lay_moves.Given as goal

abbrev pub invariant-loop-step : goal.invariant-loop-step
invariant-loop-step l =
    laid l.moves (map (λ (d : Done). d.number) (drop l.step-index l.done)) (map (λ (d : Done). d.action) (drop l.step-index l.done)) ≡
    laid l.initial.moves (map (λ (d : Done). d.number) l.done) (map (λ (d : Done). d.action) l.done)
