use Rattle.std.proofs.Common.{◌≡◌}
use Rattle.place_search.proofs.halving.Halving.undo.Given as goal

abbrev pub invariant-loop-place : goal.invariant-loop-place
invariant-loop-place l =
    (l.self-inside.sides ≡ l.initial.self-inside.sides) × (l.self-inside.agenda ≡ l.initial.self-inside.agenda)
