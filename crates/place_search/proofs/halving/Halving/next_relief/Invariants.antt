use Rattle.std.proofs.Common.{◌≡◌}
use Rattle.place_search.proofs.halving.Halving.next_relief.Given as goal

abbrev pub invariant-loop : goal.invariant-loop
invariant-loop l =
    (l.self-inside.sides ≡ l.initial.self-inside.sides) × (l.self-inside.agenda ≡ l.initial.self-inside.agenda)
