use Rattle.std.proofs.Common.{◌≡◌}
use Rattle.place_search.proofs.moves.Search.next_relief.Given as goal

abbrev pub invariant-loop : goal.invariant-loop
invariant-loop l =
    (l.self-inside.tables ≡ l.initial.self-inside.tables) × (l.self-inside.agenda ≡ l.initial.self-inside.agenda) × (l.self-inside.origins ≡ l.initial.self-inside.origins)
