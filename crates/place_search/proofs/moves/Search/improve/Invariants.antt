use Rattle.std.proofs.Common.{◌≡◌}
use Rattle.place_search.proofs.moves.Search.improve.Given as goal

abbrev pub invariant-loop : goal.invariant-loop
invariant-loop l = l.self ≡ l.fn.self
