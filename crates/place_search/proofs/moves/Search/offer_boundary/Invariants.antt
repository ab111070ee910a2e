use Rattle.std.proofs.Common.{◌≡◌}
use Rattle.place_search.proofs.moves.Search.offer_boundary.Given as goal

abbrev pub invariant-loop-v : goal.invariant-loop-v
invariant-loop-v l = l.self ≡ l.fn.self
