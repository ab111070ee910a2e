use Rattle.std.proofs.Common.{◌≡◌}
use Rattle.place_search.proofs.moves.Search.grow_all.Given as goal

abbrev pub invariant-loop-block : goal.invariant-loop-block
invariant-loop-block l = l.self ≡ l.fn.self
