use Rattle.std.proofs.Common.{◌≡◌}
use Rattle.place_search.proofs.division.Division.finish.Given as goal

abbrev pub invariant-loop-number : goal.invariant-loop-number
invariant-loop-number l = l.self ≡ l.fn.self
