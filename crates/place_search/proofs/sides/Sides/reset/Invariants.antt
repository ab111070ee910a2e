use Rattle.std.proofs.Common.{◌≡◌}
use Rattle.place_search.proofs.sides.Sides.reset.Given as goal

abbrev pub invariant-loop-v : goal.invariant-loop-v
invariant-loop-v l = l.self ≡ l.fn.self

abbrev pub invariant-loop-e : goal.invariant-loop-e
invariant-loop-e l = l.self ≡ l.fn.self
