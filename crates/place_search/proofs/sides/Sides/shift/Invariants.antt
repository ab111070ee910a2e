use Rattle.std.proofs.Common.{◌≡◌}
use Rattle.place_search.proofs.sides.Sides.shift.Given as goal

abbrev pub invariant-loop-place : goal.invariant-loop-place
invariant-loop-place l = l.self ≡ l.fn.self

abbrev pub invariant-loop-e : goal.invariant-loop-e
invariant-loop-e l = l.self ≡ l.fn.self
