use Rattle.std.proofs.Common.{◌≡◌}
use Rattle.place_search.proofs.sides.Sides.count_edges.Given as goal

abbrev pub invariant-loop-place : goal.invariant-loop-place
invariant-loop-place l = l.self ≡ l.fn.self
