use Rattle.std.proofs.Common.{◌≡◌}
use Rattle.place_search.proofs.sides.Sides.start.Given as goal

abbrev pub invariant-loop-v : goal.invariant-loop-v
invariant-loop-v l = l.sides ≡ l.initial.sides
