use Rattle.std.proofs.Common.{◌≡◌}
use Rattle.place_search.proofs.candidates.better.Given as goal

abbrev pub invariant-loop-b : goal.invariant-loop-b
invariant-loop-b l = l.loads ≡ l.initial.loads
