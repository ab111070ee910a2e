use Rattle.std.proofs.Common.{◌≡◌}
use Rattle.place_search.proofs.division.take_high.Given as goal

abbrev pub invariant-loop-v : goal.invariant-loop-v
invariant-loop-v l = l.labels ≡ l.fn.labels
