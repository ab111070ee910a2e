use Rattle.std.proofs.Common.{◌≡◌}
use Rattle.place_search.proofs.frame.Frame.settle.Given as goal

abbrev pub invariant-loop-v : goal.invariant-loop-v
invariant-loop-v l = l.labels ≡ l.fn.labels
