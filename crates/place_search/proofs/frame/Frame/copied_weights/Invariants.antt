use Rattle.std.proofs.Common.{◌≡◌}
use Rattle.place_search.proofs.frame.Frame.copied_weights.Given as goal

abbrev pub invariant-loop-v : goal.invariant-loop-v
invariant-loop-v l = l.weights ≡ l.initial.weights
