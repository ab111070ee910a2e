use Rattle.std.proofs.Common.{◌≡◌}
use Rattle.place_search.proofs.frame.Frame.bisect.Given as goal

abbrev pub invariant-loop-attempt : goal.invariant-loop-attempt
invariant-loop-attempt l = (l.best ≡ l.initial.best) × (l.search ≡ l.initial.search)
