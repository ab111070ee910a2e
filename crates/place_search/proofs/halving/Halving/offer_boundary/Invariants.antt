use Rattle.std.proofs.Common.{◌≡◌}
use Rattle.place_search.proofs.halving.Halving.offer_boundary.Given as goal

abbrev pub invariant-loop-v : goal.invariant-loop-v
invariant-loop-v l = l.self ≡ l.fn.self
