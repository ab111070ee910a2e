use Rattle.std.proofs.Common.{◌≡◌}
use Rattle.place_search.proofs.halving.Halving.repair.Given as goal

abbrev pub invariant-loop-v : goal.invariant-loop-v
invariant-loop-v l = l.self ≡ l.fn.self

abbrev pub invariant-loop : goal.invariant-loop
invariant-loop l = l.self ≡ l.fn.self
