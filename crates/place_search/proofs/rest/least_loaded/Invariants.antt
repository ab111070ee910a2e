use Rattle.std.proofs.Common.{◌<◌}
use Rattle.place_search.proofs.rest.least_loaded.Given as goal

abbrev pub invariant-loop-b : goal.invariant-loop-b
invariant-loop-b l = l.best < l.k
