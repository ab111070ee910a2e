use Rattle.std.proofs.Common.{◌≡◌}
use Rattle.place_search.proofs.rest.Rest.of.Given as goal

abbrev pub invariant-loop-v : goal.invariant-loop-v
invariant-loop-v l = l.rest ≡ l.initial.rest
