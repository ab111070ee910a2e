use Rattle.std.proofs.Common.{◌≡◌}
use Rattle.place_search.proofs.rest.Rest.place.Given as goal

abbrev pub invariant-loop-rank : goal.invariant-loop-rank
invariant-loop-rank l = (l.labels ≡ l.fn.labels) × (l.loads ≡ l.fn.loads)
