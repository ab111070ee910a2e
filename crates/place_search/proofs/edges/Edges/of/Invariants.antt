use Rattle.std.proofs.Common.{◌≡◌}
use Rattle.place_search.proofs.edges.Edges.of.Given as goal

abbrev pub invariant-loop-v : goal.invariant-loop-v
invariant-loop-v l = (l.edges.bound ≡ l.initial.edges.bound) × (l.sums ≡ l.initial.sums)

abbrev pub invariant-loop-e : goal.invariant-loop-e
invariant-loop-e l = l.sums ≡ l.initial.sums
