use Rattle.std.proofs.Common.{◌≡◌}
use Rattle.place_search.proofs.edges.Edges.add_row.Given as goal

abbrev pub invariant-loop : goal.invariant-loop
invariant-loop l = (l.self.bound ≡ l.fn.self.bound) × (l.sums ≡ l.fn.sums)
