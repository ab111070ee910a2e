use Rattle.std.proofs.Common.{◌≡◌}
use Rattle.place_search.proofs.tables.Tables.shift.Given as goal

abbrev pub invariant-loop-e : goal.invariant-loop-e
invariant-loop-e l = l.self ≡ l.fn.self
