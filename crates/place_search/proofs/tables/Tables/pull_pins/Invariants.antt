use Rattle.std.proofs.Common.{◌≡◌}
use Rattle.place_search.proofs.tables.Tables.pull_pins.Given as goal

abbrev pub invariant-loop-u : goal.invariant-loop-u
invariant-loop-u l = l.self ≡ l.fn.self
