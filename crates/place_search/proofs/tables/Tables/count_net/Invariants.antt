use Rattle.std.proofs.Common.{◌≡◌}
use Rattle.place_search.proofs.tables.Tables.count_net.Given as goal

abbrev pub invariant-loop-u : goal.invariant-loop-u
invariant-loop-u l = l.self ≡ l.fn.self

abbrev pub invariant-loop-u-2 : goal.invariant-loop-u-2
invariant-loop-u-2 l = l.self ≡ l.fn.self
