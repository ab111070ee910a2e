use Rattle.std.proofs.Common.{◌≡◌, replicate, None}
use Rattle.flow_round.proofs.table.empty_table.Given as goal

abbrev pub invariant-loop : goal.invariant-loop
invariant-loop l = l.ends.items ≡ replicate l.counter None
