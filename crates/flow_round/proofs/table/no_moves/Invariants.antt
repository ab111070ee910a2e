use Rattle.std.proofs.Common.{◌≡◌, length}
use Rattle.flow_round.proofs.table.no_moves.Given as goal

abbrev pub invariant-loop : goal.invariant-loop
invariant-loop l = length l.made.items ≡ l.counter
