use Rattle.std.proofs.Common.{◌≡◌}
use Rattle.partition_tests.proofs.partition.shift_each.Given as goal

abbrev pub invariant-loop-step : goal.invariant-loop-step
invariant-loop-step l = record { hyper : l.p.hyper ≡ l.h; blocks : l.p.k ≡ l.initial.p.k }
