use Rattle.std.proofs.Common.{◌≡◌}
use Rattle.partition_tests.proofs.partition.save_their_gains.Given as goal

abbrev pub invariant-loop-v : goal.invariant-loop-v
invariant-loop-v l = l.p.hyper ≡ l.h
