use Rattle.std.proofs.Common.{◌≡◌, ◌<◌, All, length}
use Rattle.partition_tests.proofs.partition.numbers.Given as goal

abbrev pub invariant-loop-v : goal.invariant-loop-v
invariant-loop-v l = record { below : All (λ v. v < l.n) l.numbers.items; count : length l.numbers.items ≡ l.v }
