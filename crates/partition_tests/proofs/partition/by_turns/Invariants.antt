-- The places so far.
use Rattle.std.proofs.Common.{◌≡◌, ◌<◌, All, length}
use Rattle.partition_tests.proofs.partition.by_turns.Given as goal

abbrev pub invariant-loop-v : goal.invariant-loop-v
invariant-loop-v l = record { below : All (λ v. v < 3) l.places.items; count : length l.places.items ≡ l.v }
