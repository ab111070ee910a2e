use Rattle.std.proofs.Common.{◌<◌, All}
use Rattle.partition_tests.proofs.partition.moves_by_turns.Given as goal

abbrev pub invariant-loop-i : goal.invariant-loop-i
invariant-loop-i l = record { vertices : All (λ m. m.vertex < l.vertices) l.moves.items; blocks : All (λ m. m.to < 3) l.moves.items }
