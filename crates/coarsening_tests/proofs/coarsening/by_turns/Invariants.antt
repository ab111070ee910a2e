-- The blocks so far.
use Rattle.std.proofs.Common.{◌≡◌, ◌<◌, All, length}
use Rattle.coarsening_tests.proofs.coarsening.by_turns.Given as goal

abbrev pub invariant-loop-v : goal.invariant-loop-v
invariant-loop-v l = record { below : All (λ b. b < l.k) l.blocks.items; count : length l.blocks.items ≡ l.v }
