-- The numbers so far stand in the map.
use Rattle.std.proofs.Common.{ℕ, ◌<◌, Contains}
use Rattle.coarsening_tests.proofs.levels.uses_all.Given as goal

abbrev pub invariant-loop-i : goal.invariant-loop-i
invariant-loop-i l = (j : ℕ) → j < l.i-counter → Contains l.map j
