-- The vertices so far are free.
use Rattle.std.proofs.Common.{ℕ, ◌<◌}
use Rattle.hg_defs.specs.Hypergraph.{IsFree}
use Rattle.descent_tests.proofs.cycles.is_free.Given as goal

abbrev pub invariant-loop-v : goal.invariant-loop-v
invariant-loop-v l = (u : ℕ) → u < l.v → IsFree l.h u
