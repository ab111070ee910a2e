-- The levels so far suit the blocks.
use Rattle.std.proofs.Common.{ℕ, ◌<◌}
use Rattle.hg_defs.specs.Hypergraph.{Suits}
use Rattle.hg_defs.specs.Levels.{level}
use Rattle.descent_tests.proofs.deterministic.all_suit.Given as goal

abbrev pub invariant-loop-i : goal.invariant-loop-i
invariant-loop-i l = (j : ℕ) → j < l.i → Suits (level l.stack.base l.stack.maps j) l.k
