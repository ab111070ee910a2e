-- The vertices so far are marked.
use Rattle.std.proofs.Common.{◌≡◌, ℕ, ◌<◌, false, get_or}
use Rattle.hg_defs.specs.Hypergraph.{is_free}
use Rattle.coarsen.proofs.marks.mark_free.Given as goal

abbrev pub invariant-loop-v : goal.invariant-loop-v
invariant-loop-v l = (u : ℕ) → u < l.v → get_or l.single u false ≡ is_free l.h u
