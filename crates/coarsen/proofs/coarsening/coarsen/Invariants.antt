-- The levels so far are contractions, and each has fewer vertices than the one before.
use Rattle.std.proofs.Common.{◌≡◌, ◌+◌, ◌≤◌, length, All}
use Rattle.hg_defs.specs.Hypergraph.{vertex_count}
use Rattle.hg_defs.specs.Levels.{coarsest}
use Rattle.round_log.specs.Trace.{IsGoodClustering, AreContracted}
use Rattle.coarsen.specs.Numbers.{IsByRoot}
use Rattle.coarsen.proofs.coarsening.coarsen.Given as goal

abbrev pub invariant-levels : goal.invariant-levels
invariant-levels g l = record {
  base : l.stack.base ≡ l.fn.h;
  levels : AreContracted (IsGoodClustering l.k) 0 l.fn.h l.k l.stack.maps;
  numbered : All IsByRoot l.stack.maps;
  depth : length l.stack.maps + vertex_count (coarsest l.stack.base l.stack.maps) ≤ vertex_count l.fn.h;
}

abbrev pub decreases-levels : goal.decreases-levels
decreases-levels g l = vertex_count (coarsest l.stack.base l.stack.maps)
