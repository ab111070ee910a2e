-- The levels so far are contractions inside the blocks, and each has fewer vertices than the one before.
use Rattle.std.proofs.Common.{◌≡◌, ◌+◌, ◌≤◌, length, All}
use Rattle.hg_defs.specs.Hypergraph.{vertex_count}
use Rattle.hg_defs.specs.Partition.{IsPartition}
use Rattle.hg_defs.specs.Levels.{coarsest, lifted_to}
use Rattle.round_log.specs.Trace.{AreContracted}
use Rattle.round_log.specs.Cycles.{IsInsideAt}
use Rattle.coarsen.specs.Numbers.{IsByRoot}
use Rattle.coarsen.proofs.coarsening.coarsen_inside.Given as goal

abbrev pub invariant-levels : goal.invariant-levels
invariant-levels g l = record {
  base : l.stack.base ≡ l.fn.h;
  levels : AreContracted (IsInsideAt l.k l.stack.maps l.blocks) 0 l.fn.h l.k l.stack.maps;
  top : l.current.items ≡ lifted_to l.blocks l.stack.maps (length l.stack.maps);
  partition : IsPartition (coarsest l.stack.base l.stack.maps) l.k l.current.items;
  numbered : All IsByRoot l.stack.maps;
  depth : length l.stack.maps + vertex_count (coarsest l.stack.base l.stack.maps) ≤ vertex_count l.fn.h;
}

abbrev pub decreases-levels : goal.decreases-levels
decreases-levels g l = vertex_count (coarsest l.stack.base l.stack.maps)
