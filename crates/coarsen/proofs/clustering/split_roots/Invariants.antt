-- The vertices so far have roots in their blocks.
use Rattle.coarsen.proofs.InsideSteps.{IsSplitting}
use Rattle.coarsen.proofs.clustering.split_roots.Given as goal

abbrev pub invariant-loop-v : goal.invariant-loop-v
invariant-loop-v l = IsSplitting l.blocks l.fn.roots.items l.v l.roots.items
