-- All vertices have roots in their blocks.
use Rattle.std.proofs.Common.{◌≡◌, ◌≤◌, arith}
use Rattle.coarsen.proofs.InsideSteps.{splitting_end}
use Rattle.coarsen.proofs.clustering.split_roots.Goals as goal

pub returns : goal.returns
returns c =
    splitting_end c.args.blocks.now c.args.roots.items c.loop-v.roots.items c.loop-v.v c.loop-v.invariant
    (omega (arith, c.loop-v-test.false, c.vertices-v-end.ensures.count, c.requires.roots))
