-- Each cluster has the block of its first vertex from v on.
use Rattle.std.proofs.Common.{◌≡◌, map, drop}
use Rattle.std.specs.List.{range_with_len}
use Rattle.hg_defs.specs.Levels.{cluster_block}
use Rattle.coarsen.proofs.coarsening.lift_blocks.Given as goal

abbrev pub invariant-loop-v : goal.invariant-loop-v
invariant-loop-v l = l.above.items ≡ map (cluster_block (drop l.v l.blocks) (drop l.v l.clusters)) (range_with_len 0 l.count)
