-- The single vertices so far were counted.
use Rattle.std.proofs.Common.{take}
use Rattle.coarsen.specs.Marks.{AreCounted}
use Rattle.coarsen.proofs.marks.count_on_nets.Given as goal

abbrev pub invariant-loop-v : goal.invariant-loop-v
invariant-loop-v l = AreCounted l.h (take l.v l.single) l.counts.items
