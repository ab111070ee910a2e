use Rattle.std.proofs.Common.{◌*◌, ◌/◌, length}
use Rattle.flow_pair.proofs.NoteLaws.{AreAdded}
use Rattle.flow_pair.proofs.short.add_runs.Given as goal

abbrev pub invariant-loop-i : goal.invariant-loop-i
invariant-loop-i l =
    AreAdded l.pair.h.now l.pair.blocks.now l.pair.first l.pair.second l.pair.region.now l.nets (length l.nets * l.i / length l.runs) l.network l.fixed
