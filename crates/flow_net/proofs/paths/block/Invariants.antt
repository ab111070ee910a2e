use Rattle.std.proofs.Common.{◌<◌, length}
use Rattle.flow_net.specs.Residual.{IsTree, IsMarked, IsRaised}
use Rattle.flow_net.proofs.paths.block.Given as goal

abbrev pub invariant-loop-step : goal.invariant-loop-step
invariant-loop-step l = record {
  inside : l.node < length l.levels;
  tree : IsTree l.halves.heads.now l.levels l.ways l.halves.sink;
  marked : IsMarked l.halves.heads.now l.currents l.entries;
  raised : IsRaised l.halves.heads.now l.halves.source l.halves.sink 0 l.initial.rests l.rests;
}
