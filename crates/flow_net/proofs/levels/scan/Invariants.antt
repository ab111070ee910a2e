use Rattle.std.proofs.Common.{◌≡◌, ◌+◌, slice_index}
use Rattle.flow_net.specs.Residual.{IsScanned}
use Rattle.flow_net.proofs.levels.scan.Given as goal

abbrev pub invariant-loop-at : goal.invariant-loop-at
invariant-loop-at l = record {
  scanned : IsScanned l.halves.heads.now l.rests l.levels l.ways l.queue l.halves.sink l.start l.end l.node l.at;
  level : l.level ≡ slice_index l.levels l.node + 1;
}

abbrev pub decreases-loop-at : goal.decreases-loop-at
decreases-loop-at l = l.at
