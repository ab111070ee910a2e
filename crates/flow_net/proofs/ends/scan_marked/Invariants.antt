use Rattle.std.proofs.Common.{◌≡◌, ◌-◌, ◌+◌, ◌<◌, ◌≤◌, length, slice_index}
use Rattle.flow_net.specs.Residual.{tail, IsSpread}
use Rattle.flow_net.proofs.ends.scan_marked.Given as goal

abbrev pub invariant-loop-at : goal.invariant-loop-at
invariant-loop-at l = record {
  order : l.start < l.end;
  here : slice_index l.queue l.start ≡ l.node;
  within : l.at ≤ length l.halves.heads.now;
  leaves : 0 < l.at → tail l.halves.heads.now (l.at - 1) ≡ l.node;
  spread : IsSpread l.halves.heads.now l.rests l.levels l.ways l.queue l.halves.sink l.end;
  level : l.level ≡ slice_index l.levels l.node + 1;
}

abbrev pub decreases-loop-at : goal.decreases-loop-at
decreases-loop-at l = l.at
