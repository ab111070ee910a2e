use Rattle.std.proofs.Common.{◌-◌, ◌≤◌, length}
use Rattle.flow_net.specs.Residual.{IsSpread}
use Rattle.flow_net.proofs.ends.narrow.Given as goal

abbrev pub invariant-loop-levels : goal.invariant-loop-levels
invariant-loop-levels l = record {
  order : l.start ≤ l.end;
  spread : IsSpread l.halves.heads.now l.rests l.levels l.ways l.queue l.halves.sink l.end;
}

abbrev pub decreases-loop-levels : goal.decreases-loop-levels
decreases-loop-levels l = length l.levels - l.start
