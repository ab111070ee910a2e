use Rattle.std.proofs.Common.{◌-◌, ◌≤◌, length}
use Rattle.flow_net.specs.Residual.{IsSearched}
use Rattle.flow_net.proofs.ends.scan_level.Given as goal

abbrev pub invariant-loop-start : goal.invariant-loop-start
invariant-loop-start l = record {
  order : l.start ≤ l.end;
  searched : IsSearched l.halves.heads.now l.rests l.levels l.ways l.queue l.halves.sink l.start l.end;
}

abbrev pub decreases-loop-start : goal.decreases-loop-start
decreases-loop-start l = length l.levels - l.start
