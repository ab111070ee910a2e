use Rattle.std.proofs.Common.{◌-◌, ◌≤◌, length}
use Rattle.flow_net.specs.Residual.{IsLined}
use Rattle.flow_net.proofs.ends.spread_level.Given as goal

abbrev pub invariant-loop-start : goal.invariant-loop-start
invariant-loop-start l = record {
  order : l.start ≤ l.end;
  lined : IsLined l.marks l.line l.end;
}

abbrev pub decreases-loop-start : goal.decreases-loop-start
decreases-loop-start l = length l.marks - l.start
