use Rattle.std.proofs.Common.{◌<◌, ◌≤◌, length}
use Rattle.flow_net.specs.Residual.{IsLined}
use Rattle.flow_net.proofs.ends.spread.Given as goal

abbrev pub invariant-loop-at : goal.invariant-loop-at
invariant-loop-at l = record {
  order : l.start < l.end;
  within : l.at ≤ length l.halves.heads.now;
  lined : IsLined l.marks l.line l.end;
}

abbrev pub decreases-loop-at : goal.decreases-loop-at
decreases-loop-at l = l.at
