use Rattle.std.proofs.Common.{◌≤◌}
use Rattle.flow_net.specs.Residual.{IsLined, IsSearched}
use Rattle.flow_net.proofs.ends.approach.Given as goal

abbrev pub invariant-loop-mark : goal.invariant-loop-mark
invariant-loop-mark l = record {
  order : l.start ≤ l.end;
  searched : IsSearched l.halves.heads.now l.rests l.levels l.ways l.queue l.halves.sink l.start l.end;
  marked : l.first ≤ l.last;
  lined : IsLined l.marks l.line l.last;
}
