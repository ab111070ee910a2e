use Rattle.std.proofs.Common.{◌≡◌}
use Rattle.label_prop.specs.Workers.{IsIdlePass}
use Rattle.label_prop.proofs.scores.Scores.best_block.Given as goal

abbrev pub invariant-loop-e : goal.invariant-loop-e
invariant-loop-e l = record {
  blocks : l.self.k ≡ l.fn.self.k;
  idle : IsIdlePass l.round l.fn.pass.view.number l.pass;
}
