use Rattle.std.proofs.Common.{◌≡◌}
use Rattle.label_prop.specs.Workers.{IsIdlePass}
use Rattle.label_prop.proofs.scores.Scores.save_by_words.Given as goal

abbrev pub invariant-loop-group : goal.invariant-loop-group
invariant-loop-group l = record {
  blocks : l.self.k ≡ l.fn.self.k;
  idle : IsIdlePass l.round l.fn.pass.view.number l.pass;
}
