use Rattle.std.proofs.Common.{◌≡◌}
use Rattle.label_prop.specs.Workers.{IsIdlePass}
use Rattle.label_prop.proofs.worker.visit_share.Given as goal

abbrev pub invariant-loop-v : goal.invariant-loop-v
invariant-loop-v g l = record {
  blocks : l.scores.k ≡ l.shared.k;
  idle : IsIdlePass l.shared.round.now l.fn.pass.view.number l.pass;
}
