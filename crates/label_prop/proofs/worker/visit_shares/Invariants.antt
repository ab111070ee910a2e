use Rattle.std.proofs.Common.{◌≡◌}
use Rattle.label_prop.specs.Workers.{IsIdlePass}
use Rattle.label_prop.proofs.worker.visit_shares.Given as goal

abbrev pub invariant-loop : goal.invariant-loop
invariant-loop g l = record {
  blocks : l.scores.k ≡ l.shared.k;
  idle : IsIdlePass l.shared.round.now l.fn.pass.view.number l.pass;
}
