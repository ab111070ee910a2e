use Rattle.label_prop.specs.Workers.{IsIdlePass}
use Rattle.label_prop.proofs.scores.Outlook.of.Given as goal

abbrev pub invariant-loop-e : goal.invariant-loop-e
invariant-loop-e l = IsIdlePass l.round l.fn.pass.view.number l.pass
