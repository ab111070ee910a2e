use Rattle.label_prop.specs.Workers.{IsIdlePass}
use Rattle.label_prop.proofs.marks.mark_stirred.Given as goal

abbrev pub invariant-loop-e : goal.invariant-loop-e
invariant-loop-e l = IsIdlePass l.shared.round.now l.fn.pass.view.number l.pass
