use Rattle.label_prop.specs.Workers.{IsIdlePass}
use Rattle.label_prop.proofs.scores.peek_blocks.Given as goal

abbrev pub invariant-loop-index : goal.invariant-loop-index
invariant-loop-index l = IsIdlePass l.round l.fn.pass.view.number l.pass
