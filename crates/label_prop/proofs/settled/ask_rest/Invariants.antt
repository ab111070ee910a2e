use Rattle.std.proofs.Common.{ℕ, ◌<◌}
use Rattle.label_prop.specs.Runs.{IsSettledRun}
use Rattle.label_prop.proofs.settled.ask_rest.Given as goal

abbrev pub invariant-loop-place : goal.invariant-loop-place
invariant-loop-place l = record {
  settled : (j : ℕ) → j < l.place → IsSettledRun l.h l.p.k l.p.limit l.p.blocks l.runs j;
}
