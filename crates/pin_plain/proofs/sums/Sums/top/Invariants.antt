use Rattle.std.proofs.Common.{take}
use Rattle.pin_plain.specs.Scores.{IsTopAmong}
use Rattle.pin_plain.proofs.sums.Sums.top.Given as goal

abbrev pub invariant-loop-i : goal.invariant-loop-i
invariant-loop-i l = IsTopAmong l.self-inside.sums l.loads l.limit l.weight l.from l.loss (take l.i l.self-inside.touched) l.best
