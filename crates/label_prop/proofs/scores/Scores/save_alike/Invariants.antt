use Rattle.std.proofs.Common.{◌≡◌}
use Rattle.label_prop.proofs.scores.Scores.save_alike.Given as goal

abbrev pub invariant-loop-left : goal.invariant-loop-left
invariant-loop-left l = record {
  blocks : l.self.k ≡ l.fn.self.k;
}

abbrev pub decreases-loop-left : goal.decreases-loop-left
decreases-loop-left l = l.left
