use Rattle.std.proofs.Common.{◌≡◌, ◌≢◌, ◌<◌, IfSome}
use Rattle.label_prop.proofs.scores.Scores.take_best.Given as goal

abbrev pub invariant-loop-left : goal.invariant-loop-left
invariant-loop-left l = record {
  blocks : l.self.k ≡ l.fn.self.k;
  below : IfSome l.best (λ b. b < l.self.k);
  other : IfSome l.best (λ b. b ≢ l.own);
}

abbrev pub decreases-loop-left : goal.decreases-loop-left
decreases-loop-left l = l.left

abbrev pub invariant-loop-place : goal.invariant-loop-place
invariant-loop-place l = record {
  blocks : l.self.k ≡ l.fn.self.k;
  below : IfSome l.best (λ b. b < l.self.k);
  other : IfSome l.best (λ b. b ≢ l.own);
}
