use Rattle.std.proofs.Common.{ℕ, ◌≤◌, ◌+◌, length}
use Rattle.uncoarsen.specs.Start.{NoneFitsAt}
use Rattle.uncoarsen.proofs.start.descend.Given as goal

abbrev pub invariant-loop-above : goal.invariant-loop-above
invariant-loop-above g l = (i : ℕ) → l.depth ≤ i + l.above → i ≤ length l.stack.maps → NoneFitsAt l.stack l.k l.limit l.seed i
