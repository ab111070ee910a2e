-- No named placement fits on the levels so far.
use Rattle.std.proofs.Common.{ℕ, ◌≤◌, ◌+◌, length}
use Rattle.det_sync.specs.Descent.{NoneFitsAt}
use Rattle.det_sync.proofs.descent.first_placed.Given as goal

abbrev pub invariant-loop-above : goal.invariant-loop-above
invariant-loop-above g l =
    (i : ℕ) → l.depth ≤ i + l.above → i ≤ length l.stack.maps → NoneFitsAt l.stack.base l.stack.maps l.k l.limit l.seed i
