-- None of the sums so far is above the loss.
use Rattle.std.proofs.Common.{ℕ, ◌<◌, ◌≤◌, slice_index}
use Rattle.pin_plain.proofs.sums.Sums.pass.Given as goal

abbrev pub invariant-loop-i : goal.invariant-loop-i
invariant-loop-i l = (i : ℕ) → i < l.i → slice_index l.self-inside.sums (slice_index l.self-inside.touched i) ≤ l.loss
