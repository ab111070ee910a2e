-- Those that are marked still were, and aren't among the pins so far.
use Rattle.std.proofs.Common.{◌≡◌, ℕ, true, false, length, take, slice_index_or, nat_eq}
use Rattle.std.specs.Set.{is_member}
use Rattle.pin_plain.proofs.quiet.unmark.Given as goal

abbrev pub invariant-loop-v : goal.invariant-loop-v
invariant-loop-v l = record {
  all : length l.marks ≡ length l.fn.marks;
  left : (v : ℕ) → slice_index_or l.marks v false ≡ true
      → (slice_index_or l.fn.marks v false ≡ true) × (is_member nat_eq (take l.v-index l.pins) v ≡ false);
}
