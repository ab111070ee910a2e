-- All are of the width so far.
use Rattle.std.proofs.Common.{◌≡◌, ℕ, ◌<◌, IsTrue, slice_index_or}
use Rattle.pin_plain.proofs.partition.stride.all_are.Given as goal

abbrev pub invariant-loop-other : goal.invariant-loop-other
invariant-loop-other l = record {
  only : IsTrue l.same → (j : ℕ) → j < l.other-index → slice_index_or l.widths j 0 ≡ l.width;
  all : ((j : ℕ) → j < l.other-index → slice_index_or l.widths j 0 ≡ l.width) → IsTrue l.same;
}
