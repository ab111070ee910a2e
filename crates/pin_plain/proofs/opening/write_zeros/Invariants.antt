use Rattle.std.proofs.Common.{◌≡◌, ℕ, ◌<◌, ◌≤◌, slice_index}
use Rattle.pin_plain.specs.Opened.{SameOutside}
use Rattle.pin_plain.proofs.opening.write_zeros.Given as goal

abbrev pub invariant-loop-i : goal.invariant-loop-i
invariant-loop-i l = record {
  zeros : (j : ℕ) → l.from ≤ j → j < l.i → slice_index l.words j ≡ 0;
  others : SameOutside l.from l.i l.initial.words l.words;
}
