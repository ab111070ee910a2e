use Rattle.std.proofs.Common.{◌≡◌, ℕ, ◌≤◌, true, length, take, slice_index, nat_eq}
use Rattle.std.specs.Set.{is_member}
use Rattle.pin_plain.proofs.sums.Sums.clear.Given as goal

abbrev pub invariant-loop-i : goal.invariant-loop-i
invariant-loop-i l = record {
  size : length l.self-inside.sums ≡ 256;
  touched : l.self-inside.touched ≡ l.initial.self-inside.touched;
  count : l.self-inside.count ≡ l.initial.self-inside.count;
  less : (b : ℕ) → slice_index l.self-inside.sums b ≤ slice_index l.initial.self-inside.sums b;
  cleared : (b : ℕ) → is_member nat_eq (take l.i l.initial.self-inside.touched) b ≡ true → slice_index l.self-inside.sums b ≡ 0;
}
