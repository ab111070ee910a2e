use Rattle.std.proofs.Common.{◌≡◌, ◌<◌, ℕ, length, slice_index}
use Rattle.flow_pair.proofs.pair.write_places.Given as goal

abbrev pub invariant-loop-i : goal.invariant-loop-i
invariant-loop-i l = record {
  long : length l.places ≡ length l.initial.places;
  placed : (j : ℕ) → j < l.i → slice_index l.places (slice_index l.region j) ≡ j;
}
