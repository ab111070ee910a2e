use Rattle.std.proofs.Common.{◌≡◌, ℕ, ◌<◌, length, slice_index}
use Rattle.pin_plain.specs.Counts.{net_place, net_start, net_bits}
use Rattle.pin_plain.proofs.counts.lay_out.Given as goal

abbrev pub invariant-loop-e : goal.invariant-loop-e
invariant-loop-e l = record {
  nets : length l.starts.items ≡ l.e;
  starts : (i : ℕ) → i < l.e → slice_index l.starts.items i ≡ net_start l.h l.k i;
  width_nets : length l.widths.items ≡ l.e;
  widths : (i : ℕ) → i < l.e → slice_index l.widths.items i ≡ net_bits l.h i;
  next : l.words ≡ net_place l.h l.k l.e;
}
