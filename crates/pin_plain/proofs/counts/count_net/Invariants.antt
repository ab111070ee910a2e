use Rattle.std.proofs.Common.{◌≡◌, ◌≢◌, ℕ, ◌+◌, ◌/◌, All, take, slice_index}
use Rattle.hg_base.specs.Packed.{count_at, fields_of}
use Rattle.hg_defs.specs.Pins.{pins_in}
use Rattle.pin_plain.proofs.counts.count_net.Given as goal

abbrev pub invariant-loop-v : goal.invariant-loop-v
invariant-loop-v l = record {
  counts : (b : ℕ) → count_at l.words l.start l.bits b ≡ count_at l.initial.words l.start l.bits b + pins_in l.blocks (take l.v-index l.pins) b;
  others : (i : ℕ) → All (λ b. i ≢ l.start + b / fields_of l.bits) l.blocks → slice_index l.words i ≡ slice_index l.initial.words i;
}
