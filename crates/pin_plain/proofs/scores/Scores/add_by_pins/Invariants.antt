use Rattle.std.proofs.Common.{◌≡◌, ◌≢◌, ℕ, ◌+◌, ◌<◌, take, slice_index, nat_lt, if◌then◌else◌}
use Rattle.hg_defs.specs.Pins.{pins_in}
use Rattle.pin_plain.specs.Scores.{is_seen, amount_for}
use Rattle.pin_plain.proofs.scores.Scores.add_by_pins.Given as goal

abbrev pub invariant-loop-v : goal.invariant-loop-v
invariant-loop-v l = record {
  sums : (b : ℕ) → b ≢ l.from
      → slice_index l.self.sums b ≡ slice_index l.initial.self.sums b + (if nat_lt 0 (pins_in l.net.blocks.now (take l.v-index l.v-items) b) then amount_for
      l.net.objective l.net.weight l.net.blocks.now l.net.pins.now b else 0);
  own : slice_index l.self.sums l.from ≡ slice_index l.initial.self.sums l.from;
  marked : (b : ℕ) → b < 256 → b ≢ l.from → is_seen l.self.seen b ≡ nat_lt 0 (pins_in l.net.blocks.now (take l.v-index l.v-items) b);
}
