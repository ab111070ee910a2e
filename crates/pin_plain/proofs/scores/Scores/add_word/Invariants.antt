use Rattle.std.proofs.Common.{◌≡◌, ◌≢◌, ℕ, ◌+◌, slice_index, if◌then◌else◌}
use Rattle.pin_plain.specs.Scores.{amount_for, is_between}
use Rattle.pin_plain.proofs.scores.Scores.add_word.Given as goal

abbrev pub invariant-loop-place : goal.invariant-loop-place
invariant-loop-place l = record {
  sums : (b : ℕ) → b ≢ l.from
      → slice_index l.self.sums b ≡ slice_index l.initial.self.sums b + (if is_between l.first l.place b then amount_for l.net.objective l.net.weight
      l.net.blocks.now l.net.pins.now b else 0);
  own : slice_index l.self.sums l.from ≡ slice_index l.initial.self.sums l.from;
}
