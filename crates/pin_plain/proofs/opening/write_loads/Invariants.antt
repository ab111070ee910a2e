use Rattle.std.proofs.Common.{◌≡◌, ℕ, ◌+◌, ◌<◌, slice_index}
use Rattle.pin_plain.specs.Opened.{SameOutside}
use Rattle.pin_plain.proofs.opening.write_loads.Given as goal

abbrev pub invariant-loop-b : goal.invariant-loop-b
invariant-loop-b l = record {
  written : (b : ℕ) → b < l.b → slice_index l.words (l.at + b) ≡ slice_index l.loads b;
  others : SameOutside l.at (l.at + l.b) l.initial.words l.words;
}
