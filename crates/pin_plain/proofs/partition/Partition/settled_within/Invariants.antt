use Rattle.std.proofs.Common.{◌≡◌, ℕ, ◌<◌, ◌≤◌, None}
use Rattle.hg_defs.specs.Moves.{best_block}
use Rattle.pin_plain.specs.Scores.{IsClear}
use Rattle.pin_plain.proofs.partition.Partition.settled_within.Given as goal

abbrev pub invariant-loop-v : goal.invariant-loop-v
invariant-loop-v l = record {
  clear : IsClear l.scores.sums;
  none : (u : ℕ) → l.first ≤ u → u < l.v → best_block l.h l.self.limit l.self.blocks u l.self.k ≡ None;
}
