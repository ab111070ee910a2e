-- Those so far are marked only where they are quiet.
use Rattle.std.proofs.Common.{◌≡◌, ℕ, ◌+◌, ◌<◌, false, true, slice_index_or}
use Rattle.pin_plain.specs.Quiet.{IsQuiet}
use Rattle.pin_plain.specs.Scores.{IsClear}
use Rattle.pin_plain.proofs.partition.marking.mark_run.Given as goal

abbrev pub invariant-loop-i : goal.invariant-loop-i
invariant-loop-i l = record {
  clear : IsClear l.scores.sums;
  quiet : (j : ℕ) → j < l.i → slice_index_or l.marks j false ≡ true → IsQuiet l.h l.p.k l.p.blocks (l.first + j);
}
