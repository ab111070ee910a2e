-- The nets so far were counted once more.
use Rattle.std.proofs.Common.{◌≡◌, ℕ, take, slice_index}
use Rattle.coarsen.proofs.CountLaws.{raised}
use Rattle.coarsen.proofs.marks.count_once_more.Given as goal

abbrev pub invariant-loop-e : goal.invariant-loop-e
invariant-loop-e l = (e : ℕ) → slice_index l.counts e ≡ raised (take l.e-index l.nets) l.initial.counts e
