-- Those so far are marked where they are cut.
use Rattle.std.proofs.Common.{◌≡◌, ℕ, ◌+◌, ◌<◌, false, slice_index_or}
use Rattle.det_sync.specs.CutNets.{is_cut}
use Rattle.det_sync.proofs.cut.mark_cut.Given as goal

abbrev pub invariant-loop-i : goal.invariant-loop-i
invariant-loop-i l = (j : ℕ) → j < l.i → slice_index_or l.marks j false ≡ is_cut l.h l.p.blocks (l.first + j)
