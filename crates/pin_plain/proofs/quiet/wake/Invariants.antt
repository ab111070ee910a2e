-- Those that are marked still were, and none of the nets so far stirs them.
use Rattle.std.proofs.Common.{◌≡◌, ◌⊎◌, ℕ, true, false, All, length, take, slice_index_or}
use Rattle.hg_defs.specs.Incidence.{is_on}
use Rattle.pin_plain.specs.Quiet.{stirs_net}
use Rattle.pin_plain.proofs.quiet.wake.Given as goal

abbrev pub invariant-loop-e : goal.invariant-loop-e
invariant-loop-e l = record {
  all : length l.marks ≡ length l.fn.marks;
  left : (w : ℕ) → slice_index_or l.marks w false ≡ true
      → (slice_index_or l.fn.marks w false ≡ true)
      × All (λ e. (is_on l.lent.h.now w e ≡ false) ⊎ (stirs_net l.lent.h.now l.lent.blocks.now l.v l.to e ≡ false)) (take l.e-index l.e-items);
}
