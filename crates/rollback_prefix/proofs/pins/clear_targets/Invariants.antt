use Rattle.std.proofs.Common.{◌≡◌, ℕ, ◌<◌, ◌≤◌, get_or}
use Rattle.hg_defs.specs.declared.moves.Move.{Move}
use Rattle.rollback_prefix.proofs.pins.clear_targets.Given as goal

-- the targets of the moves so far are zeros, and no count rose
abbrev pub invariant-loop-place : goal.invariant-loop-place
invariant-loop-place l = record {
  zeros : (i : ℕ) (d : Move) → i < l.place-index → get_or l.counts (get_or l.moves (get_or l.places i 0) d).to 0 ≡ 0;
  others : (b : ℕ) → get_or l.counts b 0 ≤ get_or l.fn.counts b 0;
}
