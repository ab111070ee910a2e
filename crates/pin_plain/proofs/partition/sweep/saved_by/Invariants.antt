use Rattle.std.proofs.Common.{◌≡◌, pos, take}
use Rattle.hg_defs.specs.declared.moves.Move.{Move}
use Rattle.hg_defs.specs.Sums.{total_z}
use Rattle.pin_plain.proofs.partition.sweep.saved_by.Given as goal

abbrev pub invariant-loop-step : goal.invariant-loop-step
invariant-loop-step l = pos l.saved ≡ total_z (λ (m : Move). m.booked) (take l.step-index l.moves)
