-- The placing of the vertices that are left ends as that of all does.
use Rattle.std.proofs.Common.{◌≡◌, length}
use Rattle.hg_defs.specs.LeastLoaded.{placed, first_overfilling}
use Rattle.hg_base.proofs.PlacingLaws.{fixed_from}
use Rattle.hg_base.proofs.placement.Placing.place_fixed.Given as goal

abbrev pub invariant-loop-v : goal.invariant-loop-v
invariant-loop-v l =
    (length l.self.blocks ≡ length l.fn.self.blocks) × (length l.self.loads ≡ length l.fn.self.loads)
    × (placed l.h l.self (fixed_from l.h l.v) ≡ placed l.h l.fn.self (fixed_from l.h 0))
    × (first_overfilling l.h l.limit l.self (fixed_from l.h l.v) ≡ first_overfilling l.h l.limit l.fn.self (fixed_from l.h 0))
