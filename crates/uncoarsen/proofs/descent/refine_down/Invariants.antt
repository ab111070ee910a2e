use Rattle.std.proofs.Common.{◌≡◌, ◌-◌}
use Rattle.uncoarsen.proofs.DownLemmas.{Descending}
use Rattle.uncoarsen.proofs.descent.refine_down.Given as goal

abbrev pub invariant-loop-above : goal.invariant-loop-above
invariant-loop-above g l =
    (l.levels ≡ record { base = l.fn.stack.base; maps = l.fn.stack.maps; number = l.top - l.above })
    × Descending (λ b. (goal.Refiner-dyn g (b.vtable, b.value)).may_run b.value) (λ b. (goal.Refiner-dyn g (b.vtable, b.value)).kind b.value)
    (λ b. (goal.Refiner-dyn g (b.vtable, b.value)).tally b.value) l.fn.stack l.top l.fn.start.blocks l.k l.limit l.workers l.fn.log l.fn.refiners
    (l.top - l.above) l.above l.refiners l.log l.part
