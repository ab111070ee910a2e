use Rattle.vcycle.proofs.CyclingLemmas.{Cycling}
use Rattle.vcycle.proofs.cycling.cycles.Given as goal

abbrev pub invariant-loop-i : goal.invariant-loop-i
invariant-loop-i g l =
    Cycling (λ b. (goal.Refiner-dyn g (b.vtable, b.value)).may_run b.value) (λ b. (goal.Refiner-dyn g (b.vtable, b.value)).kind b.value)
    (λ b. (goal.Refiner-dyn g (b.vtable, b.value)).tally b.value) l.fn.h l.k l.limit l.workers l.fn.p.blocks l.fn.refiners l.i l.h l.p l.refiners l.traces
