use Rattle.uncoarsen.proofs.TurnLemmas.{Turns}
use Rattle.uncoarsen.proofs.passes.refine_level.Given as goal

abbrev pub invariant-loop-i : goal.invariant-loop-i
invariant-loop-i g l =
    Turns (λ b. (goal.Refiner-dyn g (b.vtable, b.value)).may_run b.value) (λ b. (goal.Refiner-dyn g (b.vtable, b.value)).kind b.value)
    (λ b. (goal.Refiner-dyn g (b.vtable, b.value)).tally b.value) l.h l.task l.fn.part l.fn.log l.fn.refiners l.i l.refiners l.log l.part
