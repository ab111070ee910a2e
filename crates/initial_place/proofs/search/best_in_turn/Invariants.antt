use Rattle.initial_place.specs.NoWorse.{TakesPlace}
use Rattle.initial_place.proofs.search.best_in_turn.Given as goal

abbrev pub invariant-loop-number : goal.invariant-loop-number
invariant-loop-number g l = TakesPlace l.h l.k l.limit l.fn.best.blocks l.best

abbrev pub invariant-loop-throw : goal.invariant-loop-throw
invariant-loop-throw g l = TakesPlace l.h l.k l.limit l.fn.best.blocks l.best
