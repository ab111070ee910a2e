use Rattle.std.proofs.Common.{◌≡◌}
use Rattle.move_core.specs.State.{setup_of}
use Rattle.move_core.proofs.tests.step_over.Given as goal

abbrev pub invariant-loop-event : goal.invariant-loop-event
invariant-loop-event g l = l.books.setup ≡ setup_of l.h l.round.k l.round.limit l.round.blocks.now
