-- The pass stays one of the round, and is idle after each try.
use Rattle.std.proofs.Common.{◌≡◌}
use Rattle.move_core.specs.declared.account.Stage.TheVariants.{Idle}
use Rattle.move_table.specs.Calls.{IsPassOf}
use Rattle.move_table.proofs.tests.try_all.Given as goal

abbrev pub invariant-loop-v : goal.invariant-loop-v
invariant-loop-v l = record {
  belongs : IsPassOf l.round l.pass;
  idle : l.pass.view.account.stage ≡ Idle;
  number : l.pass.view.number ≡ l.fn.pass.view.number;
}
