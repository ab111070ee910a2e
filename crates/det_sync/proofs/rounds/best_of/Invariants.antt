-- The costs after the moves so far and after the best prefix of them.
use Rattle.std.proofs.Common.{◌≡◌, pos, ◌-ℤ◌}
use Rattle.det_sync.specs.Rounds.{saved_first, IsMostSaved}
use Rattle.det_sync.proofs.rounds.best_of.Given as goal

abbrev pub invariant-loop-i : goal.invariant-loop-i
invariant-loop-i l = record {
  cost_is : l.cost ≡ pos l.before -ℤ saved_first l.moves l.i;
  least_is : l.least ≡ pos l.before -ℤ saved_first l.moves l.kept;
  most : IsMostSaved l.moves l.i l.kept;
}
