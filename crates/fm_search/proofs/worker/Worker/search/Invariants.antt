use Rattle.std.proofs.Common.{◌≡◌}
use Rattle.fm_search.proofs.worker.Worker.search.Given as goal

abbrev pub invariant-turns : goal.invariant-turns
invariant-turns l = (l.self.mover ≡ l.fn.self.mover) × (l.self.desk ≡ l.fn.self.desk)

abbrev pub invariant-seeds : goal.invariant-seeds
invariant-seeds l = (l.self.mover ≡ l.fn.self.mover) × (l.self.desk ≡ l.fn.self.desk)
