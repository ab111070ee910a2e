use Rattle.std.proofs.Common.{◌≡◌}
use Rattle.fm_search.proofs.worker.Worker.draw_lots.Given as goal

abbrev pub invariant-seeds : goal.invariant-seeds
invariant-seeds g l = (l.self.mover ≡ record l.fn.self.mover { seeds = l.turn }) × (l.self.desk ≡ l.fn.self.desk)
