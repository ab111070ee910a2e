use Rattle.std.proofs.Common.{◌≡◌}
use Rattle.fm_search.proofs.worker.Worker.tell.Given as goal

abbrev pub invariant-nets : goal.invariant-nets
invariant-nets l = (l.self.mover ≡ l.fn.self.mover) × (l.self.desk ≡ l.fn.self.desk)

abbrev pub invariant-listed : goal.invariant-listed
invariant-listed l = (l.self.mover ≡ l.fn.self.mover) × (l.self.desk ≡ l.fn.self.desk)
