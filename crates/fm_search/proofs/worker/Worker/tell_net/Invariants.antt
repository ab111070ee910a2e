use Rattle.std.proofs.Common.{◌≡◌}
use Rattle.fm_search.proofs.worker.Worker.tell_net.Given as goal

abbrev pub invariant-pins : goal.invariant-pins
invariant-pins l = (l.self.mover ≡ l.fn.self.mover) × (l.self.desk ≡ l.fn.self.desk)
