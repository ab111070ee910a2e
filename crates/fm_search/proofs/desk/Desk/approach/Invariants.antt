use Rattle.std.proofs.Common.{◌≡◌}
use Rattle.fm_search.proofs.desk.Desk.approach.Given as goal

abbrev pub invariant-listed : goal.invariant-listed
invariant-listed l = l.mover ≡ l.fn.mover
