use Rattle.std.proofs.Common.{◌≡◌}
use Rattle.fm_search.proofs.reading.approach.Given as goal

abbrev pub invariant-nets : goal.invariant-nets
invariant-nets l = l.mover ≡ l.fn.mover
