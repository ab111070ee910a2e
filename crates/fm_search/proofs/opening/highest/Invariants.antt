use Rattle.std.proofs.Common.{◌<◌, IfSome, length}
use Rattle.fm_search.proofs.opening.highest.Given as goal

abbrev pub invariant-places : goal.invariant-places
invariant-places l = IfSome l.best (λ c. c.to < length l.row)
