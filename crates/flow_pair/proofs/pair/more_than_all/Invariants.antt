use Rattle.std.proofs.Common.{◌≡◌, take}
use Rattle.hg_defs.specs.Sums.{total}
use Rattle.flow_pair.proofs.pair.more_than_all.Given as goal

abbrev pub invariant-loop-e : goal.invariant-loop-e
invariant-loop-e l = l.weight ≡ total (λ net. net.weight) (take l.e l.h.nets)
