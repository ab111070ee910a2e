use Rattle.std.proofs.Common.{◌≡◌, ◌++◌, filter, take}
use Rattle.flow_pair.specs.Sides.{is_small}
use Rattle.flow_pair.proofs.region.add_small.Given as goal

abbrev pub invariant-loop-e : goal.invariant-loop-e
invariant-loop-e l = l.list.items ≡ l.initial.list.items ++ filter (is_small l.h) (take l.e-index l.nets)
