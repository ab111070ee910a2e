use Rattle.std.proofs.Common.{◌≡◌, take}
use Rattle.std.specs.List.{flat_map}
use Rattle.flow_pair.specs.Sides.{small_nets}
use Rattle.flow_pair.proofs.region.all_small_nets_of.Given as goal

abbrev pub invariant-loop-v : goal.invariant-loop-v
invariant-loop-v l = l.list.items ≡ flat_map (small_nets l.h) (take l.v-index l.vertices)
