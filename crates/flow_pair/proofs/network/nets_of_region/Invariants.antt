use Rattle.std.proofs.Common.{◌≡◌, take}
use Rattle.std.specs.List.{flat_map}
use Rattle.hg_defs.specs.Incidence.{nets_of}
use Rattle.flow_pair.proofs.network.nets_of_region.Given as goal

abbrev pub invariant-loop-v : goal.invariant-loop-v
invariant-loop-v l = l.nets.items ≡ flat_map (nets_of l.h) (take l.v-index l.region)
