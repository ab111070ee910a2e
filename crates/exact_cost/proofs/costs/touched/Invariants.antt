-- The set has the blocks of the pins so far, and the count says how many they are.
use Rattle.std.proofs.Common.{map, take}
use Rattle.hg_defs.specs.Hypergraph.{vertex_count, net_of}
use Rattle.hg_defs.specs.Partition.{block_of}
use Rattle.exact_cost.specs.Carrying.{carried_down}
use Rattle.exact_cost.proofs.SeenLemmas.{AreSeen}
use Rattle.exact_cost.proofs.costs.touched.Given as goal

abbrev pub invariant-pins : goal.invariant-pins
invariant-pins l =
    AreSeen l.seen l.count l.v-index
    (map (block_of (carried_down (vertex_count l.h) l.maps l.blocks)) (take l.v-index (net_of l.h l.e).pins))
