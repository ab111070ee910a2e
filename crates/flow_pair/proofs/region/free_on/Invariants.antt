use Rattle.std.proofs.Common.{◌≡◌, ◌<◌, take, All}
use Rattle.std.specs.List.{flat_map}
use Rattle.hg_defs.specs.Hypergraph.{vertex_count}
use Rattle.flow_pair.specs.Sides.{free_pins}
use Rattle.flow_pair.proofs.region.free_on.Given as goal

abbrev pub invariant-loop-e : goal.invariant-loop-e
invariant-loop-e l =
    (l.list.items ≡ flat_map (free_pins l.h l.blocks l.block) (take l.e-index l.nets)) × All (λ v. v < vertex_count l.h) l.list.items
