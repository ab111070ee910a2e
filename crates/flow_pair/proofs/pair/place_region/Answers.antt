use Rattle.std.proofs.Common.{arith}
use Rattle.hg_defs.specs.Hypergraph.{vertex_count}
use Rattle.flow_pair.proofs.RegionLaws.{rising-few}
use Rattle.flow_pair.proofs.pair.place_region.Goals as goal

pub write_places-requires-clause-few : goal.write_places-requires-clause-few
write_places-requires-clause-few c =
    let few = rising-few c.args.region.now (vertex_count c.args.h.now) c.requires.rising c.requires.vertices in
    let most = c.vertices.ensures.bounds.vertices in
    omega arith
