use Rattle.std.proofs.Common.{◌∙◌, length, ap, arith}
use Rattle.hg_defs.specs.Hypergraph.{vertex_count}
use Rattle.flow_pair.proofs.RegionLaws.{rising-few}
use Rattle.flow_pair.proofs.pair.Pair.of.Goals as goal

pub invariant_of-result : goal.invariant_of-result
invariant_of-result c =
    let few = rising-few c.args.region.now (vertex_count c.args.h.now) c.requires.rising c.requires.vertices in
    let most = c.blocks-2.ensures.parted.bounds.vertices in
    let same = ap vertex_count c.requires.belongs in
    record {
      all = ap length c.blocks-2.ensures.value ∙ c.blocks-2.ensures.parted.partition.vertices ∙ same;
      rising = c.requires.rising;
      vertices = c.requires.vertices;
      long = c.requires.long;
      placed = c.requires.placed;
      small = omega arith;
      above = c.requires.most.0;
      bounded = c.requires.most.1;
    }
