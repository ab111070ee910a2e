use Rattle.std.proofs.Common.{◌<◌, All, sym, subst}
use Rattle.std.specs.List.Sorted.{IsStrictlyIncreasing}
use Rattle.hg_defs.specs.Hypergraph.{IsHypergraph, vertex_count}
use Rattle.flow_pair.specs.PairNetwork.{AreOfPair}
use Rattle.flow_pair.proofs.EndLaws.{end_rises, end_vertices, end_pair}
use Rattle.flow_tests.proofs.pairs.flow_of.Goals as goal

pub region_network-requires-clause-rising : goal.region_network-requires-clause-rising
region_network-requires-clause-rising c =
    let p = c.args.p.now in
    subst IsStrictlyIncreasing (sym c.slice.ensures) (end_rises c.args.h.now p.k p.limit p.blocks c.args.a c.args.b c.args.end.now c.requires.end)

pub region_network-requires-clause-vertices : goal.region_network-requires-clause-vertices
region_network-requires-clause-vertices c =
    let p = c.args.p.now in
    let sound : IsHypergraph c.args.h.now = subst IsHypergraph c.requires.belongs c.blocks-blocks.ensures.parted.sound in
    subst (All (λ v. v < vertex_count c.args.h.now)) (sym c.slice.ensures)
    (end_vertices c.args.h.now p.k p.limit p.blocks c.args.a c.args.b c.args.end.now c.requires.end sound)

pub region_network-requires-clause-pair : goal.region_network-requires-clause-pair
region_network-requires-clause-pair c =
    let p = c.args.p.now in
    subst (AreOfPair p.blocks c.args.a c.args.b) (sym c.slice.ensures)
    (end_pair c.args.h.now p.k p.limit p.blocks c.args.a c.args.b c.args.end.now c.requires.end)
