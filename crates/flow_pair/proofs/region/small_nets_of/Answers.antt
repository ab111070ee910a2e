use Rattle.std.proofs.Common.{◌<◌, All, length, sym, subst, arith}
use Rattle.std.proofs.lemmas.List.Elements.{All-weaker}
use Rattle.hg_defs.specs.Hypergraph.{net_count}
use Rattle.flow_pair.proofs.NetLaws.{small_each}
use Rattle.flow_pair.proofs.region.small_nets_of.Goals as goal

pub distinct_of_many-requires : goal.distinct_of_many-requires
distinct_of_many-requires c =
    let h = c.args.h.now in
    All-weaker (λ e. e < net_count h) (λ e. e < length c.args.spots.now) (λ e l. let s = c.requires.spots in omega arith) c.in_ok-list.list.items
    (subst (All (λ e. e < net_count h)) (sym c.in_ok-list.ensures) (small_each h c.args.vertices.now))
