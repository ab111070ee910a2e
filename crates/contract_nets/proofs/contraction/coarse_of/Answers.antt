-- The vertices and nets of the contraction.
use Rattle.std.proofs.Common.{ℕ, sym, ap, ◌∙◌, subst, arith}
use Rattle.hg_defs.specs.Contraction.{IsFull, contract}
use Rattle.hg_defs.specs.Clustering.{cluster_count}
use Rattle.contract_nets.specs.Nets.{all_nets}
use Rattle.contract_nets.proofs.CoarseLaws.{few_clusters, coarse_limits, coarse_sound}
use Rattle.contract_nets.proofs.contraction.coarse_of.Goals as goal

pub count_clusters-requires : goal.count_clusters-requires
count_clusters-requires c =
    let few = few_clusters c.args.h.now c.args.map.now (cluster_count c.args.map.now) c.vertices-vertices.ensures.sound c.requires.full
    c.vertices-vertices.ensures.bounds in
    λ k d l. let below = c.requires.full.below k d l in omega arith

pub vertices_of-requires-clause-few : goal.vertices_of-requires-clause-few
vertices_of-requires-clause-few c =
    let few = few_clusters c.args.h.now c.args.map.now (cluster_count c.args.map.now) c.vertices-vertices.ensures.sound c.requires.full
    c.vertices-vertices.ensures.bounds in
    let count = c.count_clusters.ensures in
    omega arith

pub add_nets-requires-clause-nets : goal.add_nets-requires-clause-nets
add_nets-requires-clause-nets c =
    coarse_sound c.args.h.now c.in_ok-coarse.coarse c.args.map.now c.count_clusters.result (all_nets c.args.lists.now)
    (c.requires.lists ∙ ap (λ (n : ℕ). (contract c.args.h.now c.args.map.now n).nets) (sym c.count_clusters.ensures))
    c.in_ok-coarse.ensures c.vertices-vertices.ensures.sound
    (subst (IsFull c.args.h.now c.args.map.now) (sym c.count_clusters.ensures) c.requires.full)

pub add_nets-requires-clause-limits : goal.add_nets-requires-clause-limits
add_nets-requires-clause-limits c =
    coarse_limits c.args.h.now c.in_ok-coarse.coarse c.args.map.now c.count_clusters.result (all_nets c.args.lists.now)
    (c.requires.lists ∙ ap (λ (n : ℕ). (contract c.args.h.now c.args.map.now n).nets) (sym c.count_clusters.ensures))
    c.in_ok-coarse.ensures c.vertices-vertices.ensures.sound
    (subst (IsFull c.args.h.now c.args.map.now) (sym c.count_clusters.ensures) c.requires.full)
    c.vertices-vertices.ensures.bounds
