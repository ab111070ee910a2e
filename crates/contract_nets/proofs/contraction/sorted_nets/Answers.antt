-- The nets of the contraction, and a key for each net that is kept.
use Rattle.std.proofs.Common.{ap, map}
use Rattle.hg_defs.specs.Hypergraph.{Hyper}
use Rattle.hg_defs.specs.Clustering.{cluster_count}
use Rattle.contract_nets.specs.Ranges.{all_keys}
use Rattle.contract_nets.proofs.CoarseLaws.{few_clusters, each_sorted, nets_are, nets_within}
use Rattle.contract_nets.proofs.MappedLaws.{AreKeys-over}
use Rattle.contract_nets.proofs.LedgerLaws.{key_of_wide}
use Rattle.contract_nets.proofs.contraction.sorted_nets.Goals as goal

pub map_nets-requires-clause-few : goal.map_nets-requires-clause-few
map_nets-requires-clause-few g c κs within =
    few_clusters c.args.h.now c.args.map.now (cluster_count c.args.map.now) c.vertices-vertices.ensures.sound c.requires.full
    c.vertices-vertices.ensures.bounds

pub returns-clause-keys : goal.returns-clause-keys
returns-clause-keys g c =
    let keys = all_keys (map (λ list. list.items) c.in_ok-nets.lists.items) in
    let made = AreKeys-over c.args.h.now c.in_ok-nets.nets c.args.map.now keys c.vertices-vertices.ensures.sound c.requires.full
    c.vertices-vertices.ensures.bounds c.in_ok-nets.ensures.images c.in_ok-nets.ensures.keys in
    each_sorted c.args.h.now c.in_ok-nets.nets c.args.map.now (cluster_count c.args.map.now) keys c.in_ok-keys.keys.items
    (ap (λ (x : Hyper). x.nets) c.in_ok-nets.ensures.images) made.each made.nets c.in_ok-keys.ensures.permutation
    c.in_ok-keys.ensures.sorted

pub returns-clause-limits : goal.returns-clause-limits
returns-clause-limits g c =
    let keys = all_keys (map (λ list. list.items) c.in_ok-nets.lists.items) in
    let made = AreKeys-over c.args.h.now c.in_ok-nets.nets c.args.map.now keys c.vertices-vertices.ensures.sound c.requires.full
    c.vertices-vertices.ensures.bounds c.in_ok-nets.ensures.images c.in_ok-nets.ensures.keys in
    nets_within c.args.h.now c.in_ok-nets.nets c.args.map.now (cluster_count c.args.map.now) keys c.in_ok-keys.keys.items
    (ap (λ (x : Hyper). x.nets) c.in_ok-nets.ensures.images) made.each made.nets c.in_ok-keys.ensures.permutation
    c.in_ok-keys.ensures.sorted
    c.vertices-vertices.ensures.sound c.requires.full c.vertices-vertices.ensures.bounds

pub returns-clause-nets : goal.returns-clause-nets
returns-clause-nets g c =
    let keys = all_keys (map (λ list. list.items) c.in_ok-nets.lists.items) in
    let made = AreKeys-over c.args.h.now c.in_ok-nets.nets c.args.map.now keys c.vertices-vertices.ensures.sound c.requires.full
    c.vertices-vertices.ensures.bounds c.in_ok-nets.ensures.images c.in_ok-nets.ensures.keys in
    nets_are c.args.h.now c.in_ok-nets.nets c.args.map.now (cluster_count c.args.map.now) keys c.in_ok-keys.keys.items
    (ap (λ (x : Hyper). x.nets) c.in_ok-nets.ensures.images) made.each made.nets c.in_ok-keys.ensures.permutation
    c.in_ok-keys.ensures.sorted

pub returns-clause-all : goal.returns-clause-all
returns-clause-all g c =
    let keys = all_keys (map (λ list. list.items) c.in_ok-nets.lists.items) in
    let made = AreKeys-over c.args.h.now c.in_ok-nets.nets c.args.map.now keys c.vertices-vertices.ensures.sound c.requires.full
    c.vertices-vertices.ensures.bounds c.in_ok-nets.ensures.images c.in_ok-nets.ensures.keys in
    key_of_wide c.args.h.now c.in_ok-nets.nets c.args.map.now keys c.in_ok-keys.keys.items
    (ap (λ (x : Hyper). x.nets) c.in_ok-nets.ensures.images)
    made.numbers c.in_ok-keys.ensures.permutation
