-- The places are the ledger.
use Rattle.std.proofs.Common.{◌≡◌, length, map, drop, sym, ap, ◌∙◌, subst}
use Rattle.std.proofs.lemmas.List.{take_at}
use Rattle.hg_defs.specs.Hypergraph.{Net, Hyper, net_count}
use Rattle.hg_defs.specs.Contraction.{contract}
use Rattle.hg_defs.specs.Clustering.{cluster_count}
use Rattle.contract_nets.specs.Places.{read_place}
use Rattle.contract_nets.specs.Ledger.{IsLedger}
use Rattle.contract_nets.specs.Merging.{mapped_net, ArePlaces}
use Rattle.contract_nets.proofs.LedgerLaws.{ledger_is}
use Rattle.contract_nets.proofs.contraction.contract.Goals as goal

pub returns-clause-ledger : goal.returns-clause-ledger
returns-clause-ledger g c =
    let h = c.args.h.now in
    let clusters = c.args.map.now in
    let coarse = contract h clusters (cluster_count clusters) in
    let places = c.merge.new.places in
    let same = c.in_ok-coarse.ensures.coarse in
    let long : length places ≡ c.in_ok-places.places.len = c.merge.auto.places ∙ c.as_mut_slice.ensures.len in
    let count : length places ≡ net_count h = long ∙ c.in_ok-places.ensures.len ∙ c.nets.ensures.count in
    subst (λ (x : Hyper). IsLedger h clusters x c.from_places.result) (sym (c.in_ok-build_with.ensures ∙ same))
    (subst (IsLedger h clusters coarse) (sym (c.from_places.ensures ∙ ap (map read_place) (take_at places (drop (length places) c.in_ok-places.places.items)
    c.in_ok-places.places.len long)))
    (ledger_is h clusters (cluster_count clusters) places count
    (subst (λ (x : Hyper). ArePlaces (map (mapped_net clusters) h.nets) (map (λ (e : Net). e.pins) x.nets) places) same c.in_ok-coarse.ensures.placed)
    c.in_ok-coarse.ensures.all))
