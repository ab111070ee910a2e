use Rattle.std.proofs.Common.{◌≡◌, ◌<◌, ◌*◌, ℕ, All, List, length, subst, sym, ap, ◌∙◌, arith}
use Rattle.std.proofs.lemmas.List.{length-replicate}
use Rattle.hg_defs.specs.Sums.{total}
use Rattle.hg_defs.specs.Hypergraph.{Hyper, Net, vertex_count, pin_count}
use Rattle.partition_tests.proofs.partition.one_net.Goals as goal

pub push_net-requires-clause-vertices : goal.push_net-requires-clause-vertices
push_net-requires-clause-vertices c =
    let count : vertex_count c.in_ok-flat.flat ≡ c.args.vertices = ap vertex_count c.in_ok-flat.ensures.value ∙ length-replicate c.args.vertices 1 in
    subst (λ (n : ℕ). All (λ v. v < n) c.as_slice.result.now) (sym count)
    (subst (λ (vs : List ℕ). All (λ v. v < c.args.vertices) vs) (sym c.as_slice.ensures.value) c.in_ok-pins.ensures.below)

pub push_net-requires-clause-all_pins : goal.push_net-requires-clause-all_pins
push_net-requires-clause-all_pins c =
    let none : pin_count c.in_ok-flat.flat ≡ 0 = ap pin_count c.in_ok-flat.ensures.value in
    let same = ap length c.as_slice.ensures.value in
    let count : length c.in_ok-pins.pins.items ≡ c.args.vertices = c.in_ok-pins.ensures.count in
    let few = c.requires in
    omega arith

pub push_net-requires-clause-pin_weight : goal.push_net-requires-clause-pin_weight
push_net-requires-clause-pin_weight c =
    let none : total (λ (e : Net). e.weight * length e.pins) c.in_ok-flat.flat.nets ≡ 0 = ap (λ (h : Hyper). total (λ (e : Net). e.weight * length e.pins)
    h.nets) c.in_ok-flat.ensures.value in
    let same = ap length c.as_slice.ensures.value in
    let count : length c.in_ok-pins.pins.items ≡ c.args.vertices = c.in_ok-pins.ensures.count in
    let few = c.requires in
    omega arith
