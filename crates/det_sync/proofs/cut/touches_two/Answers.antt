use Rattle.std.proofs.Common.{◌∙◌, ◌<◌, ℕ, List, Contains, nat_lt, length, slice_index, sym, ap, subst}
use Rattle.std.proofs.lemmas.List.Elements.{Contains-get_or}
use Rattle.hg_defs.specs.Hypergraph.{Hyper, IsHypergraph, vertex_count, net_of}
use Rattle.hg_defs.specs.Partition.{IsPartition}
use Rattle.hg_defs.specs.Pins.{pins_in}
use Rattle.det_sync.proofs.CutLaws.{first_pin, cut_by_count}
use Rattle.det_sync.proofs.cut.touches_two.Goals as goal

pub returns : goal.returns
returns c =
    let h = c.args.h.now in
    let p = c.args.p.now in
    let e = c.args.e in
    let pins = (net_of h e).pins in
    let v = c.in-Some.v.now in
    let parted = c.blocks-blocks.ensures.parted in
    let here = first_pin c.pins-pins.result.now v c.in-Some.ensures.value in
    let good = subst (λ (x : Hyper). IsHypergraph x) c.requires.belongs parted.sound in
    let whole = subst (λ (x : Hyper). IsPartition x p.k p.blocks) c.requires.belongs parted.partition in
    let vertex = subst (λ (x : ℕ). x < vertex_count h) (sym here.1) (c.pins-pins.ensures.below 0 0 here.0) in
    let pin = subst (λ (xs : List ℕ). Contains xs v) c.pins-pins.ensures.value
    (subst (λ (x : ℕ). Contains c.pins-pins.result.now x) (sym here.1) (Contains-get_or c.pins-pins.result.now 0 0 here.0)) in
    ap (λ n. nat_lt n (length c.pins-pins.result.now))
    (c.count.ensures
    ∙ ap (λ (x : Hyper). pins_in p.blocks (net_of x e).pins (slice_index c.blocks-blocks.result.now v)) c.requires.belongs
    ∙ ap (λ (xs : List ℕ). pins_in p.blocks pins (slice_index xs v)) c.blocks-blocks.ensures.value)
    ∙ ap (λ (xs : List ℕ). nat_lt (pins_in p.blocks pins (slice_index p.blocks v)) (length xs)) c.pins-pins.ensures.value
    ∙ cut_by_count h p.k p.blocks v e good whole vertex c.requires.net pin
