use Rattle.std.proofs.Common.{◌≡◌, ◌∙◌, ℕ, List, length, nat_lt, slice_index, sym, ap, ap₂}
use Rattle.hg_defs.specs.Hypergraph.{Hyper, net_of}
use Rattle.hg_defs.specs.Partition.{block_of}
use Rattle.hg_defs.specs.Pins.{pins_in}
use Rattle.flow_pair.proofs.CutNetLaws.{outside_count}
use Rattle.flow_pair.proofs.cut.is_cut.Goals as goal

pub returns : goal.returns
returns c =
    let p = c.args.p.now in
    let e = c.args.e in
    let pins = (net_of c.args.h.now e).pins in
    let first : c.in-Some.v.now ≡ slice_index pins 0 = c.in-Some.ensures.item.3.1 0 ∙ ap (λ (vs : List ℕ). slice_index vs 0) c.pins-pins.ensures.value in
    ap₂ nat_lt (c.count.ensures ∙ ap₂ (λ (x : Hyper) (b : ℕ). pins_in p.blocks (net_of x e).pins b) c.requires.belongs
    (ap₂ slice_index c.blocks-blocks.ensures.value first)) (ap length c.pins-pins.ensures.value)
    ∙ sym (outside_count p.blocks pins (block_of p.blocks (slice_index pins 0)))
