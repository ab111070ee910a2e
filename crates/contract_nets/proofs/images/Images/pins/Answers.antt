-- The image stands in the part of the net.
use Rattle.std.proofs.Common.{◌<◌, ◌%◌, All, map, slice_index, slice_range, sym, subst, ap, ◌∙◌, arith}
use Rattle.std.specs.List.Sorted.{IsStrictlyIncreasing}
use Rattle.hg_defs.specs.Hypergraph.{net_count, net_of, vertex_count}
use Rattle.hg_defs.specs.Contraction.{image}
use Rattle.hg_defs.proofs.SortLaws.{increasing-set_of}
use Rattle.contract_nets.specs.Images.{over, HasListAt}
use Rattle.contract_nets.proofs.ImageLaws.{list_of, count_over, pins_over, image_over, read_order, read_within, read_list}
use Rattle.contract_nets.proofs.images.Images.pins.Goals as goal

pub index-requires : goal.index-requires
index-requires c =
    let s = c.self.inside in
    let below = subst (λ x. c.args.e < net_count x) (sym c.self.view_is) c.requires in
    let count = count_over s.h.now s.clusters.value.now in
    let one =
    subst (λ p. HasListAt p (c.args.e % s.size) (image s.clusters.value.now (net_of s.h.now c.args.e))) (sym c.part.view_is)
    (list_of s.h.now s.clusters.value.now s.size s.parts.items c.self.invariant c.args.e c.index-part.result.now (omega arith) c.index-part.ensures)
    in
    let place = one.place in
    omega arith

pub index-requires-2 : goal.index-requires-2
index-requires-2 c =
    let s = c.self.inside in
    let below = subst (λ x. c.args.e < net_count x) (sym c.self.view_is) c.requires in
    let count = count_over s.h.now s.clusters.value.now in
    let one =
    subst (λ p. HasListAt p (c.args.e % s.size) (image s.clusters.value.now (net_of s.h.now c.args.e))) (sym c.part.view_is)
    (list_of s.h.now s.clusters.value.now s.size s.parts.items c.self.invariant c.args.e c.index-part.result.now (omega arith) c.index-part.ensures)
    in
    let place = one.place in
    omega arith

pub slice_bounds-result-count : goal.slice_bounds-result-count
slice_bounds-result-count c =
    let s = c.self.inside in
    let below = subst (λ x. c.args.e < net_count x) (sym c.self.view_is) c.requires in
    let count = count_over s.h.now s.clusters.value.now in
    let low : c.args.e < net_count s.h.now = omega arith in
    let one =
    subst (λ p. HasListAt p (c.args.e % s.size) (image s.clusters.value.now (net_of s.h.now c.args.e))) (sym c.part.view_is)
    (list_of s.h.now s.clusters.value.now s.size s.parts.items c.self.invariant c.args.e c.index-part.result.now low c.index-part.ensures)
    in
    read_order (record { starts = c.part.inside.starts.items; pins = c.part.inside.pins.items }) (c.args.e % s.size)
    (image s.clusters.value.now (net_of s.h.now c.args.e)) c.deref.result.now c.index.result.now c.index-2.result.now one c.index.ensures c.index-2.ensures
    c.deref.ensures.value

pub slice_bounds-result-start : goal.slice_bounds-result-start
slice_bounds-result-start c =
    let s = c.self.inside in
    let below = subst (λ x. c.args.e < net_count x) (sym c.self.view_is) c.requires in
    let count = count_over s.h.now s.clusters.value.now in
    let low : c.args.e < net_count s.h.now = omega arith in
    let one =
    subst (λ p. HasListAt p (c.args.e % s.size) (image s.clusters.value.now (net_of s.h.now c.args.e))) (sym c.part.view_is)
    (list_of s.h.now s.clusters.value.now s.size s.parts.items c.self.invariant c.args.e c.index-part.result.now low c.index-part.ensures)
    in
    let order = read_order (record { starts = c.part.inside.starts.items; pins = c.part.inside.pins.items }) (c.args.e % s.size)
    (image s.clusters.value.now (net_of s.h.now c.args.e)) c.deref.result.now c.index.result.now c.index-2.result.now one c.index.ensures c.index-2.ensures
    c.deref.ensures.value
    in
    let within = read_within (record { starts = c.part.inside.starts.items; pins = c.part.inside.pins.items }) (c.args.e % s.size)
    (image s.clusters.value.now (net_of s.h.now c.args.e)) c.deref.result.now c.index.result.now c.index-2.result.now one c.index.ensures c.index-2.ensures
    c.deref.ensures.value
    in
    omega arith

pub slice_bounds-result-end : goal.slice_bounds-result-end
slice_bounds-result-end c =
    let s = c.self.inside in
    let below = subst (λ x. c.args.e < net_count x) (sym c.self.view_is) c.requires in
    let count = count_over s.h.now s.clusters.value.now in
    let low : c.args.e < net_count s.h.now = omega arith in
    let one =
    subst (λ p. HasListAt p (c.args.e % s.size) (image s.clusters.value.now (net_of s.h.now c.args.e))) (sym c.part.view_is)
    (list_of s.h.now s.clusters.value.now s.size s.parts.items c.self.invariant c.args.e c.index-part.result.now low c.index-part.ensures)
    in
    let order = read_order (record { starts = c.part.inside.starts.items; pins = c.part.inside.pins.items }) (c.args.e % s.size)
    (image s.clusters.value.now (net_of s.h.now c.args.e)) c.deref.result.now c.index.result.now c.index-2.result.now one c.index.ensures c.index-2.ensures
    c.deref.ensures.value
    in
    let within = read_within (record { starts = c.part.inside.starts.items; pins = c.part.inside.pins.items }) (c.args.e % s.size)
    (image s.clusters.value.now (net_of s.h.now c.args.e)) c.deref.result.now c.index.result.now c.index-2.result.now one c.index.ensures c.index-2.ensures
    c.deref.ensures.value
    in
    omega arith

pub returns-clause-value : goal.returns-clause-value
returns-clause-value c =
    let s = c.self.inside in
    let below = subst (λ x. c.args.e < net_count x) (sym c.self.view_is) c.requires in
    let count = count_over s.h.now s.clusters.value.now in
    let low : c.args.e < net_count s.h.now = omega arith in
    let one =
    subst (λ p. HasListAt p (c.args.e % s.size) (image s.clusters.value.now (net_of s.h.now c.args.e))) (sym c.part.view_is)
    (list_of s.h.now s.clusters.value.now s.size s.parts.items c.self.invariant c.args.e c.index-part.result.now low c.index-part.ensures)
    in
    read_list (record { starts = c.part.inside.starts.items; pins = c.part.inside.pins.items }) (c.args.e % s.size)
    (image s.clusters.value.now (net_of s.h.now c.args.e)) c.deref.result.now c.index.result.now c.index-2.result.now one c.index.ensures c.index-2.ensures
    c.deref.ensures.value
    ∙ sym (pins_over s.h.now s.clusters.value.now c.args.e low)
    ∙ ap (λ x. (net_of x c.args.e).pins) c.self.view_is

pub returns-clause-rising : goal.returns-clause-rising
returns-clause-rising c =
    let s = c.self.inside in
    let below = subst (λ x. c.args.e < net_count x) (sym c.self.view_is) c.requires in
    let count = count_over s.h.now s.clusters.value.now in
    let low : c.args.e < net_count s.h.now = omega arith in
    let one =
    subst (λ p. HasListAt p (c.args.e % s.size) (image s.clusters.value.now (net_of s.h.now c.args.e))) (sym c.part.view_is)
    (list_of s.h.now s.clusters.value.now s.size s.parts.items c.self.invariant c.args.e c.index-part.result.now low c.index-part.ensures)
    in
    subst IsStrictlyIncreasing (sym (read_list
    (record { starts = c.part.inside.starts.items; pins = c.part.inside.pins.items }) (c.args.e % s.size)
    (image s.clusters.value.now (net_of s.h.now c.args.e)) c.deref.result.now c.index.result.now c.index-2.result.now one c.index.ensures c.index-2.ensures
    c.deref.ensures.value))
    (increasing-set_of (map (slice_index s.clusters.value.now) (net_of s.h.now c.args.e).pins))

pub returns-clause-below : goal.returns-clause-below
returns-clause-below c =
    let s = c.self.inside in
    let below = subst (λ x. c.args.e < net_count x) (sym c.self.view_is) c.requires in
    let count = count_over s.h.now s.clusters.value.now in
    let low : c.args.e < net_count s.h.now = omega arith in
    let one =
    subst (λ p. HasListAt p (c.args.e % s.size) (image s.clusters.value.now (net_of s.h.now c.args.e))) (sym c.part.view_is)
    (list_of s.h.now s.clusters.value.now s.size s.parts.items c.self.invariant c.args.e c.index-part.result.now low c.index-part.ensures)
    in
    subst (λ x. All (λ i. i < vertex_count x) (slice_range c.deref.result.now c.index.result.now c.index-2.result.now)) c.self.view_is
    (subst (All (λ i. i < vertex_count (over s.h.now s.clusters.value.now))) (sym (read_list
    (record { starts = c.part.inside.starts.items; pins = c.part.inside.pins.items }) (c.args.e % s.size)
    (image s.clusters.value.now (net_of s.h.now c.args.e)) c.deref.result.now c.index.result.now c.index-2.result.now one c.index.ensures c.index-2.ensures
    c.deref.ensures.value))
    (image_over s.h.now s.clusters.value.now c.vertices-vertices.ensures.sound c.self.invariant.vertices c.args.e low))
