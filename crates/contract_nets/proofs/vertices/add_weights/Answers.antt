-- The cluster of a vertex becomes heavier by the vertex.
use Rattle.std.proofs.Common.{◌≡◌, ℕ, ◌+◌, ◌<◌, List, length, map, slice_index, slice_set, All, refl, ap, ap₂, ◌∙◌, arith}
use Rattle.std.specs.List.{range_with_len}
use Rattle.std.proofs.lemmas.List.FromFn.{length-map-range_with_len}
use Rattle.hg_defs.specs.Sums.{total}
use Rattle.hg_defs.specs.Hypergraph.{Hyper, vertex_count}
use Rattle.hg_defs.proofs.SumLaws.{total-take_more, total_more-le}
use Rattle.contract_nets.proofs.VertexLaws.{total-zeros, zeros_are, weight_in-set_more}
use Rattle.contract_nets.proofs.vertices.add_weights.Goals as goal

pub loop-v-init : goal.loop-v-init
loop-v-init c =
    let count = vertex_count c.args.coarse.now in
    record {
      rest = refl;
      weights = c.requires.zero ∙ zeros_are count;
      sum = ap (total (λ (w : ℕ). w)) c.requires.zero ∙ total-zeros count;
    }

below : (f : ℕ → ℕ) (clusters weights : List ℕ) (v n m : ℕ) → weights ≡ map f (range_with_len 0 n) → All (λ i. i < n) clusters → v < m →
    length clusters ≡ m →
    slice_index clusters v < length weights
below f clusters weights v n m same few h e =
    let a = few v 0 (omega arith) in
    let b = ap length same ∙ length-map-range_with_len f 0 n in
    omega arith

pub vertex_weight-requires : goal.vertex_weight-requires
vertex_weight-requires c = below _ c.args.clusters.now c.loop-v.coarse.weights c.loop-v.v _ (vertex_count c.args.h.now) c.loop-v.invariant.weights
    c.requires.below (omega (arith, c.loop-v-test.true, c.vertices-v-end.ensures.count)) c.requires.vertices

pub set_vertex_weight-requires-clause-vertex : goal.set_vertex_weight-requires-clause-vertex
set_vertex_weight-requires-clause-vertex c = below _ c.args.clusters.now c.loop-v.coarse.weights c.loop-v.v _ (vertex_count c.args.h.now)
    c.loop-v.invariant.weights c.requires.below (omega (arith, c.loop-v-test.true, c.vertices-v-end.ensures.count)) c.requires.vertices

pub set_vertex_weight-requires-clause-fits : goal.set_vertex_weight-requires-clause-fits
set_vertex_weight-requires-clause-fits c =
    let h = c.args.h.now in
    let v : c.loop-v.v < vertex_count h = omega (arith, c.loop-v-test.true, c.vertices-v-end.ensures.count) in
    let most = total_more-le (λ (w : ℕ). w) h.weights c.loop-v.v 0 v in
    let bound = c.vertices-v-end.ensures.bounds.weight in
    let a = c.vertex_weight.ensures.value in
    let b = c.vertex_weight-in-loop-v.ensures.value in
    let s = c.loop-v.invariant.sum in
    omega arith

pub loop-v-preserved : goal.loop-v-preserved
loop-v-preserved c =
    let h = c.args.h.now in
    let cs = c.args.clusters.now in
    let i = slice_index cs c.loop-v.v in
    let old = c.loop-v.coarse in
    let e = c.set_vertex_weight.ensures.value in
    let v : c.loop-v.v < vertex_count h = omega (arith, c.loop-v-test.true, c.vertices-v-end.ensures.count) in
    let k : c.loop-v.v < length cs = (let n = c.requires.vertices in omega arith) in
    let weight = ap₂ (λ (x y : ℕ). x + y) c.vertex_weight.ensures.value c.vertex_weight-in-loop-v.ensures.value in
    let a = c.vertex_weight.ensures.value in
    let b = c.vertex_weight-in-loop-v.ensures.value in
    let s = c.loop-v.invariant.sum in
    let t = c.set_vertex_weight.ensures.total in
    let more = total-take_more (λ (w : ℕ). w) h.weights c.loop-v.v 0 v in
    record {
      rest = rw e (ap (λ (x : Hyper). record x { weights = slice_set old.weights i (c.vertex_weight.result + c.vertex_weight-in-loop-v.result) })
          c.loop-v.invariant.rest);
      weights = ap (λ (x : Hyper). x.weights) e ∙ ap (slice_set old.weights i) weight
          ∙ weight_in-set_more h.weights cs old.weights c.loop-v.v (vertex_count c.args.coarse.now) c.loop-v.invariant.weights v k
          (c.requires.below c.loop-v.v 0 k);
      sum = omega arith;
    }
