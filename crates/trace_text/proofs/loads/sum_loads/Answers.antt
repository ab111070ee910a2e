use Rattle.std.proofs.Common.{◌≡◌, ℕ, ◌+◌, ◌<◌, slice_index, set, length-set, refl, ap, ◌∙◌, subst, arith}
use Rattle.std.proofs.lemmas.List.{get_or-replicate}
use Rattle.hg_defs.specs.Hypergraph.{vertex_count}
use Rattle.trace_text.proofs.LoadLemmas.{AreLoads, AreLoads-all, load-room, loads-more}
use Rattle.trace_text.proofs.loads.sum_loads.Goals as goal

pub vertices-init : goal.vertices-init
vertices-init c = (refl, λ b small. get_or-replicate 256 b 0 0 small)

pub overflow_add-loads : goal.overflow_add-loads
overflow_add-loads c =
    let v = c.vertices.v in
    let block : slice_index c.args.blocks.now v < 256 = c.requires.below v 0 (omega arith) in
    let room = load-room c.vertices.loads c.args.h.now.weights c.args.blocks.now v (omega arith) (omega arith) block c.vertices.invariant.1 in
    omega (arith, room, c.vertex_weight.ensures.value, c.vertices-v-end.ensures.bounds.weight)

pub vertices-preserved : goal.vertices-preserved
vertices-preserved c =
    let v = c.vertices.v in
    let loads = c.vertices.loads in
    let p = c.args.blocks.now in
    let block : slice_index p v < 256 = c.requires.below v 0 (omega arith) in
    let long = c.vertices.invariant.0 in
    let more = loads-more loads c.args.h.now.weights p v long (omega arith) (omega arith) block c.vertices.invariant.1 in (
      length-set loads (slice_index p v) _ ∙ long,
      λ b small. ap (λ (w : ℕ). slice_index (set loads (slice_index p v) (slice_index loads (slice_index p v) + w))
          b) c.vertex_weight.ensures.value ∙ more b small,
    )

pub returns-clause-loads : goal.returns-clause-loads
returns-clause-loads c =
    let h = c.args.h.now in
    let p = c.args.blocks.now in
    let last : c.vertices.v ≡ vertex_count h = omega arith in
    AreLoads-all h p c.vertices.loads c.vertices.invariant.0 (omega arith) (subst (AreLoads c.vertices.loads h.weights p) last c.vertices.invariant.1)
