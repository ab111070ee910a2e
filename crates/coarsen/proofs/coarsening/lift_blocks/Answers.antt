-- One vertex more, before the others.
use Rattle.std.proofs.Common.{◌≡◌, ℕ, ◌+◌, ◌-◌, ◌<◌, ◌≤◌, List, length, map, drop, slice_index, ap, ◌∙◌, subst, arith}
use Rattle.std.specs.List.{range_with_len}
use Rattle.std.proofs.lemmas.List.FromFn.{length-map-range_with_len}
use Rattle.hg_defs.specs.Levels.{cluster_block}
use Rattle.coarsen.proofs.InsideSteps.{blocks_none, blocks_more}
use Rattle.coarsen.proofs.coarsening.lift_blocks.Goals as goal

pub loop-v-init : goal.loop-v-init
loop-v-init c = c.in_ok-above.ensures.items_if_clones_equal (λ y e. e) ∙ blocks_none c.args.blocks.now c.args.clusters.now (length c.args.blocks.now)
    c.args.count (omega arith)

pub index_mut-requires : goal.index_mut-requires
index_mut-requires c =
    let long = ap length c.loop-v.invariant ∙ length-map-range_with_len (cluster_block (drop c.loop-v.v c.args.blocks.now)
    (drop c.loop-v.v c.args.clusters.now)) 0 c.args.count in
    let low : c.loop-v.v - 1 < length c.args.clusters.now = omega (arith, c.loop-v-test.true, c.loop-v.auto.v, c.requires.vertices) in
    let below = c.requires.below (c.loop-v.v - 1) 0 low in
    omega (arith, c.loop-v.above.ok.0)

pub loop-v-preserved : goal.loop-v-preserved
loop-v-preserved c =
    let blocks = c.args.blocks.now in
    let clusters = c.args.clusters.now in
    let v = c.loop-v.v - 1 in
    let up : c.loop-v.v ≡ v + 1 = omega (arith, c.loop-v-test.true) in
    let low : v < length blocks = omega (arith, c.loop-v-test.true, c.loop-v.auto.v) in
    let there : v < length clusters = omega (arith, c.requires.vertices) in
    blocks_more blocks clusters c.loop-v.above.items v c.args.count
    (subst (λ (u : ℕ). c.loop-v.above.items ≡ map (cluster_block (drop u blocks) (drop u clusters)) (range_with_len 0 c.args.count)) up c.loop-v.invariant)
    low there (c.requires.below v 0 there)
