use Rattle.std.proofs.Common.{◌≡◌, ◌+◌, ◌<◌, ℕ, length, take, slice_index, slice_set, sym, subst, arith}
use Rattle.hg_defs.specs.Partition.{weight_in}
use Rattle.hg_defs.proofs.SumLaws.{weight_in-le, total-take-le}
use Rattle.pin_plain.proofs.LoadLaws.{weight_added}
use Rattle.pin_plain.proofs.partition.add_weights.Goals as goal

pub overflow_add-loads : goal.overflow_add-loads
overflow_add-loads c =
    let b = slice_index c.args.blocks.now c.loop-v.v in
    let low = c.requires.blocks c.loop-v.v 0 (let long = c.requires.vertices in omega arith) in
    let now = c.loop-v.invariant b (omega arith) in
    let part = weight_in-le (take c.loop-v.v c.args.h.now.weights) (take c.loop-v.v c.args.blocks.now) b in
    let whole = total-take-le (λ w. w) c.args.h.now.weights c.loop-v.v in
    let bound = c.vertices-v-end.ensures.bounds.weight in
    let one = c.vertex_weight.ensures.bound in
    omega arith

pub loop-v-preserved : goal.loop-v-preserved
loop-v-preserved c =
    let h = c.args.h.now in
    let long = c.requires.vertices in
    subst
    (λ (w : ℕ). (b : ℕ) → b < length (slice_set c.loop-v.loads (slice_index c.args.blocks.now c.loop-v.v)
    (slice_index c.loop-v.loads (slice_index c.args.blocks.now c.loop-v.v) + w))
    → slice_index (slice_set c.loop-v.loads (slice_index c.args.blocks.now c.loop-v.v)
    (slice_index c.loop-v.loads (slice_index c.args.blocks.now c.loop-v.v) +
    w)) b
    ≡ weight_in (take (c.loop-v.v + 1) h.weights) (take (c.loop-v.v + 1) c.args.blocks.now) b)
    (sym c.vertex_weight.ensures.value)
    (weight_added h.weights c.args.blocks.now c.loop-v.loads c.loop-v.v (omega arith) (omega arith) (let low = c.requires.blocks c.loop-v.v 0
    (omega arith) in omega arith) c.loop-v.invariant)
