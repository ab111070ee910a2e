-- One net more.
use Rattle.std.proofs.Common.{◌≡◌, ℕ, ◌+◌, ◌*◌, ◌<◌, sym, ap, ap₂, ◌∙◌, arith}
use Rattle.hg_defs.specs.Hypergraph.{net_of, net_count}
use Rattle.hg_defs.specs.Cost.{net_cost, price, connectivity}
use Rattle.hg_defs.proofs.SumLaws.{total-take-le}
use Rattle.hg_base.proofs.CountLaws.{cost_so_far-lt, cost_more, cost-lt}
use Rattle.hg_base.proofs.cost.cost_of.Goals as goal

net : (c : goal.After-price) → c.net_weight.result * c.price.result ≡ net_cost c.args.h.now.objective c.args.blocks.now (net_of c.args.h.now c.loop-e.e)
net c =
    ap₂ (λ (m n : ℕ). m * n) c.net_weight.ensures.value
    (c.price.ensures.value ∙ ap₂ price c.objective-objective.ensures (c.touched.ensures.value ∙ ap (connectivity c.args.blocks.now) c.pins.ensures.value))

inside : (c : goal.After-price) → c.loop-e.e < net_count c.args.h.now
inside c = omega (arith, c.loop-e-test.true, c.nets-e-end.ensures.count)

pub overflow_mul-sum : goal.overflow_mul-sum
overflow_mul-sum c =
    let e = net c in
    let most = cost_so_far-lt c.args.h.now c.args.blocks.now c.loop-e.e c.nets-e-end.ensures.bounds (inside c) in
    omega arith

pub overflow_add-sum : goal.overflow_add-sum
overflow_add-sum c =
    let e = net c in
    let most = cost_so_far-lt c.args.h.now c.args.blocks.now c.loop-e.e c.nets-e-end.ensures.bounds (inside c) in
    let sum = c.loop-e.invariant in
    omega arith

pub loop-e-preserved : goal.loop-e-preserved
loop-e-preserved c =
    ap₂ (λ (m n : ℕ). m + n) c.loop-e.invariant (net c) ∙ sym (cost_more c.args.h.now c.args.blocks.now c.loop-e.e (inside c))

pub returns-clause-bound : goal.returns-clause-bound
returns-clause-bound c =
    let h = c.args.h.now in
    let most = cost-lt h c.args.blocks.now c.nets-e-end.ensures.bounds in
    let part = total-take-le (net_cost h.objective c.args.blocks.now) h.nets c.loop-e.e in
    omega (arith, c.loop-e.invariant)
