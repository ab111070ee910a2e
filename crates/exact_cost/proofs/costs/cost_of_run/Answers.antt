-- One net more.
use Rattle.std.proofs.Common.{◌≡◌, ℕ, ◌+◌, ◌*◌, ◌<◌, List, ap₂, ◌∙◌, subst, arith}
use Rattle.hg_defs.specs.Hypergraph.{vertex_count, net_of, net_count}
use Rattle.hg_defs.specs.Cost.{net_cost, price}
use Rattle.exact_cost.specs.Carrying.{carried_down}
use Rattle.exact_cost.specs.Paying.{IsPaid}
use Rattle.exact_cost.proofs.PayingLemmas.{one_more-lt, one_more}
use Rattle.exact_cost.proofs.costs.cost_of_run.Goals as goal

abbrev below : (c : goal.After-price) → List ℕ
below c = carried_down (vertex_count c.args.h.now) c.args.maps.now c.args.blocks.now

net : (c : goal.After-price) → c.net_weight.result * c.price.result ≡ net_cost c.args.h.now.objective (below c) (net_of c.args.h.now c.nets.e)
net c = ap₂ (λ (m n : ℕ). m * n) c.net_weight.ensures.value (c.price.ensures.value ∙ ap₂ price c.objective-objective.ensures c.touched.ensures.value)

inside : (c : goal.After-price) → c.nets.e < net_count c.args.h.now
inside c = let run = c.requires.run in omega arith

room : (c : goal.After-price) → c.nets.sum + net_cost c.args.h.now.objective (below c) (net_of c.args.h.now c.nets.e) < 144115188075855872
room c = one_more-lt c.args.h.now (below c) c.args.from c.nets.e c.nets.sum c.requires.bounds (inside c) c.nets.invariant

pub overflow_mul-sum : goal.overflow_mul-sum
overflow_mul-sum c = let e = net c in let most = room c in omega arith

pub overflow_add-sum : goal.overflow_add-sum
overflow_add-sum c = let e = net c in let most = room c in omega arith

pub nets-preserved : goal.nets-preserved
nets-preserved c = one_more c.args.h.now (below c) c.args.from c.nets.e c.nets.sum (c.net_weight.result * c.price.result) (inside c) (net c) c.nets.invariant

pub returns : goal.returns
returns c =
    let run = c.requires.run in
    subst (λ n. IsPaid c.args.h.now (carried_down (vertex_count c.args.h.now) c.args.maps.now c.args.blocks.now) c.args.from n c.nets.sum)
    (let done : c.nets.e ≡ c.args.to = omega arith in done) c.nets.invariant
