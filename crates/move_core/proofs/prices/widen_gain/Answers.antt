-- The product of the weight and the step of the price is the difference of two prices.
use Rattle.std.proofs.Common.{◌≡◌, ◌+◌, ◌-◌, subst, arith}
use Rattle.std.proofs.lemmas.Int.{ints}
use Rattle.hg_defs.specs.declared.objective.Objective.{Objective}
use Rattle.hg_defs.specs.Cost.{price}
use Rattle.hg_defs.specs.Hypergraph.{net_of}
use Rattle.move_core.proofs.PriceLaws.{widen_value}
use Rattle.move_core.proofs.prices.widen_gain.Goals as goal

pub returns : goal.returns
returns c =
    let above = c.if-found-lt64.false in
    let s = subst (λ (o : Objective). price o (c.args.found - 64) + c.price_step.result ≡ price o (c.args.found - 64 + 1))
    c.objective.ensures c.price_step.ensures.step in
    let v = widen_value c.args.h.now.objective (net_of c.args.h.now c.args.e).weight c.args.found c.net_weight.result c.price_step.result (omega arith)
    c.net_weight.ensures.value c.net_weight.ensures.bound s c.price_step.ensures.small in
    let v0 = v.0 in
    let v1 = v.1 in
    omega (arith, ints)
