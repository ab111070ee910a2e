use Rattle.std.proofs.Common.{◌∙◌, arith}
use Rattle.hg_defs.specs.Hypergraph.{vertex_count}
use Rattle.hg_base.proofs.CountLaws.{cost-lt}
use Rattle.exact_cost.specs.Carrying.{carried_down}
use Rattle.exact_cost.proofs.costs.cost_below.Goals as goal

pub add_all-requires : goal.add_all-requires
add_all-requires g c =
    let h = c.args.h.now in
    let most = cost-lt h (carried_down (vertex_count h) c.args.maps.now c.args.blocks.now) c.nets.ensures.bounds in
    omega (arith, most, c.sum_runs.ensures)

pub returns-clause-value : goal.returns-clause-value
returns-clause-value g c = c.add_all.ensures ∙ c.sum_runs.ensures

pub returns-clause-bound : goal.returns-clause-bound
returns-clause-bound g c =
    let h = c.args.h.now in
    let most = cost-lt h (carried_down (vertex_count h) c.args.maps.now c.args.blocks.now) c.nets.ensures.bounds in
    omega (arith, most, c.sum_runs.ensures, c.add_all.ensures)
