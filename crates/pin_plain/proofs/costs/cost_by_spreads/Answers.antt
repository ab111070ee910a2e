use Rattle.pin_plain.proofs.CostLaws.{whole_run}
use Rattle.pin_plain.proofs.costs.cost_by_spreads.Goals as goal

pub returns-clause-value : goal.returns-clause-value
returns-clause-value c =
    let nets = c.args.nets.now in
    whole_run nets.h.now nets.blocks.now c.nets.result c.cost_of_run.result c.nets.ensures.count c.cost_of_run.ensures
