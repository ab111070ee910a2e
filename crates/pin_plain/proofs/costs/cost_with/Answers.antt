use Rattle.pin_plain.proofs.CostLaws.{whole_run}
use Rattle.pin_plain.proofs.costs.cost_with.Goals as goal

pub returns-clause-value : goal.returns-clause-value
returns-clause-value g c =
    let nets = c.args.nets.now in
    whole_run nets.h.now nets.blocks.now c.nets-count.result c.cost_of_shares.result c.nets-count.ensures.count c.cost_of_shares.ensures
