use Rattle.vcycle.proofs.CycleLaws.{cycles_no_dearer, cycles_settled}
use Rattle.vcycle.proofs.laws.end_of_cycles.Goals as goal

pub returns-clause-descent : goal.returns-clause-descent
returns-clause-descent c = cycles_no_dearer

pub returns-clause-settled : goal.returns-clause-settled
returns-clause-settled c = cycles_settled
