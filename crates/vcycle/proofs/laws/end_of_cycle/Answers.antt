use Rattle.vcycle.proofs.CycleLaws.{cycle_begins, cycle_no_dearer, cycle_settled}
use Rattle.vcycle.proofs.laws.end_of_cycle.Goals as goal

pub returns-clause-begins : goal.returns-clause-begins
returns-clause-begins c = cycle_begins

pub returns-clause-descent : goal.returns-clause-descent
returns-clause-descent c = cycle_no_dearer

pub returns-clause-settled : goal.returns-clause-settled
returns-clause-settled c = cycle_settled
