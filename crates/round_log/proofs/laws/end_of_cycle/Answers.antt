use Rattle.round_log.proofs.CycleLaws.{cycle-begins, cycle-no_dearer, cycle-settled, cycles-no_dearer, cycles-settled}
use Rattle.round_log.proofs.laws.end_of_cycle.Goals as goal

pub returns-clause-begins : goal.returns-clause-begins
returns-clause-begins c = cycle-begins

pub returns-clause-no_dearer : goal.returns-clause-no_dearer
returns-clause-no_dearer c = cycle-no_dearer

pub returns-clause-settled : goal.returns-clause-settled
returns-clause-settled c = cycle-settled

pub returns-clause-several : goal.returns-clause-several
returns-clause-several c = cycles-no_dearer

pub returns-clause-last : goal.returns-clause-last
returns-clause-last c = cycles-settled
