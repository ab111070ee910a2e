use Rattle.round_log.proofs.AssignmentLaws.{assignment-partition, assignment-obeys, assignment-fits}
use Rattle.round_log.proofs.laws.assignment_of_region.Goals as goal

pub returns-clause-partition : goal.returns-clause-partition
returns-clause-partition c = assignment-partition

pub returns-clause-fixes : goal.returns-clause-fixes
returns-clause-fixes c = assignment-obeys

pub returns-clause-within : goal.returns-clause-within
returns-clause-within c = assignment-fits
