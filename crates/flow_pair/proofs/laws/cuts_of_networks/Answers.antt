use Rattle.flow_pair.proofs.AssignmentLaws.{assignments_are_cuts, cuts_are_assignments}
use Rattle.flow_pair.proofs.laws.cuts_of_networks.Goals as goal

pub returns-clause-cuts : goal.returns-clause-cuts
returns-clause-cuts c = assignments_are_cuts

pub returns-clause-assignments : goal.returns-clause-assignments
returns-clause-assignments c = cuts_are_assignments
