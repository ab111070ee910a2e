use Rattle.flow_pair.proofs.PairLaws.{assignments_differ}
use Rattle.flow_pair.proofs.laws.cost_of_assignments.Goals as goal

pub returns : goal.returns
returns c = assignments_differ
