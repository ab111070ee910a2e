use Rattle.round_log.proofs.RoundLaws.{sweeps-settled, sweeps-replayed, sweeps-one}
use Rattle.round_log.proofs.laws.end_of_sweeps.Goals as goal

pub returns-clause-settled : goal.returns-clause-settled
returns-clause-settled c = sweeps-settled

pub returns-clause-replayed : goal.returns-clause-replayed
returns-clause-replayed c = sweeps-replayed

pub returns-clause-one : goal.returns-clause-one
returns-clause-one c = sweeps-one
