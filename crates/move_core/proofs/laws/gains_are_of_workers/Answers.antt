-- The law, from the lemmas on sums over workers.
use Rattle.move_core.proofs.WorkerSums.{gains_own, gains_of_workers}
use Rattle.move_core.proofs.laws.gains_are_of_workers.Goals as goal

pub returns-clause-own : goal.returns-clause-own
returns-clause-own c = λ g r accounts rest. gains_own g r accounts rest

pub returns-clause-workers : goal.returns-clause-workers
returns-clause-workers c = λ g r accounts i rest live l. gains_of_workers g r accounts rest live i l
