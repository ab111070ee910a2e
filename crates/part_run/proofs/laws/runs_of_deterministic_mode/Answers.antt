use Rattle.part_run.proofs.ModeLaws.{det_runs_write, workers_change_nothing}
use Rattle.part_run.proofs.laws.runs_of_deterministic_mode.Goals as goal

pub returns-clause-function : goal.returns-clause-function
returns-clause-function c = det_runs_write

pub returns-clause-workers : goal.returns-clause-workers
returns-clause-workers c = workers_change_nothing
