use Rattle.hg_defs.proofs.MoveLaws.{empty_sweep, settled_sweep, sweep_best, sweep_rises, sweep_saves, sweep_lowers, sweep_allowed}
use Rattle.hg_defs.proofs.laws.sweep_of_partition.Goals as goal

pub returns-clause-settled : goal.returns-clause-settled
returns-clause-settled c = empty_sweep

pub returns-clause-empty : goal.returns-clause-empty
returns-clause-empty c = settled_sweep

pub returns-clause-best : goal.returns-clause-best
returns-clause-best c = sweep_best

pub returns-clause-rising : goal.returns-clause-rising
returns-clause-rising c = sweep_rises

pub returns-clause-saved : goal.returns-clause-saved
returns-clause-saved c = sweep_saves

pub returns-clause-lower : goal.returns-clause-lower
returns-clause-lower c = sweep_lowers

pub returns-clause-allowed : goal.returns-clause-allowed
returns-clause-allowed c = sweep_allowed
