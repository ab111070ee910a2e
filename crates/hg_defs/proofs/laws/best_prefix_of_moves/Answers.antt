use Rattle.hg_defs.proofs.ReplayLaws.{fitting_is_tested, best_prefix_is, only_best_prefix}
use Rattle.hg_defs.proofs.laws.best_prefix_of_moves.Goals as goal

pub returns-clause-tested : goal.returns-clause-tested
returns-clause-tested c = fitting_is_tested

pub returns-clause-best : goal.returns-clause-best
returns-clause-best c = best_prefix_is

pub returns-clause-only : goal.returns-clause-only
returns-clause-only c = only_best_prefix
