use Rattle.hg_defs.proofs.MoveLaws.{best_block_is, only_best_block, no_best_block}
use Rattle.hg_defs.proofs.laws.best_block_of_vertex.Goals as goal

pub returns-clause-best : goal.returns-clause-best
returns-clause-best c = best_block_is

pub returns-clause-only : goal.returns-clause-only
returns-clause-only c = only_best_block

pub returns-clause-none : goal.returns-clause-none
returns-clause-none c = no_best_block
