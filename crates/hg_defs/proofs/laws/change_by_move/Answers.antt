use Rattle.hg_defs.proofs.MoveLaws.{load-moved_new, load-moved_old, load-moved_other, connectivity_counts, gain_is_local}
use Rattle.hg_defs.proofs.laws.change_by_move.Goals as goal

pub returns-clause-raised : goal.returns-clause-raised
returns-clause-raised c = load-moved_new

pub returns-clause-lowered : goal.returns-clause-lowered
returns-clause-lowered c = load-moved_old

pub returns-clause-others : goal.returns-clause-others
returns-clause-others c = load-moved_other

pub returns-clause-connectivity : goal.returns-clause-connectivity
returns-clause-connectivity c = connectivity_counts

pub returns-clause-gain : goal.returns-clause-gain
returns-clause-gain c = gain_is_local
