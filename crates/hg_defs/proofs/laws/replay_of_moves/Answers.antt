use Rattle.hg_defs.proofs.UndoLaws.{gains_add_up, moves_leave_partition, free_moves_leave_fixes, moves_are_undone, moves_are_redone}
use Rattle.hg_defs.proofs.laws.replay_of_moves.Goals as goal

pub returns-clause-gains : goal.returns-clause-gains
returns-clause-gains c = gains_add_up

pub returns-clause-partition : goal.returns-clause-partition
returns-clause-partition c = moves_leave_partition

pub returns-clause-fixes : goal.returns-clause-fixes
returns-clause-fixes c = free_moves_leave_fixes

pub returns-clause-undone : goal.returns-clause-undone
returns-clause-undone c = moves_are_undone

pub returns-clause-redone : goal.returns-clause-redone
returns-clause-redone c = moves_are_redone
