use Rattle.hg_defs.proofs.SynchronousLaws.{wishes_are_best, wishes_by_saving, sync_moves-wishes, sync_moves-distinct, sync_moves-allowed}
use Rattle.hg_defs.proofs.SynchronousLaws.{sync_moves-booked, sync_moves-from, sync_moves-saved, settled-nothing, unsettled-moves}
use Rattle.hg_defs.proofs.laws.moves_of_synchronous_round.Goals as goal

pub returns-clause-wishes : goal.returns-clause-wishes
returns-clause-wishes c = wishes_are_best

pub returns-clause-order : goal.returns-clause-order
returns-clause-order c = wishes_by_saving

pub returns-clause-granted : goal.returns-clause-granted
returns-clause-granted c = sync_moves-wishes

pub returns-clause-once : goal.returns-clause-once
returns-clause-once c = sync_moves-distinct

pub returns-clause-allowed : goal.returns-clause-allowed
returns-clause-allowed c = sync_moves-allowed

pub returns-clause-booked : goal.returns-clause-booked
returns-clause-booked c = sync_moves-booked

pub returns-clause-from : goal.returns-clause-from
returns-clause-from c = sync_moves-from

pub returns-clause-saved : goal.returns-clause-saved
returns-clause-saved c = sync_moves-saved

pub returns-clause-none : goal.returns-clause-none
returns-clause-none c = settled-nothing

pub returns-clause-some : goal.returns-clause-some
returns-clause-some c = unsettled-moves
