-- The law, from the lemmas on books at rest.
use Rattle.move_core.proofs.RestedLaws.{ordered, only_ordered, round_moves, moved_apart}
use Rattle.move_core.proofs.WorkerSums.{order_joined}
use Rattle.move_core.proofs.laws.moves_are_in_order.Goals as goal

pub returns-clause-order : goal.returns-clause-order
returns-clause-order c = λ g r accounts rest. ordered g r accounts rest

pub returns-clause-only : goal.returns-clause-only
returns-clause-only c = λ g r accounts moves rest o. only_ordered g r accounts rest moves o

pub returns-clause-moves : goal.returns-clause-moves
returns-clause-moves c = λ g r accounts rest. round_moves g r accounts rest

pub returns-clause-once : goal.returns-clause-once
returns-clause-once c = λ g r accounts rest. moved_apart g r accounts rest

pub returns-clause-joined : goal.returns-clause-joined
returns-clause-joined c = λ g r accounts i j rest h. order_joined g r accounts rest i j h
