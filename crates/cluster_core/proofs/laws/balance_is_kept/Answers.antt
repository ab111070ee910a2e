-- The lemmas on states.
use Rattle.cluster_core.proofs.StateLaws.{opened_state, state_keeps, run_keeps}
use Rattle.cluster_core.proofs.laws.balance_is_kept.Goals as goal

pub returns-clause-opening : goal.returns-clause-opening
returns-clause-opening c = λ g passes some bounds few. opened_state g passes some bounds few

pub returns-clause-event : goal.returns-clause-event
returns-clause-event c = λ g s x k h. state_keeps g s k x h

pub returns-clause-list : goal.returns-clause-list
returns-clause-list c = λ g s xs k h. run_keeps g s xs k h
