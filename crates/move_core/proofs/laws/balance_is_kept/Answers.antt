-- The law, from the lemma on events.
use Rattle.move_core.proofs.StateLaw.{event_keeps}
use Rattle.move_core.proofs.RunLaws.{run_keeps}
use Rattle.move_core.proofs.OpenLaws.{opened_books}
use Rattle.move_core.proofs.laws.balance_is_kept.Goals as goal

pub returns-clause-opening : goal.returns-clause-opening
returns-clause-opening c = λ s passes ok few. opened_books s ok passes few

pub returns-clause-event : goal.returns-clause-event
returns-clause-event c = λ s x k h. event_keeps s k x h

pub returns-clause-list : goal.returns-clause-list
returns-clause-list c = λ s xs k h. run_keeps s xs k h
