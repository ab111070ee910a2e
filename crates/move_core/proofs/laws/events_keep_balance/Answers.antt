-- The law, from the lemma on events.
use Rattle.move_core.proofs.EventLaw.{event_word, event_balance}
use Rattle.move_core.proofs.laws.events_keep_balance.Goals as goal

pub returns-clause-word : goal.returns-clause-word
returns-clause-word c = λ g r accounts x ok b h. event_word g ok r accounts b x h

pub returns-clause-balance : goal.returns-clause-balance
returns-clause-balance c = λ g r r' accounts x ok b h w. event_balance g ok r accounts b r' x h w
