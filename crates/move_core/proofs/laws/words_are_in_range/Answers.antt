-- The law, from the lemmas on words.
use Rattle.move_core.proofs.EventLaw.{event_least}
use Rattle.move_core.proofs.ReadBack.{event_most}
use Rattle.move_core.proofs.laws.words_are_in_range.Goals as goal

pub returns-clause-most : goal.returns-clause-most
returns-clause-most c = λ g r accounts x ok b h. event_most g r accounts b ok x h

pub returns-clause-least : goal.returns-clause-least
returns-clause-least c = λ g r accounts x ok b h. event_least g ok r accounts b x h
