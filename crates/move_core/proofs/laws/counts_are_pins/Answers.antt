-- The law, from the lemmas on counts and events.
use Rattle.move_core.specs.declared.events.Event.TheVariants.{Lower}
use Rattle.move_core.proofs.CountLaws.{count_within}
use Rattle.move_core.proofs.EventLaw.{event_least}
use Rattle.move_core.proofs.laws.counts_are_pins.Goals as goal

pub returns-clause-most : goal.returns-clause-most
returns-clause-most c = λ g r accounts e k ok b l m. count_within g r accounts ok.graph b.claims b.moves b.counts e k l m

pub returns-clause-least : goal.returns-clause-least
returns-clause-least c = λ g r accounts i ok b h. event_least g ok r accounts b (Lower i) h
