-- The law: clauses of the balance, and at rest what they tell of the moves in order.
use Rattle.move_core.proofs.LoadLaws.{granted_within}
use Rattle.move_core.proofs.RestedLaws.{prefix_fits}
use Rattle.move_core.proofs.laws.grants_are_within_limit.Goals as goal

pub returns-clause-words : goal.returns-clause-words
returns-clause-words c = λ g r accounts k b l. b.loads.limit k l

pub returns-clause-grants : goal.returns-clause-grants
returns-clause-grants c = λ g r accounts k b l. granted_within g r accounts b.loads k l

pub returns-clause-numbers : goal.returns-clause-numbers
returns-clause-numbers c = λ g r accounts i k b l. b.prefixes.fit i k l

pub returns-clause-prefixes : goal.returns-clause-prefixes
returns-clause-prefixes c = λ g r accounts i rest. prefix_fits g r accounts rest i
