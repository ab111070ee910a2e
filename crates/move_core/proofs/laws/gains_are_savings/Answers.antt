-- The law: a clause of the balance, and at rest the cost that it tells.
use Rattle.move_core.proofs.RestedLaws.{saved}
use Rattle.move_core.proofs.laws.gains_are_savings.Goals as goal

pub returns-clause-words : goal.returns-clause-words
returns-clause-words c = λ g r accounts b. b.sum.gains

pub returns-clause-partition : goal.returns-clause-partition
returns-clause-partition c = λ g r accounts rest. saved g r accounts rest
