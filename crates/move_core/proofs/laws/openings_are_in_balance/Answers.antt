-- The law, from the lemma on openings.
use Rattle.std.proofs.Common.{arith}
use Rattle.move_core.proofs.OpenLaws.{opening_balance}
use Rattle.move_core.proofs.laws.openings_are_in_balance.Goals as goal

pub returns-clause-alone : goal.returns-clause-alone
returns-clause-alone c = λ g r ok o. opening_balance g ok r o 1 (omega arith)

pub returns-clause-passes : goal.returns-clause-passes
returns-clause-passes c = λ g r passes ok o few. opening_balance g ok r o passes few
