use Rattle.round_log.proofs.PassLaws.{pass-saves, pass-few, pass-kind, pass-part, pass-free}
use Rattle.round_log.proofs.laws.rounds_of_pass.Goals as goal

pub returns-clause-saved : goal.returns-clause-saved
returns-clause-saved c = pass-saves

pub returns-clause-few : goal.returns-clause-few
returns-clause-few c = pass-few

pub returns-clause-kind : goal.returns-clause-kind
returns-clause-kind c = pass-kind

pub returns-clause-part : goal.returns-clause-part
returns-clause-part c = pass-part

pub returns-clause-free : goal.returns-clause-free
returns-clause-free c = pass-free
