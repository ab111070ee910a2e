use Rattle.uncoarsen.proofs.LegalLaws.{kinds-settled, kinds-no_dearer, kinds-below_last, kinds-below_greedy}
use Rattle.uncoarsen.proofs.laws.end_of_descent.Goals as goal

pub returns-clause-settled : goal.returns-clause-settled
returns-clause-settled c = kinds-settled

pub returns-clause-descent : goal.returns-clause-descent
returns-clause-descent c = kinds-no_dearer

pub returns-clause-below_last : goal.returns-clause-below_last
returns-clause-below_last c = kinds-below_last

pub returns-clause-below_greedy : goal.returns-clause-below_greedy
returns-clause-below_greedy c = kinds-below_greedy
