use Rattle.round_log.proofs.TraceLaws.{trace-settled, descent-no_dearer, trace-below_last, trace-below_greedy}
use Rattle.round_log.proofs.laws.end_of_trace.Goals as goal

pub returns-clause-settled : goal.returns-clause-settled
returns-clause-settled c = trace-settled

pub returns-clause-descent : goal.returns-clause-descent
returns-clause-descent c = descent-no_dearer

pub returns-clause-below_last : goal.returns-clause-below_last
returns-clause-below_last c = trace-below_last

pub returns-clause-below_greedy : goal.returns-clause-below_greedy
returns-clause-below_greedy c = trace-below_greedy
