use Rattle.round_log.proofs.DetLaws.{sweeps_at_function, function_settled, descent_at_function, trace_at_function, det-legal, det-settled, det-below_greedy}
use Rattle.round_log.proofs.laws.end_of_deterministic_mode.Goals as goal

pub returns-clause-swept : goal.returns-clause-swept
returns-clause-swept c = sweeps_at_function

pub returns-clause-still : goal.returns-clause-still
returns-clause-still c = function_settled

pub returns-clause-last : goal.returns-clause-last
returns-clause-last c = descent_at_function

pub returns-clause-one : goal.returns-clause-one
returns-clause-one c = trace_at_function

pub returns-clause-legal : goal.returns-clause-legal
returns-clause-legal c = det-legal

pub returns-clause-settled : goal.returns-clause-settled
returns-clause-settled c = det-settled

pub returns-clause-below_greedy : goal.returns-clause-below_greedy
returns-clause-below_greedy c = det-below_greedy
