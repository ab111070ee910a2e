use Rattle.vcycle.proofs.ThreeKinds.{three_kinds_cycle, three_kinds_cycles}
use Rattle.vcycle.proofs.laws.cycles_of_three.Goals as goal

pub returns-clause-cycle : goal.returns-clause-cycle
returns-clause-cycle c = three_kinds_cycle

pub returns-clause-cycles : goal.returns-clause-cycles
returns-clause-cycles c = three_kinds_cycles
