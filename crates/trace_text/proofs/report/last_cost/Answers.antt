use Rattle.std.proofs.Common.{ap}
use Rattle.trace_text.specs.Report.{cost_after}
use Rattle.trace_text.proofs.report.last_cost.Goals as goal

pub returns-in-Some : goal.returns-in-Some
returns-in-Some c = ap (cost_after c.args.first) c.in-Some.ensures.value
