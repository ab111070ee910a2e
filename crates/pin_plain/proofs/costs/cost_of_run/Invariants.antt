use Rattle.std.proofs.Common.{◌≡◌, ◌+◌}
use Rattle.pin_plain.specs.Costs.{cost_below}
use Rattle.pin_plain.proofs.costs.cost_of_run.Given as goal

abbrev pub invariant-loop-e : goal.invariant-loop-e
invariant-loop-e l = cost_below l.nets.h.now l.nets.blocks.now l.e ≡ cost_below l.nets.h.now l.nets.blocks.now l.from + l.sum
