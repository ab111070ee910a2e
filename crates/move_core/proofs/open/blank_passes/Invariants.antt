use Rattle.std.proofs.Common.{◌≡◌, true, replicate}
use Rattle.move_core.specs.State.{blank}
use Rattle.move_core.proofs.open.blank_passes.Given as goal

abbrev pub invariant-loop : goal.invariant-loop
invariant-loop l = l.made.items ≡ replicate l.counter (blank true)
