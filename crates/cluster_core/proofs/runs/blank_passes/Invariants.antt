use Rattle.std.proofs.Common.{◌≡◌, true, replicate}
use Rattle.cluster_core.specs.State.{blank}
use Rattle.cluster_core.proofs.runs.blank_passes.Given as goal

abbrev pub invariant-loop : goal.invariant-loop
invariant-loop l = l.made.items ≡ replicate l.counter (blank true)
