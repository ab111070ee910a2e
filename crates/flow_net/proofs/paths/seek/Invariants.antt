use Rattle.std.proofs.Common.{◌≡◌, ◌-◌, ◌<◌, ◌≤◌, length}
use Rattle.flow_net.specs.Residual.{tail}
use Rattle.flow_net.proofs.paths.seek.Given as goal

abbrev pub invariant-loop-at : goal.invariant-loop-at
invariant-loop-at l = record {
  within : l.at ≤ length l.halves.heads.now;
  leaves : 0 < l.at → tail l.halves.heads.now (l.at - 1) ≡ l.node;
}

abbrev pub decreases-loop-at : goal.decreases-loop-at
decreases-loop-at l = l.at
