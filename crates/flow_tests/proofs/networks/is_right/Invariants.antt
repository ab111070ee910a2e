use Rattle.std.proofs.Common.{◌≡◌, ◌≤◌, length}
use Rattle.flow_tests.proofs.networks.is_right.Given as goal

abbrev pub invariant-loop-from : goal.invariant-loop-from
invariant-loop-from l = record {
  nodes : l.network.nodes ≡ 6;
  arcs : length l.network.arcs ≤ l.from;
}
