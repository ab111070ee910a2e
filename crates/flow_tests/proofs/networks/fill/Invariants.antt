use Rattle.std.proofs.Common.{◌≡◌, ◌≤◌, length}
use Rattle.flow_tests.proofs.networks.fill.Given as goal

abbrev pub invariant-loop-arc : goal.invariant-loop-arc
invariant-loop-arc l = record {
  nodes : l.network.nodes ≡ 6;
  arcs : length l.network.arcs ≤ l._arc;
}
