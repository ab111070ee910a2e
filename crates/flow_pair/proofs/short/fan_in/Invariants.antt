use Rattle.std.proofs.Common.{◌≡◌, ◌+◌, ◌++◌, length, drop}
use Rattle.flow_pair.specs.PairNetwork.{IsIdle}
use Rattle.flow_pair.specs.ShortNetwork.{arcs_from_each}
use Rattle.flow_pair.proofs.short.fan_in.Given as goal

abbrev pub invariant-loop-n : goal.invariant-loop-n
invariant-loop-n l = record {
  nodes : l.network.nodes ≡ l.initial.network.nodes;
  arcs : l.network.arcs ++ arcs_from_each l.cap l.at (drop l.n-index l.nodes) ≡ l.initial.network.arcs ++ arcs_from_each l.cap l.at l.nodes;
  idle : IsIdle l.network;
  few : length l.network.arcs ≡ length l.initial.network.arcs + l.n-index;
}
