use Rattle.std.proofs.Common.{◌≡◌, ◌≤◌, ◌+◌, ◌*◌, ◌++◌, length, drop}
use Rattle.flow_pair.specs.PairNetwork.{pin_arcs, IsIdle}
use Rattle.flow_pair.proofs.network.add_pins.Given as goal

abbrev pub invariant-loop-v : goal.invariant-loop-v
invariant-loop-v l = record {
  nodes : l.network.nodes ≡ l.initial.network.nodes;
  arcs : l.network.arcs ++ pin_arcs l.pair.h.now l.pair.blocks.now l.pair.first l.pair.second l.pair.region.now l.at (drop l.v-index l.pins)
      ≡ l.initial.network.arcs ++ pin_arcs l.pair.h.now l.pair.blocks.now l.pair.first l.pair.second l.pair.region.now l.at l.pins;
  idle : IsIdle l.network;
  few : length l.network.arcs ≤ length l.initial.network.arcs + 2 * l.v-index;
}
