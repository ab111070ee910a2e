use Rattle.std.proofs.Common.{◌≡◌, ◌≤◌, ◌+◌, ◌*◌, ◌++◌, length, map, drop, take}
use Rattle.hg_defs.specs.Sums.{total}
use Rattle.hg_defs.specs.Hypergraph.{net_of}
use Rattle.flow_pair.specs.PairNetwork.{nets_arcs, IsIdle}
use Rattle.flow_pair.proofs.network.add_nets.Given as goal

abbrev pub invariant-loop-e : goal.invariant-loop-e
invariant-loop-e l = record {
  nodes : l.network.nodes ≡ 2 + length l.pair.region.now + 2 * l.e-index;
  arcs : l.network.arcs ++ nets_arcs l.pair.h.now l.pair.blocks.now l.pair.first l.pair.second l.pair.region.now l.network.nodes
      (map (net_of l.pair.h.now) (drop l.e-index l.nets))
      ≡ nets_arcs l.pair.h.now l.pair.blocks.now l.pair.first l.pair.second l.pair.region.now (2 + length l.pair.region.now)
      (map (net_of l.pair.h.now) l.nets);
  idle : IsIdle l.network;
  few : length l.network.arcs ≤ l.e-index + 2 * total (λ e. length (net_of l.pair.h.now e).pins) (take l.e-index l.nets);
}
