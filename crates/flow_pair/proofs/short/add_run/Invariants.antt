use Rattle.std.proofs.Common.{◌≡◌, ◌≤◌, ◌+◌, ◌*◌, ◌++◌, length, map, drop, take}
use Rattle.hg_defs.specs.Sums.{total}
use Rattle.hg_defs.specs.Hypergraph.{net_of}
use Rattle.flow_pair.specs.PairNetwork.{IsIdle}
use Rattle.flow_pair.specs.ShortNetwork.{all_short_arcs, short_count, fixed_price}
use Rattle.flow_pair.proofs.short.add_run.Given as goal

abbrev pub invariant-loop-i : goal.invariant-loop-i
invariant-loop-i l = record {
  nodes : l.network.nodes + total (short_count l.pair.blocks.now l.pair.first l.pair.second l.pair.region.now)
      (map (net_of l.pair.h.now) (drop l.i l.nets))
      ≡ l.initial.network.nodes + total (short_count l.pair.blocks.now l.pair.first l.pair.second l.pair.region.now)
      (map (net_of l.pair.h.now) l.nets);
  low : 2 + length l.pair.region.now ≤ l.network.nodes;
  high : l.network.nodes ≤ l.initial.network.nodes + 2 * l.i;
  arcs : l.network.arcs ++ all_short_arcs l.pair.h.now l.pair.blocks.now l.pair.first l.pair.second l.pair.region.now l.network.nodes
      (map (net_of l.pair.h.now) (drop l.i l.nets))
      ≡ l.initial.network.arcs ++ all_short_arcs l.pair.h.now l.pair.blocks.now l.pair.first l.pair.second l.pair.region.now
      l.initial.network.nodes (map (net_of l.pair.h.now) l.nets);
  idle : IsIdle l.network;
  few : length l.network.arcs ≤ length l.initial.network.arcs + l.i + 2 * total (λ e. length (net_of l.pair.h.now e).pins) (take l.i l.nets);
  fixed : l.fixed + total (fixed_price l.pair.h.now l.pair.blocks.now l.pair.first l.pair.second l.pair.region.now)
      (map (net_of l.pair.h.now) (drop l.i l.nets))
      ≡ total (fixed_price l.pair.h.now l.pair.blocks.now l.pair.first l.pair.second l.pair.region.now) (map (net_of l.pair.h.now) l.nets);
}
