-- The sizes so far.
use Rattle.std.proofs.Common.{◌≡◌, ◌*◌, ◌≤◌, length}
use Rattle.hg_defs.specs.Sums.{total}
use Rattle.hg_defs.specs.Hypergraph.{vertex_count, net_count, pin_count, total_net_weight}
use Rattle.flow_tests.proofs.pairs.random_nets.Given as goal

abbrev pub invariant-loop-net : goal.invariant-loop-net
invariant-loop-net l = record {
  vertices : vertex_count l.flat ≡ 14;
  nets : net_count l.flat ≡ l._net;
  pins : pin_count l.flat ≤ 3 * l._net;
  net_weight : total_net_weight l.flat ≤ 9 * l._net;
  pin_weight : total (λ e. e.weight * length e.pins) l.flat.nets ≤ 27 * l._net;
}
