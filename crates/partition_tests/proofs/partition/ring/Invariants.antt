-- The sizes so far.
use Rattle.std.proofs.Common.{◌≡◌, ◌*◌, ◌≤◌, length}
use Rattle.hg_defs.specs.Sums.{total}
use Rattle.hg_defs.specs.Hypergraph.{vertex_count, net_count, pin_count, total_net_weight}
use Rattle.partition_tests.proofs.partition.ring.Given as goal

abbrev pub invariant-loop-v : goal.invariant-loop-v
invariant-loop-v l = record {
  vertices : vertex_count l.flat ≡ l.vertices;
  nets : net_count l.flat ≡ l.v;
  pins : pin_count l.flat ≤ 2 * l.v;
  net_weight : total_net_weight l.flat ≡ l.v;
  pin_weight : total (λ e. e.weight * length e.pins) l.flat.nets ≤ 2 * l.v;
}
