-- The sizes so far.
use Rattle.std.proofs.Common.{◌≡◌, ◌+◌, ◌*◌, ◌≤◌, length}
use Rattle.hg_defs.specs.Sums.{total}
use Rattle.hg_defs.specs.Hypergraph.{vertex_count, net_count, pin_count, total_net_weight}
use Rattle.descent_tests.proofs.deterministic.row.Given as goal

abbrev pub invariant-loop-v : goal.invariant-loop-v
invariant-loop-v l = record {
  vertices : vertex_count l.flat ≡ l.vertices;
  nets : net_count l.flat + 1 ≡ l.v;
  pins : pin_count l.flat + 2 ≤ 2 * l.v;
  net_weight : total_net_weight l.flat + 1 ≡ l.v;
  pin_weight : total (λ e. e.weight * length e.pins) l.flat.nets + 2 ≤ 2 * l.v;
}
