-- As many pins were given as are counted, at least one for each net.
use Rattle.std.proofs.Common.{◌≡◌, ◌*◌, ◌≤◌, length}
use Rattle.hg_defs.specs.Sums.{total}
use Rattle.hg_defs.specs.Hypergraph.{vertex_count, net_count, pin_count, total_net_weight}
use Rattle.move_table.proofs.tests.netted.Given as goal

abbrev pub invariant-loop-net : goal.invariant-loop-net
invariant-loop-net g l = record {
  vertices : vertex_count l.flat ≡ l.vertices;
  few : l.given ≤ 65536;
  nets : net_count l.flat ≤ l.given;
  pins : pin_count l.flat ≤ l.given;
  weights : total_net_weight l.flat ≤ l.given;
  products : total (λ e. e.weight * length e.pins) l.flat.nets ≤ l.given;
}
