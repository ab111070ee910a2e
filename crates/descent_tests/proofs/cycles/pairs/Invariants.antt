-- The sizes so far.
use Rattle.std.proofs.Common.{◌≡◌, ◌*◌, ◌≤◌, length}
use Rattle.hg_defs.specs.Sums.{total}
use Rattle.hg_defs.specs.Hypergraph.{vertex_count, net_count, pin_count, total_net_weight}
use Rattle.descent_tests.proofs.cycles.pairs.Given as goal

abbrev pub invariant-loop-i : goal.invariant-loop-i
invariant-loop-i l = record {
  vertices : vertex_count l.flat ≡ 66;
  nets : net_count l.flat ≡ l.i;
  pins : pin_count l.flat ≤ 2 * l.i;
  net_weight : total_net_weight l.flat ≡ l.i;
  pin_weight : total (λ e. e.weight * length e.pins) l.flat.nets ≤ 2 * l.i;
}
