use Rattle.std.proofs.Common.{◌≡◌, ◌≤◌, ◌*◌, ◌^◌, nat_eq, slice_index, if◌then◌else◌}
use Rattle.hg_defs.specs.Sums.{sum_below}
use Rattle.flow_net.specs.Flow.{arc_at}
use Rattle.flow_net.proofs.cut.flow_from.Given as goal

abbrev pub invariant-loop-i : goal.invariant-loop-i
invariant-loop-i l = record {
  left : l.left ≡ sum_below (λ i. if nat_eq (arc_at l.arcs i).from l.node then slice_index l.flows i else 0) l.i;
  entered : l.entered ≡ sum_below (λ i. if nat_eq (arc_at l.arcs i).to l.node then slice_index l.flows i else 0) l.i;
  few_left : l.left ≤ l.i * 2 ^ 64;
  few_entered : l.entered ≤ l.i * 2 ^ 64;
}
