use Rattle.std.proofs.Common.{◌≡◌, ◌+◌, ◌≤◌, map, slice_index}
use Rattle.std.specs.List.{range_with_len}
use Rattle.move_core.specs.State.{count_place, present_below}
use Rattle.move_core.proofs.open.spreads_of.Given as goal

abbrev pub invariant-loop-e : goal.invariant-loop-e
invariant-loop-e l = l.spreads.items ≡ map (λ e. 64 + present_below (λ b. slice_index l.fn.counts (count_place l.fn.k e b)) l.fn.k) (range_with_len 0 l.e)

abbrev pub invariant-loop-b : goal.invariant-loop-b
invariant-loop-b l = record {
  spread : l.spread ≡ 64 + present_below (λ b. slice_index l.fn.counts (count_place l.fn.k l.e b)) l.b;
  small : l.spread ≤ 64 + l.b;
}
