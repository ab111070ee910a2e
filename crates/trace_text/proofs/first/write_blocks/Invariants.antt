-- The blocks so far are written.
use Rattle.std.proofs.Common.{◌≡◌, ℕ, ◌<◌, ◌^◌, length, slice_index}
use Rattle.exact_cost.specs.Carrying.{carried}
use Rattle.trace_text.proofs.first.write_blocks.Given as goal

abbrev pub invariant-loop-v : goal.invariant-loop-v
invariant-loop-v l = record {
  count : length l.table ≡ 2 ^ 18;
  written : (u : ℕ) → u < l.v → slice_index l.table u ≡ slice_index l.blocks (carried l.maps u);
}
