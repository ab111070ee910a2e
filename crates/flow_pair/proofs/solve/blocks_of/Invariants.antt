use Rattle.std.proofs.Common.{◌≡◌, ◌+◌, ◌<◌, ℕ, slice_index, if◌then◌else◌}
use Rattle.std.specs.Vec.{vec_len}
use Rattle.flow_net.specs.Flow.{is_in}
use Rattle.flow_pair.proofs.solve.blocks_of.Given as goal

abbrev pub invariant-loop-i : goal.invariant-loop-i
invariant-loop-i l = record {
  count : vec_len l.blocks ≡ l.i;
  each : (j : ℕ) → j < l.i → slice_index l.blocks.items j ≡ (if is_in l.side (2 + j) then l.a else l.b);
}
