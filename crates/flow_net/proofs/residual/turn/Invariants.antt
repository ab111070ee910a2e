use Rattle.std.proofs.Common.{◌≡◌, ℕ, ◌*◌, ◌<◌, ◌≤◌, length, slice_index}
use Rattle.flow_net.specs.Residual.{mate}
use Rattle.flow_net.proofs.residual.turn.Given as goal

abbrev pub invariant-loop-i : goal.invariant-loop-i
invariant-loop-i l = record {
  turned : (h : ℕ) → h < 2 * l.i → slice_index l.rests h ≡ slice_index l.initial.rests (mate h);
  same : (h : ℕ) → 2 * l.i ≤ h → h < length l.rests → slice_index l.rests h ≡ slice_index l.initial.rests h;
}
