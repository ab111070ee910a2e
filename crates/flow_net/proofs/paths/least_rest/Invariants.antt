use Rattle.std.proofs.Common.{◌≡◌, ℕ, ◌+◌, ◌-◌, ◌<◌, ◌≤◌, length, slice_index}
use Rattle.flow_net.specs.Residual.{Carries, IsOpen}
use Rattle.flow_net.proofs.paths.least_rest.Given as goal

abbrev pub invariant-loop-step : goal.invariant-loop-step
invariant-loop-step l = record {
  inside : l.node < length l.levels;
  height : slice_index l.levels l.node + l._step ≡ slice_index l.levels l.halves.source + 1;
  carried : (x : ℕ) → x ≤ l.least → Carries l.halves.heads.now l.rests l.ways x (slice_index l.levels l.node - 1) l.node
      → Carries l.halves.heads.now l.rests l.ways x (slice_index l.levels l.halves.source - 1) l.halves.source;
  positive : IsOpen l.rests l.levels l.ways l.halves.sink → 0 < l.least;
}
