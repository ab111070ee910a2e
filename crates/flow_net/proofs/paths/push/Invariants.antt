use Rattle.std.proofs.Common.{◌≡◌, ◌+◌, ◌-◌, ◌<◌, length, slice_index}
use Rattle.flow_net.specs.Residual.{Carries, IsPushed}
use Rattle.flow_net.proofs.paths.push.Given as goal

abbrev pub invariant-loop-step : goal.invariant-loop-step
invariant-loop-step l = record {
  inside : l.node < length l.levels;
  stop : l.full < length l.levels;
  height : slice_index l.levels l.node + l._step ≡ slice_index l.levels l.halves.source + 1;
  carried : Carries l.halves.heads.now l.initial.rests l.ways l.amount (slice_index l.levels l.node - 1) l.node;
  pushed : IsPushed l.halves.heads.now l.levels l.halves.source l.node l.amount l.initial.rests l.rests;
}
