use Rattle.std.proofs.Common.{◌≡◌, ◌≤◌, ◌+◌, ◌-◌, ℕ, None}
use Rattle.flow_round.specs.PairTurns.{IsPairBelow}
use Rattle.flow_round.specs.Fronts.{IsFront, TakesPairs}
use Rattle.flow_round.specs.Waves.{AreWorkers, end_at}
use Rattle.flow_round.proofs.WaveLaws.{waves_from}
use Rattle.flow_round.proofs.front.Front.take_waves.Given as goal

abbrev pub invariant-loop-wave : goal.invariant-loop-wave
invariant-loop-wave g l = record {
  front : IsFront l.h l.self;
  taken : TakesPairs l.h (waves_from l.fn.self.part.k 1 (l.wave - 1)) l.fn.self l.self;
  none : (x : ℕ × ℕ) → IsPairBelow l.self.part.k x → l.wave ≤ x.0 + x.1 → end_at l.self.part.k l.self.ends.items x ≡ None;
  working : AreWorkers l.h l.workers;
}
