use Rattle.std.proofs.Common.{◌≡◌, ◌*◌, ◌≤◌, ◌<◌, ℕ, length, get_or}
use Rattle.flow_round.specs.declared.worker.Worker.{Worker}
use Rattle.flow_round.specs.Waves.{IsIdle, MayGainEnd}
use Rattle.flow_round.proofs.worker.hand_all_over.Given as goal

abbrev pub invariant-loop-worker : goal.invariant-loop-worker
invariant-loop-worker l = record {
  table : length l.ends ≡ l.p.k * l.p.k;
  count : length l.workers ≡ length l.fn.workers;
  passed : (i : ℕ) (d : Worker) → i < l.worker-index → IsIdle l.h (get_or l.workers i d);
  rest : (i : ℕ) (d : Worker) → l.worker-index ≤ i → i < length l.workers → get_or l.workers i d ≡ get_or l.fn.workers i d;
  gained : MayGainEnd l.h l.p l.wave l.fn.ends l.ends;
}
