use Rattle.std.proofs.Common.{◌≡◌, ◌⊎◌, ◌*◌, ℕ, Contains, length, vec_len}
use Rattle.flow_round.specs.declared.worker.Found.{Found}
use Rattle.flow_round.specs.PairTurns.{IsPairBelow}
use Rattle.flow_round.specs.Waves.{HasEnd, end_at}
use Rattle.flow_round.proofs.worker.Worker.hand_over.Given as goal

abbrev pub invariant-loop-found : goal.invariant-loop-found
invariant-loop-found l = record {
  solver : l.self.solver ≡ l.fn.self.solver;
  table : length l.ends ≡ l.k * l.k;
  within : (t : Found) → Contains l.self.found.items t → Contains l.fn.self.found.items t;
  written : (x : ℕ × ℕ) → IsPairBelow l.k x → (end_at l.k l.ends x ≡ end_at l.k l.fn.ends x) ⊎ HasEnd l.fn.self.found.items x
      (end_at l.k l.ends x);
}

abbrev pub decreases-loop-found : goal.decreases-loop-found
decreases-loop-found l = vec_len l.self.found
