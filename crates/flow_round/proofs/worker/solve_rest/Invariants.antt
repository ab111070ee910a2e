use Rattle.std.proofs.Common.{◌≡◌, ◌≢◌, ℕ, ◌+◌, ◌*◌, All, length, map, take}
use Rattle.flow_round.specs.PairTurns.{IsPairBelow}
use Rattle.flow_round.specs.Waves.{MayHaveEnds, end_at}
use Rattle.flow_round.proofs.FoundLaws.{HasTurn}
use Rattle.flow_round.proofs.worker.solve_rest.Given as goal

abbrev pub invariant-loop-pair : goal.invariant-loop-pair
invariant-loop-pair g l = record {
  solver : l.solver ≡ l.fn.solver;
  table : length l.ends ≡ l.p.k * l.p.k;
  may : MayHaveEnds l.h l.p l.wave l.ends;
  others : (x : ℕ × ℕ) → IsPairBelow l.p.k x → x.0 + x.1 ≢ l.wave → end_at l.p.k l.ends x ≡ end_at l.p.k l.fn.ends x;
  have : All (HasTurn l.h l.p l.wave l.ends) (take l.pair-index (map (λ pair. pair.1) l.pairs));
}
