use Rattle.flow_round.specs.Waves.{IsSolved}
use Rattle.flow_round.proofs.worker.Worker.run.Given as goal

abbrev pub invariant-loop : goal.invariant-loop
invariant-loop g l = IsSolved l.h l.p l.wave l.self
