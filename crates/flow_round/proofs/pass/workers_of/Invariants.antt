use Rattle.std.proofs.Common.{◌≡◌, length}
use Rattle.flow_round.specs.Waves.{AreWorkers}
use Rattle.flow_round.proofs.pass.workers_of.Given as goal

abbrev pub invariant-loop-number : goal.invariant-loop-number
invariant-loop-number l = record {
  many : length l.workers.items ≡ l.number;
  working : AreWorkers l.h l.workers.items;
}
