-- The loads of the blocks so far.
use Rattle.std.proofs.Common.{◌≡◌, ℕ, ◌<◌, length, get_or}
use Rattle.hg_defs.specs.Partition.{load}
use Rattle.det_sync.proofs.rounds.loads_of.Given as goal

abbrev pub invariant-loop-b : goal.invariant-loop-b
invariant-loop-b l = record {
  all : length l.loads.items ≡ l.b;
  each : (b : ℕ) → b < l.b → get_or l.loads.items b 0 ≡ load l.p.hyper l.p.blocks b;
}
