use Rattle.std.proofs.Common.{◌≡◌, ◌<◌, ℕ, length, take, get_or}
use Rattle.hg_defs.specs.Partition.{weight_in}
use Rattle.move_core.proofs.open.loads_of.Given as goal

abbrev pub invariant-loop-v : goal.invariant-loop-v
invariant-loop-v l = record {
  wide : length l.loads.items ≡ l.k;
  each : (b : ℕ) → b < l.k → get_or l.loads.items b 0 ≡ weight_in (take l.v l.h.weights) (take l.v l.p) b;
}
