use Rattle.std.proofs.Common.{◌≡◌, ◌-◌, ◌^◌, ◌<◌, ◌≤◌, ℕ, min, take}
use Rattle.std.specs.List.{fold}
use Rattle.hg_defs.specs.Hypergraph.{weight_of}
use Rattle.flow_pair.proofs.region.least_weight.Given as goal

abbrev pub invariant-loop-v : goal.invariant-loop-v
invariant-loop-v l = record {
  value : l.least ≡ fold min (2 ^ 64 - 1) (take l.v l.h.weights);
  bound : (u : ℕ) → u < l.v → l.least ≤ weight_of l.h u;
}
