use Rattle.std.proofs.Common.{◌≡◌, ◌≢◌, ℕ, ◌<◌}
use Rattle.hg_defs.specs.declared.objective.TheConstants.{FREE}
use Rattle.hg_defs.specs.Hypergraph.{fix_of}
use Rattle.hg_defs.specs.Partition.{block_of}
use Rattle.initial_place.proofs.search.obeys.Given as goal

abbrev pub invariant-loop-v : goal.invariant-loop-v
invariant-loop-v l = (u : ℕ) → u < l.v → fix_of l.h u ≢ FREE → block_of l.blocks u ≡ fix_of l.h u
