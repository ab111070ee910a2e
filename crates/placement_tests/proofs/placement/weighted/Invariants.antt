-- The whole weight grows by less than 2^32 each time.
use Rattle.std.proofs.Common.{◌≡◌, ◌+◌, ◌*◌, ◌^◌, ◌≤◌, length}
use Rattle.hg_defs.specs.Hypergraph.{vertex_count, total_weight}
use Rattle.placement_tests.proofs.placement.weighted.Given as goal

abbrev pub invariant-loop-v : goal.invariant-loop-v
invariant-loop-v l = (vertex_count l.h ≡ length l.weights) × (total_weight l.h ≤ 16 + 2 ^ 32 * l.v)
