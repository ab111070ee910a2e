use Rattle.std.proofs.Common.{◌≡◌}
use Rattle.hg_defs.specs.Hypergraph.{vertex_count}
use Rattle.partition_tests.proofs.partition.fix_all.Given as goal

abbrev pub invariant-loop-v : goal.invariant-loop-v
invariant-loop-v l = vertex_count l.flat ≡ l.v-end
