use Rattle.std.proofs.Common.{◌≡◌}
use Rattle.hg_defs.specs.Hypergraph.{vertex_count}
use Rattle.flow_tests.proofs.pairs.random.Given as goal

abbrev pub invariant-loop-v : goal.invariant-loop-v
invariant-loop-v l = vertex_count l.flat ≡ 14
