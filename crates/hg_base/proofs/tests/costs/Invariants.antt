-- There are seven vertices at all times.
use Rattle.std.proofs.Common.{◌≡◌}
use Rattle.hg_defs.specs.Hypergraph.{vertex_count}
use Rattle.hg_base.proofs.tests.costs.Given as goal

abbrev pub invariant-loop-objective : goal.invariant-loop-objective
invariant-loop-objective g l = vertex_count l.h ≡ 7
