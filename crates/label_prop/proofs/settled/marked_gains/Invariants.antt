-- What is listed are vertices.
use Rattle.std.proofs.Common.{◌<◌, All}
use Rattle.hg_defs.specs.Hypergraph.{vertex_count}
use Rattle.label_prop.proofs.settled.marked_gains.Given as goal

abbrev pub invariant-loop-v : goal.invariant-loop-v
invariant-loop-v l = record {
  vertices : All (λ u. u < vertex_count l.h) l.listed.items;
}
