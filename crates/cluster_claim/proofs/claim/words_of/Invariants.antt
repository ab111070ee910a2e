use Rattle.std.proofs.Common.{◌≡◌, ◌++◌, replicate, take}
use Rattle.hg_defs.specs.Hypergraph.{vertex_count}
use Rattle.cluster_claim.proofs.claim.words_of.Given as goal

abbrev pub invariant-loop-v : goal.invariant-loop-v
invariant-loop-v l = l.words.items ≡ replicate (vertex_count l.h) 0 ++ take l.v l.h.weights
