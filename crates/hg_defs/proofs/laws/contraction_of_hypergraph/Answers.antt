use Rattle.hg_defs.proofs.ContractionLaws.{hypergraph_kept, weight_kept, limits_kept, fixes_within}
use Rattle.hg_defs.proofs.laws.contraction_of_hypergraph.Goals as goal

pub returns-clause-hypergraph : goal.returns-clause-hypergraph
returns-clause-hypergraph c = hypergraph_kept

pub returns-clause-weight : goal.returns-clause-weight
returns-clause-weight c = weight_kept

pub returns-clause-limits : goal.returns-clause-limits
returns-clause-limits c = limits_kept

pub returns-clause-within : goal.returns-clause-within
returns-clause-within c = fixes_within
