use Rattle.hg_make.proofs.GraphLaws.{hypergraph_is_read_back}
use Rattle.hg_make.proofs.laws.hypergraph_is_read_back.Goals as goal

pub returns : goal.returns
returns c = hypergraph_is_read_back
