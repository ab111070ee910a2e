use Rattle.std.proofs.Common.{All, vec_len}
use Rattle.hg_defs.specs.Hypergraph.{vertex_count}
use Rattle.cluster_core.specs.declared.account.Stage.TheVariants.{Idle}
use Rattle.cluster_claim.specs.Steps.{IsPass}
use Rattle.cluster_claim.specs.Workers.{IsWorker}
use Rattle.cluster_claim.proofs.claim.join_all.Given as goal

abbrev pub invariant-rest : goal.invariant-rest
invariant-rest l = record {
  pass : IsPass l.words.table_id Idle l.pass;
  made : All (IsWorker l.words.table_id (vertex_count l.h)) l.made.items;
}

abbrev pub decreases-rest : goal.decreases-rest
decreases-rest l = vec_len l.made
