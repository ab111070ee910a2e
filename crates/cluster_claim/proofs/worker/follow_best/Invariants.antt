use Rattle.std.proofs.Common.{◌≡◌, vec_len}
use Rattle.hg_defs.specs.Hypergraph.{vertex_count}
use Rattle.cluster_core.specs.declared.account.Stage.TheVariants.{Idle}
use Rattle.cluster_claim.specs.Steps.{IsPass, HasTaken}
use Rattle.cluster_claim.proofs.worker.follow_best.Given as goal

abbrev pub invariant-tries : goal.invariant-tries
invariant-tries l = record {
  pass : IsPass l.words.table_id Idle l.pass;
  rated : vec_len l.ratings.places ≡ vertex_count l.h;
  has : HasTaken l.pass l.vertex;
}
