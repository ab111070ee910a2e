use Rattle.std.proofs.Common.{◌≡◌, vec_len}
use Rattle.hg_defs.specs.Hypergraph.{vertex_count}
use Rattle.cluster_core.specs.declared.account.Stage.TheVariants.{Idle}
use Rattle.cluster_claim.specs.Steps.{IsPass, account_in}
use Rattle.cluster_claim.proofs.worker.rate.Given as goal

abbrev pub invariant-nets : goal.invariant-nets
invariant-nets l = record {
  pass : IsPass l.words.table_id Idle l.pass;
  rated : vec_len l.ratings.places ≡ vertex_count l.h;
  taken : (account_in l.pass).taken ≡ (account_in l.fn.pass).taken;
}
