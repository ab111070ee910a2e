use Rattle.std.proofs.Common.{◌≡◌, vec_len}
use Rattle.hg_defs.specs.Hypergraph.{vertex_count}
use Rattle.cluster_claim.specs.Workers.{IsWorker}
use Rattle.cluster_claim.proofs.worker.Worker.visit_shares.Given as goal

abbrev pub invariant-shares : goal.invariant-shares
invariant-shares g l = record {
  worker : IsWorker l.shared.words.now.table_id (vertex_count l.shared.h.now) l.self;
  rated : vec_len l.self.ratings.places ≡ vertex_count l.shared.h.now;
}
