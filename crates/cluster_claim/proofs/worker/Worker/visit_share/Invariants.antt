use Rattle.std.proofs.Common.{◌≡◌, vec_len}
use Rattle.hg_defs.specs.Hypergraph.{vertex_count}
use Rattle.cluster_claim.specs.Workers.{IsWorker}
use Rattle.cluster_claim.proofs.worker.Worker.visit_share.Given as goal

abbrev pub invariant-visits : goal.invariant-visits
invariant-visits g l = record {
  worker : IsWorker l.shared.words.now.table_id (vertex_count l.shared.h.now) l.self;
  rated : vec_len l.self.ratings.places ≡ vertex_count l.shared.h.now;
}
