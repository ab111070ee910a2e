use Rattle.std.proofs.Common.{◌≡◌, ◌+◌, length, All}
use Rattle.hg_defs.specs.Hypergraph.{vertex_count}
use Rattle.cluster_core.specs.declared.account.Stage.TheVariants.{Idle}
use Rattle.cluster_claim.specs.Steps.{IsPass}
use Rattle.cluster_claim.specs.Workers.{IsWorker}
use Rattle.cluster_claim.proofs.claim.workers_of.Given as goal

abbrev pub invariant-others : goal.invariant-others
invariant-others l = record {
  pass : IsPass l.words.table_id Idle l.pass;
  spare : l.pass.seat.me.0.spare + l.counter ≡ l.workers;
  made : All (IsWorker l.words.table_id (vertex_count l.h)) l.made.items;
  count : length l.made.items + 1 ≡ l.counter;
}
