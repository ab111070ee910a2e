-- A worker between two visits.
use Rattle.std.specs.Prelude.{ℕ, ◌<◌, IfSome}
use Rattle.atomic_table.specs.Seated.{TableId}
use Rattle.cluster_core.specs.declared.account.Stage.TheVariants.{Idle}
use Rattle.cluster_claim.specs.declared.worker.Worker.{Worker}
use Rattle.cluster_claim.specs.Steps.{IsPass}

-- its pass is idle, and its last lone root is a vertex
pub record IsWorker (id : TableId) (vertices : ℕ) (w : Worker) : Type 0 where
  pub idle : IsPass id Idle w.pass
  pub lone_below : IfSome w.lone (λ c. c < vertices)
