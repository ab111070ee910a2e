-- The steps of a pass: each is one event.
use Rattle.std.specs.Prelude.{◌≡◌, ℕ, ◌+◌, ◌-◌, ◌^◌, ◌<◌, ◌≤◌, [], true}
use Rattle.atomic_table.specs.Table.{Me}
use Rattle.atomic_table.specs.Seated.{TableId}
use Rattle.hg_defs.specs.Hypergraph.{vertex_count, weight_of}
use Rattle.hg_defs.specs.declared.objective.Objective.TheVariants.{Connectivity}
use Rattle.cluster_core.specs.declared.account.Account.{Account}
use Rattle.cluster_core.specs.declared.account.Stage.{Stage}
use Rattle.cluster_core.specs.declared.events.ClusterEvent.{ClusterEvent}
use Rattle.cluster_core.specs.declared.events.ClusterEvent.TheVariants.{Take, Add, Peek}
use Rattle.cluster_core.specs.State.{Setup, times}
use Rattle.cluster_core.specs.Events.{may_step, account_after}
use Rattle.cluster_claim.specs.declared.board.View.{View}
use Rattle.cluster_claim.specs.declared.pass.Pass.{Pass}

-- what a seat knows after an event that found a number
abbrev pub done : Setup → ClusterEvent → ℕ → View → View
done g x found v = record v { account = account_after g x found v.account }

-- what the balance says of the number that was found
abbrev pub IsTold : Setup → ClusterEvent → View → ℕ → Type 0
IsTold g (Take i v) me found = (2 ≤ found → found - 2 < vertex_count g.graph) × (found ≡ 0 → times v me.account.taken ≡ 0)
IsTold g (Peek i v) me found = 2 ≤ found → found - 2 < vertex_count g.graph
IsTold g (Add i v q) me found = found + weight_of g.graph v < 2 ^ 64
IsTold g _ me found = Unit {0}

-- the step was this event
abbrev pub IsDone : Setup → ClusterEvent → Me (Unit {0}) View → ℕ → Me (Unit {0}) View → Type 0
IsDone g x me found after = (after ≡ (done g x found me.0, me.1)) × IsTold g x me.0 found

-- the account of a pass
abbrev pub account_in : Pass → Account
account_in p = p.seat.me.0.account

-- a live pass of the table, at a stage
pub record IsPass (id : TableId) (stage : Stage) (p : Pass) : Type 0 where
  pub table : p.seat.table_id ≡ id
  pub slots : p.seat.me.1 ≡ []
  pub live : (account_in p).live ≡ true
  pub stands : (account_in p).stage ≡ stage

-- the pass may make the event
pub record CanMake (g : Setup) (id : TableId) (x : ClusterEvent) (p : Pass) : Type 0 where
  pub table : p.seat.table_id ≡ id
  pub slots : p.seat.me.1 ≡ []
  pub live : (account_in p).live ≡ true
  pub may : may_step g x (account_in p) ≡ true

-- what the pass had taken it still has
abbrev pub KeepsTaken : Pass → Pass → Type 0
KeepsTaken p q = (u : ℕ) → 0 < times u (account_in p).taken → 0 < times u (account_in q).taken

abbrev pub HasTaken : Pass → ℕ → Type 0
HasTaken p v = 0 < times v (account_in p).taken

abbrev pub Knows : Pass → ℕ → Type 0
Knows p q = 0 < times q (account_in p).known

-- a setup of nothing
abbrev pub no_setup : Setup
no_setup = record { graph = record { weights = []; nets = []; objective = Connectivity; fixes = [] }; cap = 0 }
