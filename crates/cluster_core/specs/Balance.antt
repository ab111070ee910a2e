-- The balance of a clustering: what holds of the words and of the accounts of all passes at every moment.
use Rattle.std.specs.Prelude.{◌≡◌, ◌≢◌, ℕ, ◌+◌, ◌<◌, ◌≤◌, List, length, All, false, nat_eq, if◌then◌else◌}
use Rattle.hg_defs.specs.Sums.{total, sum_below}
use Rattle.hg_defs.specs.Hypergraph.{Hyper, vertex_count, weight_of, is_free, IsWithinLimits}
use Rattle.cluster_core.specs.declared.account.Account.{Account}
use Rattle.cluster_core.specs.declared.account.Stage.{Stage}
use Rattle.cluster_core.specs.declared.account.Stage.TheVariants.{Idle, Refused, Granted}
use Rattle.cluster_core.specs.State.{Setup, Readings, State, readings, times, blank}

-- a vertex that is decided, with itself for its root
pub record IsRoot (h : Hyper) (r : Readings) (q : ℕ) : Type 0 where
  pub vertex : q < vertex_count h
  pub mark : r.mark q ≡ q + 2

-- Marks. The root of a decided vertex is a root, and so is each root that a pass knows. A mark is 1 exactly where one
-- pass has taken the vertex and not decided it. A vertex that isn't free has the mark 0.
pub record HasMarks (h : Hyper) (r : Readings) (accounts : List Account) : Type 0 where
  pub roots : (v q : ℕ) → v < vertex_count h → r.mark v ≡ q + 2 → IsRoot h r q
  pub known : All (λ a. All (IsRoot h r) a.known) accounts
  pub taken : (v : ℕ) → v < vertex_count h → total (λ a. times v a.taken) accounts ≡ (if nat_eq (r.mark v) 1 then 1 else 0)
  pub range : All (λ a. All (λ v. v < vertex_count h) a.taken) accounts
  pub fixed : (v : ℕ) → v < vertex_count h → is_free h v ≡ false → r.mark v ≡ 0

-- the weight of a vertex in the cluster of a root
abbrev pub share : Hyper → Readings → ℕ → ℕ → ℕ
share h r q v = if nat_eq (r.mark v) (q + 2) then weight_of h v else 0

-- the weight of the vertices that are decided with a root
abbrev pub clustered : Hyper → Readings → ℕ → ℕ
clustered h r q = sum_below (share h r q) (vertex_count h)

-- the weight that stands at a stage for a root, and what of it is granted
abbrev pub pending_weight : Hyper → ℕ → Stage → ℕ
pending_weight h q Idle = 0
pending_weight h q (Refused v o) = if nat_eq o q then weight_of h v else 0
pending_weight h q (Granted v o) = if nat_eq o q then weight_of h v else 0

abbrev pub granted_weight : Hyper → ℕ → Stage → ℕ
granted_weight h q Idle = 0
granted_weight h q (Refused v o) = 0
granted_weight h q (Granted v o) = if nat_eq o q then weight_of h v else 0

-- how many vertices are granted a root at a stage
abbrev pub grants : ℕ → Stage → ℕ
grants q Idle = 0
grants q (Refused v o) = 0
grants q (Granted v o) = if nat_eq o q then 1 else 0

-- the weight of the cluster of a root, with all grants
abbrev pub promised : Hyper → Readings → List Account → ℕ → ℕ
promised h r accounts q = clustered h r q + total (λ a. granted_weight h q a.stage) accounts

-- Masses. The mass of a root is the weight of its cluster and of what stands at stages for it; that of another vertex is
-- its weight. The cluster of a root with a follower or a grant, with all grants, is within the cap.
pub record HasMasses (g : Setup) (r : Readings) (accounts : List Account) : Type 0 where
  pub root : (q : ℕ) → q < vertex_count g.graph → r.mark q ≡ q + 2 → r.mass q ≡ clustered g.graph r q + total (λ a. pending_weight g.graph q a.stage)
      accounts
  pub other : (q : ℕ) → q < vertex_count g.graph → r.mark q ≢ q + 2 → r.mass q ≡ weight_of g.graph q
  pub followed : (q v : ℕ) → v < vertex_count g.graph → v ≢ q → r.mark v ≡ q + 2 → promised g.graph r accounts q ≤ g.cap
  pub granted : (q : ℕ) → 0 < total (λ a. grants q a.stage) accounts → promised g.graph r accounts q ≤ g.cap

-- the vertex of a stage is taken by the pass, and the root is known to it
abbrev pub IsHeld : Stage → Account → Type 0
IsHeld Idle a = Unit {0}
IsHeld (Refused v q) a = (0 < times v a.taken) × (0 < times q a.known)
IsHeld (Granted v q) a = (0 < times v a.taken) × (0 < times q a.known)

-- Passes. An ended pass has nothing, and at most 64 passes were made.
pub record HasPasses (accounts : List Account) : Type 0 where
  pub held : All (λ a. IsHeld a.stage a) accounts
  pub ended : All (λ a. a.live ≡ false → a ≡ blank false) accounts
  pub made : length accounts ≤ 64

-- a clustering in balance
pub record InBalance (g : Setup) (r : Readings) (accounts : List Account) : Type 0 where
  pub marks : HasMarks g.graph r accounts
  pub masses : HasMasses g r accounts
  pub passes : HasPasses accounts

-- a state has a mark and a mass for each vertex
pub record IsShaped (g : Setup) (s : State) : Type 0 where
  pub some : 0 < vertex_count g.graph
  pub marks : length s.marks ≡ vertex_count g.graph
  pub masses : length s.masses ≡ vertex_count g.graph

-- the state of a clustering of a hypergraph within the limits, in balance
pub record IsClusterState (g : Setup) (s : State) : Type 0 where
  pub bounds : IsWithinLimits g.graph
  pub shape : IsShaped g s
  pub balance : InBalance g (readings s) s.accounts

-- a decided mark stays as it is
abbrev pub KeepsDecided : Setup → Readings → Readings → Type 0
KeepsDecided g r r' = (v q : ℕ) → v < vertex_count g.graph → r.mark v ≡ q + 2 → r'.mark v ≡ q + 2
