-- A weighted hypergraph: vertices with weights, nets with weights and pins, the objective, and where each vertex is fixed.
use Rattle.std.specs.Prelude.{◌≡◌, ◌≢◌, ℕ, ◌+◌, ◌*◌, ◌^◌, ◌<◌, ◌≤◌, List, [], length, All, slice_index, slice_index_or, Bool, nat_eq}
use Rattle.std.specs.List.{range_with_len}
use Rattle.std.specs.List.Sorted.{IsStrictlyIncreasing}
use Rattle.hg_defs.specs.declared.objective.Objective.{Objective}
use Rattle.hg_defs.specs.declared.objective.TheConstants.{FREE}
use Rattle.hg_defs.specs.Sums.{total}

-- a net's weight, and its pins: vertices in strictly rising order
pub record Net : Type 0 where
  pub weight : ℕ
  pub pins : List ℕ

-- a weight and a fix for each vertex, and the nets. A fix is a block, or FREE
pub record Hyper : Type 0 where
  pub weights : List ℕ
  pub nets : List Net
  pub objective : Objective
  pub fixes : List ℕ

-- how many vertices, nets and pins there are
abbrev pub vertex_count : Hyper → ℕ
vertex_count h = length h.weights

abbrev pub net_count : Hyper → ℕ
net_count h = length h.nets

abbrev pub pin_count : Hyper → ℕ
pin_count h = total (λ e. length e.pins) h.nets

-- the weight of a vertex, of all vertices and of all nets
abbrev pub weight_of : Hyper → ℕ → ℕ
weight_of h v = slice_index h.weights v

abbrev pub total_weight : Hyper → ℕ
total_weight h = total (λ w. w) h.weights

abbrev pub total_net_weight : Hyper → ℕ
total_net_weight h = total (λ e. e.weight) h.nets

-- the net of a number; past the last one a net without pins
abbrev pub net_of : Hyper → ℕ → Net
net_of h e = slice_index_or h.nets e (record { weight = 0; pins = [] })

-- the block to which a vertex is fixed, or FREE
abbrev pub fix_of : Hyper → ℕ → ℕ
fix_of h v = slice_index_or h.fixes v FREE

abbrev pub is_free : Hyper → ℕ → Bool
is_free h v = nat_eq (fix_of h v) FREE

-- the vertex may be placed in any block
abbrev pub IsFree : Hyper → ℕ → Type 0
IsFree h v = fix_of h v ≡ FREE

-- the vertices in rising order
abbrev pub vertices : Hyper → List ℕ
vertices h = range_with_len 0 (vertex_count h)

-- a net of this many vertices: its pins are vertices, in strictly rising order
pub record IsNet (vertices : ℕ) (e : Net) : Type 0 where
  pub rising : IsStrictlyIncreasing e.pins
  pub pins : All (λ v. v < vertices) e.pins

-- the lists fit together
pub record IsHypergraph (h : Hyper) : Type 0 where
  pub fixes : length h.fixes ≡ vertex_count h
  pub fixed : All (λ f. f ≤ FREE) h.fixes
  pub nets : All (IsNet (vertex_count h)) h.nets

-- the numbers are within the limits under which no sum passes 64 bits
pub record IsWithinLimits (h : Hyper) : Type 0 where
  pub vertices : vertex_count h ≤ 2 ^ 22
  pub nets : net_count h ≤ 2 ^ 22
  pub pins : pin_count h ≤ 2 ^ 25
  pub weight : total_weight h < 2 ^ 54
  pub net_weight : total_net_weight h < 2 ^ 54
  pub pin_weight : total (λ e. e.weight * length e.pins) h.nets < 2 ^ 57

-- every fix is FREE or below k
abbrev pub IsFixedWithin : Hyper → ℕ → Type 0
IsFixedWithin h k = (v : ℕ) → v < vertex_count h → fix_of h v ≢ FREE → fix_of h v < k

-- the pin counts of k blocks are not too many
abbrev pub Suits : Hyper → ℕ → Type 0
Suits h k = (vertex_count h + net_count h) * k ≤ 2 ^ 26
