-- A partition gives each vertex a block: loads, the limit on them, and fixed vertices.
use Rattle.std.specs.Prelude.{◌≡◌, ◌≢◌, ℕ, ◌+◌, ◌-◌, ◌*◌, ◌/◌, ◌<◌, ◌≤◌, List, [], ◌∷◌, length, All, slice_index, Bool, nat_eq, nat_le, if◌then◌else◌}
use Rattle.std.specs.List.{list_all, range_with_len}
use Rattle.hg_defs.specs.declared.objective.TheConstants.{FREE}
use Rattle.hg_defs.specs.Hypergraph.{Hyper, vertex_count, fix_of}

-- one block below k for each vertex
pub record IsPartition (h : Hyper) (k : ℕ) (p : List ℕ) : Type 0 where
  pub vertices : length p ≡ vertex_count h
  pub blocks : All (λ b. b < k) p

-- the block of a vertex
abbrev pub block_of : List ℕ → ℕ → ℕ
block_of p v = slice_index p v

-- the sum of the weights at whose place the block is b
abbrev pub weight_in : List ℕ → List ℕ → ℕ → ℕ
weight_in [] p b = 0
weight_in (w ∷ ws) [] b = 0
weight_in (w ∷ ws) (x ∷ p) b = (if nat_eq x b then w else 0) + weight_in ws p b

-- the load of a block: the weight of its vertices
abbrev pub load : Hyper → List ℕ → ℕ → ℕ
load h p b = weight_in h.weights p b

-- a quotient, rounded up
abbrev pub divided_up : ℕ → ℕ → ℕ
divided_up a b = (a + (b - 1)) / b

-- the limit on a load: the even share, rounded up, and eps thousandths of it
abbrev pub limit : ℕ → ℕ → ℕ → ℕ
limit weight k eps = (1000 + eps) * divided_up weight k / 1000

-- no block is loaded past the limit
abbrev pub Fits : Hyper → ℕ → ℕ → List ℕ → Type 0
Fits h k l p = (b : ℕ) → b < k → load h p b ≤ l

abbrev pub is_fitting : Hyper → ℕ → ℕ → List ℕ → Bool
is_fitting h k l p = list_all (λ b. nat_le (load h p b) l) (range_with_len 0 k)

-- each vertex that isn't free is in the block to which it is fixed
abbrev pub Obeys : Hyper → List ℕ → Type 0
Obeys h p = (v : ℕ) → v < vertex_count h → fix_of h v ≢ FREE → block_of p v ≡ fix_of h v
