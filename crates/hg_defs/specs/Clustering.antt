-- Clusterings: maps whose clusters are light enough, and those to which no pair of single vertices can be added.
use Rattle.std.specs.Prelude.{◌≡◌, ◌≢◌, ℕ, suc, ◌+◌, ◌-◌, ◌*◌, ◌<◌, ◌≤◌, List, [], ◌∷◌, length, All, Contains}
use Rattle.std.specs.Prelude.{max, slice_index, Bool, not, ◌&&◌, ◌||◌, nat_eq, nat_le}
use Rattle.std.specs.List.{list_all}
use Rattle.hg_defs.specs.Hypergraph.{Net, Hyper, vertex_count, vertices, weight_of, is_free, IsFree}
use Rattle.hg_defs.specs.Partition.{block_of, weight_in, divided_up}
use Rattle.hg_defs.specs.Contraction.{IsFull}

-- one more than the largest number of a map: the count of clusters of a full one
abbrev pub cluster_count : List ℕ → ℕ
cluster_count [] = 0
cluster_count (c ∷ clusters) = max (suc c) (cluster_count clusters)

-- the weight of the cluster of a vertex
abbrev pub cluster_weight : Hyper → List ℕ → ℕ → ℕ
cluster_weight h clusters v = weight_in h.weights clusters (slice_index clusters v)

-- two vertices of one cluster
pub record AreTogether (h : Hyper) (clusters : List ℕ) (u v : ℕ) : Type 0 where
  pub first : u < vertex_count h
  pub second : v < vertex_count h
  pub different : u ≢ v
  pub cluster : slice_index clusters u ≡ slice_index clusters v

-- a full map; a cluster of two vertices or more weighs at most the cap, and has free vertices alone
pub record IsClustering (h : Hyper) (cap : ℕ) (clusters : List ℕ) : Type 0 where
  pub full : IsFull h clusters (cluster_count clusters)
  pub capped : (u v : ℕ) → AreTogether h clusters u v → cluster_weight h clusters u ≤ cap
  pub free : (u v : ℕ) → AreTogether h clusters u v → IsFree h u

-- a free vertex that is alone in its cluster
pub record IsSingleton (h : Hyper) (clusters : List ℕ) (v : ℕ) : Type 0 where
  pub vertex : v < vertex_count h
  pub free : IsFree h v
  pub alone : (u : ℕ) → u < vertex_count h → slice_index clusters u ≡ slice_index clusters v → u ≡ v

-- the test for it
abbrev pub is_single : Hyper → List ℕ → ℕ → Bool
is_single h clusters v =
    is_free h v && list_all (λ u. nat_eq u v || not (nat_eq (slice_index clusters u) (slice_index clusters v))) (vertices h)

-- whether a net has at most 1,000 pins: larger ones aren't looked at by clusterings
abbrev pub is_small : Net → Bool
is_small e = nat_le (length e.pins) 1000

-- two different singletons on one net of at most 1,000 pins
pub record AreNeighbours (h : Hyper) (clusters : List ℕ) (e : Net) (u v : ℕ) : Type 0 where
  pub small : length e.pins ≤ 1000
  pub first_pin : Contains e.pins u
  pub second_pin : Contains e.pins v
  pub different : u ≢ v
  pub first : IsSingleton h clusters u
  pub second : IsSingleton h clusters v

-- no two neighbouring singletons are light enough to be joined
abbrev pub IsMaximal : Hyper → ℕ → List ℕ → Type 0
IsMaximal h cap clusters =
    All (λ e. (u v : ℕ) → AreNeighbours h clusters e u v → cap < weight_of h u + weight_of h v) h.nets

-- no two neighbouring singletons of one block of a partition are
abbrev pub IsMaximalInside : Hyper → ℕ → List ℕ → List ℕ → Type 0
IsMaximalInside h cap p clusters =
    All
    (λ e. (u v : ℕ) → AreNeighbours h clusters e u v → block_of p u ≡ block_of p v → cap < weight_of h u + weight_of h v)
    h.nets

-- no cluster has vertices of two blocks of a partition
abbrev pub IsWithinBlocks : Hyper → List ℕ → List ℕ → Type 0
IsWithinBlocks h p clusters = (u v : ℕ) → AreTogether h clusters u v → block_of p u ≡ block_of p v

-- a clustering inside the blocks of a partition, to which no pair of single vertices of one block can be added
pub record IsInside (h : Hyper) (cap : ℕ) (p clusters : List ℕ) : Type 0 where
  pub clustering : IsClustering h cap clusters
  pub blocks : IsWithinBlocks h p clusters
  pub maximal : IsMaximalInside h cap p clusters

-- the heaviest that a cluster may be: an eighth of an even share, rounded up, and at least 1
abbrev pub cluster_cap : ℕ → ℕ → ℕ
cluster_cap weight k = max 1 (divided_up weight (8 * k))

-- the clustering removes at least a twentieth of the vertices
abbrev pub Shrinks : Hyper → List ℕ → Type 0
Shrinks h clusters = vertex_count h ≤ 20 * (vertex_count h - cluster_count clusters)
