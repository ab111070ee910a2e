-- Clusterings by roots: each vertex names a vertex of its cluster, and the clusters are numbered by rising root.
use Rattle.std.specs.Prelude.{◌≡◌, ℕ, ◌<◌, ◌≤◌, List, length, map, filter, slice_index, nat_lt}
use Rattle.std.specs.Ordering.{nat_cmp}
use Rattle.hg_defs.specs.Sorting.{set_of}
use Rattle.hg_defs.specs.Hypergraph.{Hyper, vertex_count, IsFree}
use Rattle.hg_defs.specs.Clustering.{AreTogether, cluster_weight}

-- each vertex has a root, which is its own root; a cluster of two vertices or more weighs at most the cap, and has free vertices alone
pub record IsRooted (h : Hyper) (cap : ℕ) (roots : List ℕ) : Type 0 where
  pub vertices : length roots ≡ vertex_count h
  pub below : (v : ℕ) → v < vertex_count h → slice_index roots v < vertex_count h
  pub own : (v : ℕ) → v < vertex_count h → slice_index roots (slice_index roots v) ≡ slice_index roots v
  pub capped : (u v : ℕ) → AreTogether h roots u v → cluster_weight h roots u ≤ cap
  pub free : (u v : ℕ) → AreTogether h roots u v → IsFree h u

-- the number of a root: how many other roots are lower
abbrev pub root_number : List ℕ → ℕ → ℕ
root_number roots r = length (filter (λ q. nat_lt q r) (set_of nat_cmp roots))

-- the clustering that numbers the clusters by rising root
abbrev pub numbered : List ℕ → List ℕ
numbered roots = map (root_number roots) roots
