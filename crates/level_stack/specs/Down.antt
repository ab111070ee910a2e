-- A descent over the levels of a stack: the level that it is on, and what it has left before it.
use Rattle.std.specs.Prelude.{◌≡◌, ℕ, ◌+◌, ◌<◌, ◌≤◌, List, length, slice_index_or}
use Rattle.hg_defs.specs.Hypergraph.{Hyper}
use Rattle.hg_defs.specs.Contraction.{IsFull, IsApart}
use Rattle.hg_defs.specs.Clustering.{cluster_count}
use Rattle.hg_defs.specs.Levels.{level, map_of}

-- the first level, the clusterings that lead from each level to the next, and the number of the level that the descent is on
pub record Down : Type 0 where
  pub base : Hyper
  pub maps : List (List ℕ)
  pub number : ℕ

-- the levels up to that of the descent are kept; each clustering leads up
pub record IsDown (base : Hyper) (maps : List (List ℕ)) (kept : List Hyper) : Type 0 where
  pub within : length kept ≤ length maps + 1
  pub at : (i : ℕ) (h : Hyper) → i < length kept → slice_index_or kept i h ≡ level base maps i
  pub full : (i : ℕ) → i < length maps → IsFull (level base maps i) (map_of maps i) (cluster_count (map_of maps i))
  pub apart : (i : ℕ) → i < length maps → IsApart (level base maps i) (map_of maps i)
