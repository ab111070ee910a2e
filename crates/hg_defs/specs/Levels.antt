-- Levels: the hypergraphs that a list of clusterings leads to, and a partition of the first carried up to them.
use Rattle.std.specs.Prelude.{ℕ, zero, suc, List, [], ◌∷◌, length, map, slice_index_or, nat_eq, if◌then◌else◌}
use Rattle.std.specs.List.{range_with_len}
use Rattle.hg_defs.specs.Hypergraph.{Hyper}
use Rattle.hg_defs.specs.Contraction.{contract, after}
use Rattle.hg_defs.specs.Clustering.{cluster_count}

-- the clustering of the level of a number
abbrev pub map_of : List (List ℕ) → ℕ → List ℕ
map_of maps i = slice_index_or maps i []

-- the hypergraphs that a list of clusterings leads to, the first one included
abbrev pub levels : Hyper → List (List ℕ) → List Hyper
levels h [] = h ∷ []
levels h (clusters ∷ maps) = h ∷ levels (contract h clusters (cluster_count clusters)) maps

-- the level of a number, and the coarsest one
abbrev pub level : Hyper → List (List ℕ) → ℕ → Hyper
level h maps zero = h
level h [] (suc i) = h
level h (clusters ∷ maps) (suc i) = level (contract h clusters (cluster_count clusters)) maps i

abbrev pub coarsest : Hyper → List (List ℕ) → Hyper
coarsest h maps = level h maps (length maps)

-- the block of the first vertex of a cluster
abbrev pub cluster_block : List ℕ → List ℕ → ℕ → ℕ
cluster_block [] clusters i = 0
cluster_block (b ∷ p) [] i = 0
cluster_block (b ∷ p) (c ∷ clusters) i = let later = cluster_block p clusters i in if nat_eq c i then b else later

-- the partition of the clusters that gives each one the block of its first vertex
abbrev pub lifted : List ℕ → List ℕ → ℕ → List ℕ
lifted p clusters count = map (cluster_block p clusters) (range_with_len 0 count)

-- a partition of the first level, carried up to the level of a number
abbrev pub lifted_to : List ℕ → List (List ℕ) → ℕ → List ℕ
lifted_to p maps zero = p
lifted_to p [] (suc i) = p
lifted_to p (clusters ∷ maps) (suc i) = lifted_to (lifted p clusters (cluster_count clusters)) maps i

-- a partition of the level of a number, projected down to the first level
abbrev pub projected_from : List ℕ → List (List ℕ) → ℕ → List ℕ
projected_from p maps zero = p
projected_from p maps (suc i) = projected_from (after p (map_of maps i)) maps i
