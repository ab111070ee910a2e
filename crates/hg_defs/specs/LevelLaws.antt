-- How levels follow one another, and what a partition carried up to them is.
use Rattle.std.specs.Prelude.{◌≡◌, ℕ, suc, ◌<◌, ◌≤◌, List, [], ◌∷◌, ◌++◌, length, slice_index_or}
use Rattle.hg_defs.specs.Hypergraph.{Hyper, vertex_count}
use Rattle.hg_defs.specs.Cost.{cost}
use Rattle.hg_defs.specs.Contraction.{contract, after}
use Rattle.hg_defs.specs.ContractionLaws.{IsContractible}
use Rattle.hg_defs.specs.Clustering.{cluster_count, IsWithinBlocks}
use Rattle.hg_defs.specs.Levels.{levels, level, coarsest, map_of, lifted, lifted_to, projected_from}

-- each of the first clusterings can be contracted
abbrev pub AreContractible : Hyper → List (List ℕ) → ℕ → Type 0
AreContractible h maps n =
    (i : ℕ) → i < n → IsContractible (level h maps i) (map_of maps i) (cluster_count (map_of maps i))

-- ---- the laws

-- there is one level more than clusterings, and each is the contraction of the one below it
abbrev pub LevelsAreOneMore : Type 0
LevelsAreOneMore = (h : Hyper) (maps : List (List ℕ)) → length (levels h maps) ≡ suc (length maps)

abbrev pub LevelsAreListed : Type 0
LevelsAreListed = (h g : Hyper) (maps : List (List ℕ)) (i : ℕ) → i ≤ length maps → slice_index_or (levels h maps) i g ≡ level h maps i

abbrev pub LevelIsContraction : Type 0
LevelIsContraction =
    (h : Hyper) (maps : List (List ℕ)) (i : ℕ) → i < length maps
    → level h maps (suc i) ≡ contract (level h maps i) (map_of maps i) (cluster_count (map_of maps i))

-- one clustering more adds a level and leaves the others
abbrev pub LevelsStay : Type 0
LevelsStay = (h : Hyper) (maps : List (List ℕ)) (clusters : List ℕ) (i : ℕ) → i ≤ length maps → level h (maps ++ clusters ∷ []) i ≡ level h maps i

abbrev pub LevelIsAdded : Type 0
LevelIsAdded =
    (h : Hyper) (maps : List (List ℕ)) (clusters : List ℕ)
    → coarsest h (maps ++ clusters ∷ []) ≡ contract (coarsest h maps) clusters (cluster_count clusters)

-- a partition that is the same on each cluster is the projection of the lifted one, and of no other
abbrev pub LiftedIsProjected : Type 0
LiftedIsProjected =
    (h : Hyper) (clusters : List ℕ) (count : ℕ) (p : List ℕ) → IsContractible h clusters count → length p ≡ vertex_count h → IsWithinBlocks h p clusters
    → after (lifted p clusters count) clusters ≡ p

abbrev pub OnlyLiftedIsProjected : Type 0
OnlyLiftedIsProjected =
    (h : Hyper) (clusters : List ℕ) (count : ℕ) (p q : List ℕ) → IsContractible h clusters count → length q ≡ count → after q clusters ≡ p
    → q ≡ lifted p clusters count

-- on each level stands the lifted partition of the level below
abbrev pub LiftedFollows : Type 0
LiftedFollows =
    (p : List ℕ) (maps : List (List ℕ)) (i : ℕ) → i < length maps
    → lifted_to p maps (suc i) ≡ lifted (lifted_to p maps i) (map_of maps i) (cluster_count (map_of maps i))

-- a partition of a level costs there what its projection costs on the first level
abbrev pub ProjectionKeepsCost : Type 0
ProjectionKeepsCost =
    (h : Hyper) (maps : List (List ℕ)) (i : ℕ) (p : List ℕ) → i ≤ length maps → AreContractible h maps i
    → cost h (projected_from p maps i) ≡ cost (level h maps i) p

-- the projection of a partition that was carried up is the partition itself, where each cluster lies in one block
abbrev pub LiftedIsProjectedBack : Type 0
LiftedIsProjectedBack =
    (h : Hyper) (maps : List (List ℕ)) (i : ℕ) (p : List ℕ) → i ≤ length maps → length p ≡ vertex_count h → AreContractible h maps i
    → ((j : ℕ) → j < i → IsWithinBlocks (level h maps j) (lifted_to p maps j) (map_of maps j)) → projected_from (lifted_to p maps i) maps i ≡ p
