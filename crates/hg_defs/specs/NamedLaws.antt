-- What the named placements are, and which of them is the first of the cheapest that fit.
use Rattle.std.specs.Prelude.{◌≡◌, ℕ, ◌<◌, ◌≤◌, List, [], length, slice_index_or, All, Some, None}
use Rattle.hg_defs.specs.Hypergraph.{Hyper, IsHypergraph, IsFixedWithin}
use Rattle.hg_defs.specs.Partition.{IsPartition, Fits, Obeys}
use Rattle.hg_defs.specs.Cost.{cost}
use Rattle.hg_defs.specs.LeastLoaded.{overfills}
use Rattle.hg_defs.specs.Placement.{named, first_cheapest, named_best}

-- the partition of a place
abbrev pub partition_at : List (List ℕ) → ℕ → List ℕ
partition_at ps i = slice_index_or ps i []

-- the partition at place i fits, none that fits is cheaper, and each before it that fits is dearer
pub record IsCheapestAt (h : Hyper) (k l : ℕ) (ps : List (List ℕ)) (i : ℕ) : Type 0 where
  pub within : i < length ps
  pub fits : Fits h k l (partition_at ps i)
  pub cheapest : (j : ℕ) → j < length ps → Fits h k l (partition_at ps j) → cost h (partition_at ps i) ≤ cost h (partition_at ps j)
  pub first : (j : ℕ) → j < i → Fits h k l (partition_at ps j) → cost h (partition_at ps i) < cost h (partition_at ps j)

-- ---- the laws

-- what is found is the first of the cheapest that fit, nothing else is, and nothing is found where none fits
abbrev pub CheapestIsFirst : Type 0
CheapestIsFirst =
    (h : Hyper) (k l : ℕ) (ps : List (List ℕ)) (p : List ℕ) → first_cheapest h k l ps ≡ Some p
    → (i : ℕ) × IsCheapestAt h k l ps i × (p ≡ partition_at ps i)

abbrev pub OnlyCheapestIsFirst : Type 0
OnlyCheapestIsFirst =
    (h : Hyper) (k l : ℕ) (ps : List (List ℕ)) (i : ℕ) → IsCheapestAt h k l ps i → first_cheapest h k l ps ≡ Some (partition_at ps i)

abbrev pub NoneIsCheapestWhereNoneFits : Type 0
NoneIsCheapestWhereNoneFits =
    (h : Hyper) (k l : ℕ) (ps : List (List ℕ)) → first_cheapest h k l ps ≡ None → All (λ p. Fits h k l p → ⊥) ps

-- each named placement is a partition that obeys the fixes
abbrev pub NamedArePartitions : Type 0
NamedArePartitions = (h : Hyper) (k seed : ℕ) → IsHypergraph h → IsFixedWithin h k → 0 < k → All (IsPartition h k) (named h k seed)

abbrev pub NamedObey : Type 0
NamedObey = (h : Hyper) (k seed : ℕ) → IsHypergraph h → IsFixedWithin h k → 0 < k → All (Obeys h) (named h k seed)

-- one fits where greedy placement overfills no block
abbrev pub OneFitsWhereGreedyDoes : Type 0
OneFitsWhereGreedyDoes =
    (h : Hyper) (k l seed : ℕ) → IsHypergraph h → IsFixedWithin h k → 0 < k → overfills h k l ≡ None → named_best h k l seed ≡ None → ⊥
