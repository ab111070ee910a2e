-- What least loaded placement means, said without its loop, and the laws that tie the two.
use Rattle.std.specs.Prelude.{◌≡◌, ◌≢◌, ◌⊎◌, ℕ, ◌+◌, ◌<◌, ◌≤◌, List, length, take, filter, slice_index}
use Rattle.std.specs.Prelude.{AllPairs, IsPermutation, if◌then◌else◌, nat_eq, Some, None}
use Rattle.hg_defs.specs.declared.objective.TheConstants.{FREE}
use Rattle.hg_defs.specs.Sums.{total}
use Rattle.hg_defs.specs.Hypergraph.{Hyper, IsHypergraph, IsFixedWithin, vertex_count, vertices, weight_of, fix_of, is_free, IsFree}
use Rattle.hg_defs.specs.Partition.{IsPartition, Obeys, Fits, block_of, load}
use Rattle.hg_defs.specs.LeastLoaded.{placed, unplaced, placing_order, least, least_loaded, heaviest_first, greedy, first_overfilling, overfills}

-- b is the first of the numbers below k at which f is least
pub record IsFirstLeast (f : ℕ → ℕ) (k b : ℕ) : Type 0 where
  pub below : b < k
  pub least : (c : ℕ) → c < k → f b ≤ f c
  pub first : (c : ℕ) → c < b → f b < f c

-- the weight that the listed vertices put into a block
abbrev pub weight_placed : Hyper → List ℕ → List ℕ → ℕ → ℕ
weight_placed h p vs b = total (λ v. if nat_eq (block_of p v) b then weight_of h v else 0) vs

-- the vertex at place i goes to the block of its fix or, where it is free, to the block in which those before it put the least weight
pub record IsPlacedAt (h : Hyper) (k : ℕ) (vs p : List ℕ) (i : ℕ) : Type 0 where
  pub fixed : fix_of h (slice_index vs i) ≢ FREE → block_of p (slice_index vs i) ≡ fix_of h (slice_index vs i)
  pub free : IsFree h (slice_index vs i) → IsFirstLeast (weight_placed h p (take i vs)) k (block_of p (slice_index vs i))

-- p places the listed vertices in turn
abbrev pub IsPlacedInTurn : Hyper → ℕ → List ℕ → List ℕ → Type 0
IsPlacedInTurn h k vs p = (i : ℕ) → i < length vs → IsPlacedAt h k vs p i

-- the vertex at place i takes its block past l, and none before it does
pub record IsFirstOverfilling (h : Hyper) (l : ℕ) (vs p : List ℕ) (i : ℕ) : Type 0 where
  pub within : i < length vs
  pub past : l < weight_placed h p (take (i + 1) vs) (block_of p (slice_index vs i))
  pub first : (j : ℕ) → j < i → weight_placed h p (take (j + 1) vs) (block_of p (slice_index vs j)) ≤ l

-- the list has each free vertex once
abbrev pub ListsFree : Hyper → List ℕ → Type 0
ListsFree h order = IsPermutation (filter (is_free h) (vertices h)) order

-- u comes before v: it is heavier, or as heavy and lower in number
abbrev pub GoesFirst : Hyper → ℕ → ℕ → Type 0
GoesFirst h u v = (weight_of h v < weight_of h u) ⊎ ((weight_of h u ≡ weight_of h v) × (u < v))

-- the premises of a placement
pub record IsPlaceable (h : Hyper) (k : ℕ) (order : List ℕ) : Type 0 where
  pub hypergraph : IsHypergraph h
  pub fixed : IsFixedWithin h k
  pub blocks : 0 < k
  pub listed : ListsFree h order

-- ---- the laws

-- in whatever order, each vertex gets a block below k, and each fixed one the block of its fix
abbrev pub LeastLoadedIsPartition : Type 0
LeastLoadedIsPartition = (h : Hyper) (k : ℕ) (order : List ℕ) → IsHypergraph h → IsFixedWithin h k → 0 < k → IsPartition h k (least_loaded h k order)

abbrev pub LeastLoadedObeys : Type 0
LeastLoadedObeys = (h : Hyper) (k : ℕ) (order : List ℕ) → IsHypergraph h → IsFixedWithin h k → 0 < k → Obeys h (least_loaded h k order)

-- the vertices are placed in turn, and no other partition places them so
abbrev pub LeastLoadedIsInTurn : Type 0
LeastLoadedIsInTurn = (h : Hyper) (k : ℕ) (order : List ℕ) → IsPlaceable h k order → IsPlacedInTurn h k (placing_order h order) (least_loaded h k order)

abbrev pub OnlyLeastLoadedIsInTurn : Type 0
OnlyLeastLoadedIsInTurn =
    (h : Hyper) (k : ℕ) (order p : List ℕ) → IsPlaceable h k order → length p ≡ vertex_count h
    → IsPlacedInTurn h k (placing_order h order) p → p ≡ least_loaded h k order

-- the least of a list is its first least element
abbrev pub LeastIsFirstLeast : Type 0
LeastIsFirstLeast = (xs : List ℕ) → 0 < length xs → IsFirstLeast (slice_index xs) (length xs) (least xs)

-- the loads kept while vertices are placed are the weights placed so far, and in the end the loads
abbrev pub LoadsAreKept : Type 0
LoadsAreKept =
    (h : Hyper) (k : ℕ) (order : List ℕ) (i b : ℕ) → IsPlaceable h k order → b < k
    → slice_index (placed h (unplaced h k) (take i (placing_order h order))).loads b
    ≡ weight_placed h (least_loaded h k order) (take i (placing_order h order)) b

abbrev pub AllWeightsArePlaced : Type 0
AllWeightsArePlaced =
    (h : Hyper) (k : ℕ) (order : List ℕ) (b : ℕ) → IsPlaceable h k order
    → weight_placed h (least_loaded h k order) (placing_order h order) b ≡ load h (least_loaded h k order) b

-- a vertex that overfills is the first whose placing takes its block past the limit
abbrev pub OverfillingIsFirst : Type 0
OverfillingIsFirst =
    (h : Hyper) (k l : ℕ) (order : List ℕ) (v : ℕ) → IsPlaceable h k order
    → first_overfilling h l (unplaced h k) (placing_order h order) ≡ Some v
    → (i : ℕ) × IsFirstOverfilling h l (placing_order h order) (least_loaded h k order) i × (v ≡ slice_index (placing_order h order) i)

-- where no vertex overfills the partition fits, and else it doesn't
abbrev pub NoneOverfillsWhereItFits : Type 0
NoneOverfillsWhereItFits =
    (h : Hyper) (k l : ℕ) (order : List ℕ) → IsPlaceable h k order
    → first_overfilling h l (unplaced h k) (placing_order h order) ≡ None → Fits h k l (least_loaded h k order)

abbrev pub OneOverfillsWhereItDoesNotFit : Type 0
OneOverfillsWhereItDoesNotFit =
    (h : Hyper) (k l : ℕ) (order : List ℕ) (v : ℕ) → IsPlaceable h k order
    → first_overfilling h l (unplaced h k) (placing_order h order) ≡ Some v → Fits h k l (least_loaded h k order) → ⊥

-- greedy placement takes each free vertex once, the heaviest first
abbrev pub HeaviestFirstListsFree : Type 0
HeaviestFirstListsFree = (h : Hyper) → ListsFree h (heaviest_first h)

abbrev pub HeaviestGoFirst : Type 0
HeaviestGoFirst = (h : Hyper) → AllPairs (GoesFirst h) (heaviest_first h)

-- so greedy placement has these laws too
abbrev pub GreedyIsPartition : Type 0
GreedyIsPartition = (h : Hyper) (k : ℕ) → IsHypergraph h → IsFixedWithin h k → 0 < k → IsPartition h k (greedy h k)

abbrev pub GreedyObeys : Type 0
GreedyObeys = (h : Hyper) (k : ℕ) → IsHypergraph h → IsFixedWithin h k → 0 < k → Obeys h (greedy h k)

abbrev pub GreedyFits : Type 0
GreedyFits = (h : Hyper) (k l : ℕ) → IsHypergraph h → IsFixedWithin h k → 0 < k → overfills h k l ≡ None → Fits h k l (greedy h k)

abbrev pub GreedyDoesNotFit : Type 0
GreedyDoesNotFit =
    (h : Hyper) (k l v : ℕ) → IsHypergraph h → IsFixedWithin h k → 0 < k → overfills h k l ≡ Some v → Fits h k l (greedy h k) → ⊥
