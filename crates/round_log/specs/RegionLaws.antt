-- What the pairs of blocks, the nets and the region of a pair are, said without their loops, and the laws that tie the two.
use Rattle.std.specs.Prelude.{◌≡◌, ◌⊎◌, ◌↔◌, ℕ, ◌+◌, ◌-◌, ◌*◌, ◌<◌, ◌≤◌, List, [], ◌∷◌, ◌++◌, length, All}
use Rattle.std.specs.Prelude.{AllPairs, Contains, nat_le, if◌then◌else◌, Decides}
use Rattle.std.specs.List.Sorted.{IsStrictlyIncreasing}
use Rattle.hg_defs.specs.Sums.{total}
use Rattle.hg_defs.specs.Hypergraph.{Net, Hyper, weight_of, IsFree}
use Rattle.hg_defs.specs.Partition.{IsPartition, Fits, Obeys, block_of, load}
use Rattle.round_log.specs.Rounds.{touching, is_near, is_next, taken, side, region, IsAssignment}
use Rattle.round_log.specs.Passes.{block_pairs}

-- some pin of the net lies in the block
abbrev pub HasPin : List ℕ → Net → ℕ → Type 0
HasPin p e b = (v : ℕ) × Contains e.pins v × (block_of p v ≡ b)

-- a free vertex of block a on a net with pins in a and in b
pub record IsNear (h : Hyper) (p : List ℕ) (a b v : ℕ) : Type 0 where
  pub free : IsFree h v
  pub block : block_of p v ≡ a
  pub net : (e : Net) × Contains h.nets e × Contains e.pins v × HasPin p e a × HasPin p e b

-- another free vertex of a, on a net of at most 1,000 pins that holds a near vertex of a
pub record IsNext (h : Hyper) (p : List ℕ) (a b v : ℕ) : Type 0 where
  pub free : IsFree h v
  pub block : block_of p v ≡ a
  pub other : IsNear h p a b v → ⊥
  pub net : (e : Net) × Contains h.nets e × (length e.pins ≤ 1000) × Contains e.pins v × ((u : ℕ) × Contains e.pins u × IsNear h p a b u)

-- ---- the laws

-- the pairs of blocks are those of different blocks below k, the lower one first; they rise, so each stands once
abbrev pub PairsAreOfBlocks : Type 0
PairsAreOfBlocks = (k : ℕ) (pair : ℕ × ℕ) → Contains (block_pairs k) pair ↔ ((pair.0 < pair.1) × (pair.1 < k))

abbrev pub PairsRise : Type 0
PairsRise = (k : ℕ) → AllPairs (λ a b. (a.0 < b.0) ⊎ ((a.0 ≡ b.0) × (a.1 < b.1))) (block_pairs k)

abbrev pub PairsAreHalf : Type 0
PairsAreHalf = (k : ℕ) → 2 * length (block_pairs k) ≡ k * (k - 1)

-- the nets of a pair are those with pins in both blocks
abbrev pub TouchingHasBoth : Type 0
TouchingHasBoth =
    (h : Hyper) (p : List ℕ) (a b : ℕ) (e : Net) → Contains (touching h p a b) e ↔ (Contains h.nets e × HasPin p e a × HasPin p e b)

-- the tests of the two ranks
abbrev pub NearIsTold : Type 0
NearIsTold = (h : Hyper) (p : List ℕ) (a b v : ℕ) → Decides (is_near h p a b v) (IsNear h p a b v)

abbrev pub NextIsTold : Type 0
NextIsTold = (h : Hyper) (p : List ℕ) (a b v : ℕ) → Decides (is_next h p a b v) (IsNext h p a b v)

-- a vertex is taken where its weight and what was taken before it are within the room
abbrev pub TakesWhileRoom : Type 0
TakesWhileRoom =
    (h : Hyper) (room : ℕ) (vs : List ℕ) (v : ℕ)
    → taken h room (vs ++ v ∷ [])
    ≡ taken h room vs ++ (if nat_le (total (weight_of h) (taken h room vs) + weight_of h v) room then v ∷ [] else [])

-- so what a side may send fits into the other block
abbrev pub SideFits : Type 0
SideFits = (h : Hyper) (l : ℕ) (p : List ℕ) (a b : ℕ) → total (weight_of h) (side h l p a b) ≤ l - load h p b

-- a side has near and next vertices of its block alone, and the region has those of both sides, in rising order
abbrev pub SideIsRanked : Type 0
SideIsRanked = (h : Hyper) (l : ℕ) (p : List ℕ) (a b : ℕ) → All (λ v. IsNear h p a b v ⊎ IsNext h p a b v) (side h l p a b)

abbrev pub RegionHasSides : Type 0
RegionHasSides =
    (h : Hyper) (l : ℕ) (p : List ℕ) (a b v : ℕ) → Contains (region h l p a b) v ↔ (Contains (side h l p a b) v ⊎ Contains (side h l p b a) v)

abbrev pub RegionRises : Type 0
RegionRises = (h : Hyper) (l : ℕ) (p : List ℕ) (a b : ℕ) → IsStrictlyIncreasing (region h l p a b)

-- every assignment of a region is a partition that obeys the fixes, and fits where the partition fits
abbrev pub AssignmentIsPartition : Type 0
AssignmentIsPartition =
    (h : Hyper) (k l : ℕ) (p : List ℕ) (a b : ℕ) (q : List ℕ) → a < k → b < k → IsPartition h k p → IsAssignment p a b (region h l p a b) q
    → IsPartition h k q

abbrev pub AssignmentObeys : Type 0
AssignmentObeys =
    (h : Hyper) (l : ℕ) (p : List ℕ) (a b : ℕ) (q : List ℕ) → Obeys h p → IsAssignment p a b (region h l p a b) q → Obeys h q

abbrev pub AssignmentFits : Type 0
AssignmentFits =
    (h : Hyper) (k l : ℕ) (p : List ℕ) (a b : ℕ) (q : List ℕ) → a < k → b < k → IsPartition h k p → Fits h k l p
    → IsAssignment p a b (region h l p a b) q → Fits h k l q
