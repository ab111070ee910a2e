-- What the best prefix of a list of moves is, said as a relation, and the laws that tie the two.
use Rattle.std.specs.Prelude.{◌≡◌, ℕ, ◌<◌, ◌≢◌, ◌≤◌, List, length, All, AllPairs, pos, ◌-ℤ◌, Decides}
use Rattle.std.specs.List.{range_with_len}
use Rattle.hg_defs.specs.declared.moves.Move.{Move}
use Rattle.hg_defs.specs.Sums.{total_z}
use Rattle.hg_defs.specs.Hypergraph.{Hyper, IsFree}
use Rattle.hg_defs.specs.Partition.{IsPartition, Fits, Obeys, block_of, is_fitting}
use Rattle.hg_defs.specs.Cost.{cost}
use Rattle.hg_defs.specs.Replay.{replay, replay_first, replay_gain, undone, best_prefix}

-- the first j moves lead to a partition that fits, no prefix that fits is cheaper, and each shorter one that fits is dearer
pub record IsBestPrefix (h : Hyper) (k l : ℕ) (p : List ℕ) (moves : List Move) (j : ℕ) : Type 0 where
  pub within : j ≤ length moves
  pub fits : Fits h k l (replay_first p moves j)
  pub cheapest : (i : ℕ) → Fits h k l (replay_first p moves i) → cost h (replay_first p moves j) ≤ cost h (replay_first p moves i)
  pub shortest : (i : ℕ) → i < j → Fits h k l (replay_first p moves i) → cost h (replay_first p moves j) < cost h (replay_first p moves i)

-- ---- the laws

-- the test whether a partition fits
abbrev pub FittingIsTested : Type 0
FittingIsTested = (h : Hyper) (k l : ℕ) (p : List ℕ) → Decides (is_fitting h k l p) (Fits h k l p)

-- where the partition fits at first, the best prefix is one, and no other prefix is
abbrev pub BestPrefixIsBest : Type 0
BestPrefixIsBest = (h : Hyper) (k l : ℕ) (p : List ℕ) (moves : List Move) → Fits h k l p → IsBestPrefix h k l p moves (best_prefix h k l p moves)

abbrev pub OnlyBestPrefixIsBest : Type 0
OnlyBestPrefixIsBest =
    (h : Hyper) (k l : ℕ) (p : List ℕ) (moves : List Move) (j : ℕ) → Fits h k l p → IsBestPrefix h k l p moves j → j ≡ best_prefix h k l p moves

-- the gains of the first moves sum to the cost before them less the cost after them
abbrev pub GainsAddUp : Type 0
GainsAddUp =
    (h : Hyper) (p : List ℕ) (moves : List Move) (i : ℕ)
    → total_z (replay_gain h p moves) (range_with_len 0 i) ≡ pos (cost h p) -ℤ pos (cost h (replay_first p moves i))

-- moves to blocks below k leave a partition, and moves of free vertices keep the fixes
abbrev pub MovesLeavePartition : Type 0
MovesLeavePartition =
    (h : Hyper) (k : ℕ) (p : List ℕ) (moves : List Move) → IsPartition h k p → All (λ m. m.to < k) moves → IsPartition h k (replay p moves)

abbrev pub FreeMovesLeaveFixes : Type 0
FreeMovesLeaveFixes = (h : Hyper) (p : List ℕ) (moves : List Move) → Obeys h p → All (λ m. IsFree h m.vertex) moves → Obeys h (replay p moves)

-- moves of distinct vertices can be undone, and made again
abbrev pub MovesAreUndone : Type 0
MovesAreUndone =
    (p : List ℕ) (moves : List Move) → AllPairs (λ a b. a.vertex ≢ b.vertex) moves → All (λ m. m.vertex < length p) moves
    → All (λ m. m.from ≡ block_of p m.vertex) moves → undone (replay p moves) moves ≡ p

abbrev pub MovesAreRedone : Type 0
MovesAreRedone =
    (p : List ℕ) (moves : List Move) → AllPairs (λ a b. a.vertex ≢ b.vertex) moves → All (λ m. m.vertex < length p) moves
    → All (λ m. m.to ≡ block_of p m.vertex) moves → replay (undone p moves) moves ≡ p
