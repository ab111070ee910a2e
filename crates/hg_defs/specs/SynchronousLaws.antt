-- What a synchronous round does: the laws over wishes, over the moves that grant them, and over the partition kept.
use Rattle.std.specs.Prelude.{◌≡◌, ◌≢◌, ◌⊎◌, ◌↔◌, ℕ, ◌<◌, ◌≤◌, List, [], length, slice_index_or, All, AllPairs, Contains, pos, ◌-ℤ◌, ◌<ℤ◌}
use Rattle.hg_defs.specs.declared.moves.Move.{Move}
use Rattle.hg_defs.specs.Sums.{total_z}
use Rattle.hg_defs.specs.Hypergraph.{Hyper, vertex_count}
use Rattle.hg_defs.specs.Partition.{IsPartition, Fits, Obeys, block_of}
use Rattle.hg_defs.specs.Cost.{cost}
use Rattle.hg_defs.specs.Moves.{IsSettled, gain}
use Rattle.hg_defs.specs.MoveLaws.{IsBestBlock, AreAllowedInTurn}
use Rattle.hg_defs.specs.Replay.{replay, replay_first}
use Rattle.hg_defs.specs.Synchronous.{wish, saving, wishing, sync_moves, sync}

-- u comes before v: it would save more, or as much and its number is lower
abbrev pub SavesFirst : Hyper → ℕ → ℕ → List ℕ → ℕ → ℕ → Type 0
SavesFirst h k l p u v =
    (saving h p v (wish h k l p v) < saving h p u (wish h k l p u))
    ⊎ ((saving h p u (wish h k l p u) ≡ saving h p v (wish h k l p v)) × (u < v))

-- a move as it is booked in its turn, by worker 0
pub record IsBookedInTurn (h : Hyper) (p : List ℕ) (m : Move) : Type 0 where
  pub from : m.from ≡ block_of p m.vertex
  pub worker : m.worker ≡ 0
  pub booked : m.booked ≡ gain h p m.vertex m.to

-- ---- the laws

-- a vertex has a wish where it has a best move, and the wishes come by what they would save
abbrev pub WishesAreBestMoves : Type 0
WishesAreBestMoves =
    (h : Hyper) (k l : ℕ) (p : List ℕ) (v : ℕ) → Contains (wishing h k l p) v ↔ ((v < vertex_count h) × ((b : ℕ) × IsBestBlock h k l p v b))

abbrev pub WishesComeBySaving : Type 0
WishesComeBySaving = (h : Hyper) (k l : ℕ) (p : List ℕ) → AllPairs (SavesFirst h k l p) (wishing h k l p)

-- each move grants the wish that its vertex had at the beginning, once, and is allowed and booked in its turn
abbrev pub SyncMovesAreWishes : Type 0
SyncMovesAreWishes = (h : Hyper) (k l : ℕ) (p : List ℕ) → All (λ m. IsBestBlock h k l p m.vertex m.to) (sync_moves h k l p)

abbrev pub SyncMovesAreOfDistinct : Type 0
SyncMovesAreOfDistinct = (h : Hyper) (k l : ℕ) (p : List ℕ) → AllPairs (λ a b. a.vertex ≢ b.vertex) (sync_moves h k l p)

abbrev pub SyncMovesAreAllowed : Type 0
SyncMovesAreAllowed = (h : Hyper) (k l : ℕ) (p : List ℕ) → AreAllowedInTurn h k l p (sync_moves h k l p)

abbrev pub SyncMovesAreBooked : Type 0
SyncMovesAreBooked =
    (h : Hyper) (k l : ℕ) (p : List ℕ) (i : ℕ) (d : Move) → i < length (sync_moves h k l p)
    → IsBookedInTurn h (replay_first p (sync_moves h k l p) i) (slice_index_or (sync_moves h k l p) i d)

-- each goes from the block that its vertex had at the beginning
abbrev pub SyncMovesComeFrom : Type 0
SyncMovesComeFrom = (h : Hyper) (k l : ℕ) (p : List ℕ) → All (λ m. m.from ≡ block_of p m.vertex) (sync_moves h k l p)

-- what they book together is what they save together
abbrev pub SyncMovesSaveWhatTheyBook : Type 0
SyncMovesSaveWhatTheyBook =
    (h : Hyper) (k l : ℕ) (p : List ℕ)
    → total_z (λ m. m.booked) (sync_moves h k l p) ≡ pos (cost h p) -ℤ pos (cost h (replay p (sync_moves h k l p)))

-- there is a move exactly where the partition isn't settled, and the first one gains
abbrev pub SettledSyncMovesNothing : Type 0
SettledSyncMovesNothing = (h : Hyper) (k l : ℕ) (p : List ℕ) → IsSettled h k l p → sync_moves h k l p ≡ []

abbrev pub UnsettledSyncMoves : Type 0
UnsettledSyncMoves =
    (h : Hyper) (k l : ℕ) (p : List ℕ) (d : Move) → (IsSettled h k l p → ⊥)
    → (0 < length (sync_moves h k l p)) × (pos 0 <ℤ (slice_index_or (sync_moves h k l p) 0 d).booked)

-- a synchronous round lowers the cost where the partition isn't settled, and leaves it as it is where it is
abbrev pub UnsettledSyncLowersCost : Type 0
UnsettledSyncLowersCost =
    (h : Hyper) (k l : ℕ) (p : List ℕ) → IsPartition h k p → Fits h k l p → (IsSettled h k l p → ⊥) → cost h (sync h k l p) < cost h p

abbrev pub SettledSyncIsSame : Type 0
SettledSyncIsSame = (h : Hyper) (k l : ℕ) (p : List ℕ) → IsSettled h k l p → sync h k l p ≡ p

abbrev pub SyncRaisesNoCost : Type 0
SyncRaisesNoCost = (h : Hyper) (k l : ℕ) (p : List ℕ) → Fits h k l p → cost h (sync h k l p) ≤ cost h p

-- it leaves a partition that obeys the fixes and fits
abbrev pub SyncLeavesPartition : Type 0
SyncLeavesPartition = (h : Hyper) (k l : ℕ) (p : List ℕ) → IsPartition h k p → IsPartition h k (sync h k l p)

abbrev pub SyncLeavesFixes : Type 0
SyncLeavesFixes = (h : Hyper) (k l : ℕ) (p : List ℕ) → Obeys h p → Obeys h (sync h k l p)

abbrev pub SyncStaysWithinLimit : Type 0
SyncStaysWithinLimit = (h : Hyper) (k l : ℕ) (p : List ℕ) → Fits h k l p → Fits h k l (sync h k l p)
