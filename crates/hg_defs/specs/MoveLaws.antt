-- What the best move of a vertex and a sweep are, said as relations, and the laws that tie the two.
use Rattle.std.specs.Prelude.{◌≡◌, ◌≢◌, ℕ, ◌+◌, ◌-◌, ◌*◌, ◌<◌, List, [], length, slice_index_or, ℤ, pos}
use Rattle.std.specs.Prelude.{◌-ℤ◌, ◌<ℤ◌, ◌≤ℤ◌, Some, None, if◌then◌else◌, nat_eq}
use Rattle.hg_defs.specs.declared.moves.Move.{Move}
use Rattle.hg_defs.specs.Sums.{total_z, sum_below}
use Rattle.hg_defs.specs.Incidence.{nets_of}
use Rattle.hg_defs.specs.Hypergraph.{Net, Hyper, IsHypergraph, vertex_count, net_count, net_of, weight_of}
use Rattle.hg_defs.specs.Partition.{IsPartition, Fits, Obeys, block_of, load}
use Rattle.hg_defs.specs.Cost.{connectivity, price, cost}
use Rattle.hg_defs.specs.Pins.{pins_in, present}
use Rattle.hg_defs.specs.Moves.{IsAllowed, IsSettled, moved, gain, best_block, sweep}
use Rattle.hg_defs.specs.Replay.{replay, replay_first}

-- the move of v to b is allowed and gains, no allowed move of v gains more, and none to a lower block gains as much
pub record IsBestBlock (h : Hyper) (k l : ℕ) (p : List ℕ) (v b : ℕ) : Type 0 where
  pub allowed : IsAllowed h k l p v b
  pub gains : pos 0 <ℤ gain h p v b
  pub highest : (c : ℕ) → IsAllowed h k l p v c → gain h p v c ≤ℤ gain h p v b
  pub lowest : (c : ℕ) → c < b → IsAllowed h k l p v c → gain h p v c <ℤ gain h p v b

-- move m takes its vertex to its best block, by worker 0, and is booked with its gain
pub record IsBestMove (h : Hyper) (k l : ℕ) (p : List ℕ) (m : Move) : Type 0 where
  pub best : IsBestBlock h k l p m.vertex m.to
  pub from : m.from ≡ block_of p m.vertex
  pub worker : m.worker ≡ 0
  pub booked : m.booked ≡ gain h p m.vertex m.to

-- each of the moves is allowed in its turn
abbrev pub AreAllowedInTurn : Hyper → ℕ → ℕ → List ℕ → List Move → Type 0
AreAllowedInTurn h k l p moves =
    (i : ℕ) (d : Move) → i < length moves
    → IsAllowed h k l (replay_first p moves i) (slice_index_or moves i d).vertex (slice_index_or moves i d).to

-- the connectivity of pins after one of them goes from block a to block b: one less where it was the last in a, one more where it is the first in b
abbrev pub connectivity_after : List ℕ → List ℕ → ℕ → ℕ → ℕ
connectivity_after p pins a b =
    (connectivity p pins + (if nat_eq (pins_in p pins b) 0 then 1 else 0)) - (if nat_eq (pins_in p pins a) 1 then 1 else 0)

-- what a net that holds v saves where v goes to b
abbrev pub net_gain : Hyper → List ℕ → ℕ → ℕ → Net → ℤ
net_gain h p v b e =
    pos (e.weight * price h.objective (connectivity p e.pins))
    -ℤ pos (e.weight * price h.objective (connectivity_after p e.pins (block_of p v) b))

-- ---- the laws

-- the best block of a vertex is one, no other block is, and where there is none no allowed move gains
abbrev pub BestBlockIsBest : Type 0
BestBlockIsBest =
    (h : Hyper) (k l : ℕ) (p : List ℕ) (v b : ℕ) → v < vertex_count h → best_block h l p v k ≡ Some b → IsBestBlock h k l p v b

abbrev pub OnlyBestBlockIsBest : Type 0
OnlyBestBlockIsBest = (h : Hyper) (k l : ℕ) (p : List ℕ) (v b : ℕ) → IsBestBlock h k l p v b → best_block h l p v k ≡ Some b

abbrev pub NoBestBlockGainsNothing : Type 0
NoBestBlockGainsNothing =
    (h : Hyper) (k l : ℕ) (p : List ℕ) (v b : ℕ) → best_block h l p v k ≡ None → IsAllowed h k l p v b → gain h p v b ≤ℤ pos 0

-- a sweep is empty exactly where the partition is settled
abbrev pub EmptySweepIsSettled : Type 0
EmptySweepIsSettled = (h : Hyper) (k l : ℕ) (p : List ℕ) → sweep h k l p ≡ [] → IsSettled h k l p

abbrev pub SettledSweepIsEmpty : Type 0
SettledSweepIsEmpty = (h : Hyper) (k l : ℕ) (p : List ℕ) → IsSettled h k l p → sweep h k l p ≡ []

-- each move of a sweep is the best of its vertex in its turn, and the vertices rise
abbrev pub SweepMakesBestMoves : Type 0
SweepMakesBestMoves =
    (h : Hyper) (k l : ℕ) (p : List ℕ) (i : ℕ) (d : Move) → i < length (sweep h k l p)
    → IsBestMove h k l (replay_first p (sweep h k l p) i) (slice_index_or (sweep h k l p) i d)

abbrev pub SweepRises : Type 0
SweepRises =
    (h : Hyper) (k l : ℕ) (p : List ℕ) (i j : ℕ) (d : Move) → i < j → j < length (sweep h k l p)
    → (slice_index_or (sweep h k l p) i d).vertex < (slice_index_or (sweep h k l p) j d).vertex

-- the booked gains of a sweep are what it saves
abbrev pub SweepSavesWhatItBooks : Type 0
SweepSavesWhatItBooks =
    (h : Hyper) (k l : ℕ) (p : List ℕ)
    → total_z (λ m. m.booked) (sweep h k l p) ≡ pos (cost h p) -ℤ pos (cost h (replay p (sweep h k l p)))

-- a sweep that isn't empty lowers the cost
abbrev pub SweepLowersCost : Type 0
SweepLowersCost = (h : Hyper) (k l : ℕ) (p : List ℕ) → 0 < length (sweep h k l p) → cost h (replay p (sweep h k l p)) < cost h p

-- its moves are allowed in turn
abbrev pub SweepIsAllowed : Type 0
SweepIsAllowed = (h : Hyper) (k l : ℕ) (p : List ℕ) → AreAllowedInTurn h k l p (sweep h k l p)

-- an allowed move leaves a partition that obeys the fixes, and fits where the one before it fits
abbrev pub AllowedMoveIsPartition : Type 0
AllowedMoveIsPartition =
    (h : Hyper) (k l : ℕ) (p : List ℕ) (v b : ℕ) → IsPartition h k p → IsAllowed h k l p v b → IsPartition h k (moved p v b)

abbrev pub AllowedMoveObeys : Type 0
AllowedMoveObeys = (h : Hyper) (k l : ℕ) (p : List ℕ) (v b : ℕ) → Obeys h p → IsAllowed h k l p v b → Obeys h (moved p v b)

abbrev pub AllowedMoveFits : Type 0
AllowedMoveFits =
    (h : Hyper) (k l : ℕ) (p : List ℕ) (v b : ℕ) → IsPartition h k p → Fits h k l p → IsAllowed h k l p v b → Fits h k l (moved p v b)

-- and so do moves that are allowed in turn
abbrev pub AllowedMovesArePartition : Type 0
AllowedMovesArePartition =
    (h : Hyper) (k l : ℕ) (p : List ℕ) (moves : List Move) → IsPartition h k p → AreAllowedInTurn h k l p moves → IsPartition h k (replay p moves)

abbrev pub AllowedMovesObey : Type 0
AllowedMovesObey =
    (h : Hyper) (k l : ℕ) (p : List ℕ) (moves : List Move) → Obeys h p → AreAllowedInTurn h k l p moves → Obeys h (replay p moves)

abbrev pub AllowedMovesFit : Type 0
AllowedMovesFit =
    (h : Hyper) (k l : ℕ) (p : List ℕ) (moves : List Move) → IsPartition h k p → Fits h k l p → AreAllowedInTurn h k l p moves
    → Fits h k l (replay p moves)

-- a move changes the loads of two blocks
abbrev pub MoveRaisesLoad : Type 0
MoveRaisesLoad =
    (h : Hyper) (p : List ℕ) (v b : ℕ) → length p ≡ vertex_count h → v < vertex_count h → b ≢ block_of p v
    → load h (moved p v b) b ≡ load h p b + weight_of h v

abbrev pub MoveLowersLoad : Type 0
MoveLowersLoad =
    (h : Hyper) (p : List ℕ) (v b : ℕ) → length p ≡ vertex_count h → v < vertex_count h → b ≢ block_of p v
    → load h (moved p v b) (block_of p v) + weight_of h v ≡ load h p (block_of p v)

abbrev pub MoveKeepsOtherLoads : Type 0
MoveKeepsOtherLoads =
    (h : Hyper) (p : List ℕ) (v b c : ℕ) → length p ≡ vertex_count h → v < vertex_count h → c ≢ block_of p v → c ≢ b
    → load h (moved p v b) c ≡ load h p c

-- the connectivity of a net is the number of blocks below k with a pin
abbrev pub ConnectivityCountsBlocks : Type 0
ConnectivityCountsBlocks =
    (h : Hyper) (k : ℕ) (p : List ℕ) (e : ℕ) → IsHypergraph h → IsPartition h k p → e < net_count h
    → connectivity p (net_of h e).pins ≡ sum_below (λ b. present (pins_in p (net_of h e).pins b)) k

-- a gain is the sum of what the nets of the vertex save
abbrev pub GainIsLocal : Type 0
GainIsLocal =
    (h : Hyper) (p : List ℕ) (v b : ℕ) → IsHypergraph h → length p ≡ vertex_count h → v < vertex_count h → b ≢ block_of p v
    → gain h p v b ≡ total_z (λ e. net_gain h p v b (net_of h e)) (nets_of h v)
