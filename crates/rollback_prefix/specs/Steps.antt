-- Lists of moves that a partition may be replayed through, or that lead to it.
use Rattle.std.specs.Prelude.{◌≡◌, ◌≢◌, ℕ, ◌<◌, List, length, All, AllPairs, slice_index_or, ℤ, pos}
use Rattle.hg_defs.specs.declared.moves.Move.{Move}
use Rattle.hg_defs.specs.Hypergraph.{Hyper, vertex_count}
use Rattle.hg_defs.specs.Partition.{block_of}
use Rattle.hg_defs.specs.Replay.{replay_gain}

-- the move that takes the vertex back
abbrev pub turned : Move → Move
turned m = record { vertex = m.vertex; from = m.to; to = m.from; worker = m.worker; booked = m.booked }

-- the move takes its vertex from its block in p to a block below k
pub record Starts (h : Hyper) (k : ℕ) (p : List ℕ) (m : Move) : Type 0 where
  pub vertex : m.vertex < vertex_count h
  pub from : m.from ≡ block_of p m.vertex
  pub to : m.to < k

-- different vertices move, each from its block in p
pub record StartFrom (h : Hyper) (k : ℕ) (p : List ℕ) (moves : List Move) : Type 0 where
  pub once : AllPairs (λ a b. a.vertex ≢ b.vertex) moves
  pub each : All (Starts h k p) moves

-- the move took its vertex from a block below k to its block in p
pub record Ends (h : Hyper) (k : ℕ) (p : List ℕ) (m : Move) : Type 0 where
  pub vertex : m.vertex < vertex_count h
  pub from : m.from < k
  pub to : m.to < k
  pub stands : m.to ≡ block_of p m.vertex

-- different vertices moved, and p stands after all the moves
pub record EndAt (h : Hyper) (k : ℕ) (p : List ℕ) (moves : List Move) : Type 0 where
  pub once : AllPairs (λ a b. a.vertex ≢ b.vertex) moves
  pub each : All (Ends h k p) moves

-- entry i is the cost before move i less the cost after it, as the moves are replayed
pub record AreReplayGains (h : Hyper) (p : List ℕ) (moves : List Move) (gains : List ℤ) : Type 0 where
  pub size : length gains ≡ length moves
  pub each : (i : ℕ) → i < length moves → slice_index_or gains i (pos 0) ≡ replay_gain h p moves i
