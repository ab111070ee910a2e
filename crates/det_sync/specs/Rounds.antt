-- What a synchronous round and the rounds of a level leave in the log.
use Rattle.std.specs.Prelude.{◌≡◌, ℕ, ◌^◌, ◌<◌, ◌≤◌, List, [], ◌∷◌, ◌++◌, length, take, slice_index_or, ℤ, pos, ◌≤ℤ◌, ◌<ℤ◌}
use Rattle.hg_defs.specs.declared.moves.Move.{Move}
use Rattle.hg_defs.specs.Sums.{total_z}
use Rattle.hg_defs.specs.Hypergraph.{Hyper}
use Rattle.round_log.specs.declared.record.LoggedRound.{LoggedRound}
use Rattle.round_log.specs.Deterministic.{IsSyncRound, IsSynced}

-- a number that may be a cost
abbrev pub StaysCost : ℤ → Type 0
StaysCost z = (pos 0 ≤ℤ z) × (z <ℤ pos (2 ^ 57))

-- a move before its gain is known
abbrev pub unbooked : Move → Move
unbooked m = record m { booked = pos 0 }

-- the moves, each booked with its gain
pub record AreBooked (moves : List Move) (gains : List ℤ) (booked : List Move) : Type 0 where
  pub size : length booked ≡ length moves
  pub each : (i : ℕ) (d : Move) → i < length moves → slice_index_or booked i d ≡ record (slice_index_or moves i d) { booked = slice_index_or gains i (pos 0) }

-- what the first moves book together
abbrev pub saved_first : List Move → ℕ → ℤ
saved_first moves i = total_z (λ m. m.booked) (take i moves)

-- the first j moves save most among the prefixes of up to i moves, and no shorter prefix saves as much
pub record IsMostSaved (moves : List Move) (i j : ℕ) : Type 0 where
  pub within : j ≤ i
  pub most : (x : ℕ) → x ≤ i → saved_first moves x ≤ℤ saved_first moves j
  pub shortest : (x : ℕ) → x < j → saved_first moves x <ℤ saved_first moves j

-- the log gained the synchronous round of p, on the level of a number
pub record LogsSync (h : Hyper) (k l workers number : ℕ) (p : List ℕ) (old new : List LoggedRound) : Type 0 where
  pub round : LoggedRound
  pub log : new ≡ old ++ round ∷ []
  pub level : round.level ≡ number
  pub sync : IsSyncRound h k l workers p round

-- the log gained the synchronous rounds of the level of a number, which lead from p to q
pub record LogsSynced (h : Hyper) (k l workers number : ℕ) (p q : List ℕ) (old new : List LoggedRound) : Type 0 where
  pub rounds : List LoggedRound
  pub log : new ≡ old ++ rounds
  pub synced : IsSynced k l workers number h p rounds q
