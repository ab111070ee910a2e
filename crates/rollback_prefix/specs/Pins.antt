-- The pins of one net while moves are replayed: how many lie in each block, and which moves move one of them.
use Rattle.std.specs.Prelude.{◌≡◌, ℕ, ◌+◌, ◌-◌, ◌<◌, List, length, All, Contains, slice_index, slice_index_or, slice_set}
use Rattle.std.specs.List.Sorted.{IsStrictlyIncreasing}
use Rattle.hg_defs.specs.declared.moves.Move.{Move}
use Rattle.hg_defs.specs.Sums.{sum_below}
use Rattle.hg_defs.specs.Pins.{pins_in, present}

-- nothing is counted
abbrev pub AreZeros : List ℕ → Type 0
AreZeros counts = (b : ℕ) → b < length counts → slice_index counts b ≡ 0

-- the pins in each of k blocks are counted
pub record CountsPins (k : ℕ) (p pins counts : List ℕ) : Type 0 where
  pub blocks : length counts ≡ k
  pub each : (b : ℕ) → b < k → slice_index counts b ≡ pins_in p pins b

-- how many of the counts aren't 0
abbrev pub counted : List ℕ → ℕ
counted counts = sum_below (λ b. present (slice_index counts b)) (length counts)

-- the counts after a pin went from one block to another one
abbrev pub counts_after : List ℕ → ℕ → ℕ → List ℕ
counts_after counts from to =
    let more = slice_set counts to (slice_index counts to + 1) in
    slice_set more from (slice_index more from - 1)

-- the places that stand, raised by one, at the pins
pub record ArePlacesAt (pins order places : List ℕ) : Type 0 where
  pub rising : IsStrictlyIncreasing places
  pub each : (i : ℕ) → Contains places i → (v : ℕ) × Contains pins v × (slice_index order v ≡ i + 1)
  pub all : (v i : ℕ) → Contains pins v → slice_index order v ≡ i + 1 → Contains places i

-- the places of the moves that move a pin, in rising order
pub record ArePinMoves (pins : List ℕ) (moves : List Move) (places : List ℕ) : Type 0 where
  pub rising : IsStrictlyIncreasing places
  pub within : All (λ i. i < length moves) places
  pub each : (i : ℕ) (d : Move) → Contains places i → Contains pins (slice_index_or moves i d).vertex
  pub all : (i : ℕ) (d : Move) → i < length moves → Contains pins (slice_index_or moves i d).vertex → Contains places i
