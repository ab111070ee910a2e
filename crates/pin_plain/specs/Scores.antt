-- The sums that are kept for the blocks while the moves of one vertex are scored.
use Rattle.std.specs.Prelude.{◌≡◌, ◌≢◌, ℕ, ◌+◌, ◌*◌, ◌<◌, ◌≤◌, ◌⊎◌, Option, Some, None, List, length, take}
use Rattle.std.specs.Prelude.{slice_index, Bool, true, ◌&&◌, nat_eq, nat_lt, nat_le}
use Rattle.std.specs.Set.{is_member}
use Rattle.hg_defs.specs.declared.objective.Objective.{Objective}
use Rattle.hg_defs.specs.Sums.{total}
use Rattle.hg_defs.specs.Pins.{pins_in, present}
use Rattle.pin_plain.specs.Savings.{saved}

-- a sum for each of 256 blocks, and the blocks whose sum isn't 0: those at the first `count` places
pub record IsTracked (sums touched : List ℕ) (count : ℕ) : Type 0 where
  pub blocks : length sums ≡ 256
  pub places : length touched ≡ 256
  pub number : count ≡ total present sums
  pub below : (i : ℕ) → i < count → slice_index touched i < 256
  pub real : (i : ℕ) → i < count → 0 < slice_index sums (slice_index touched i)
  pub listed : (b : ℕ) → 0 < slice_index sums b → is_member nat_eq (take count touched) b ≡ true

-- the number of the net that last touched each block, and that of the present net
pub record Stamps : Type 0 where
  pub last : List ℕ
  pub net : ℕ

-- the present net has touched the block
abbrev pub is_seen : Stamps → ℕ → Bool
is_seen s b = nat_eq (slice_index s.last b) s.net

-- the number of the last net that touched each block, all below a number
pub record IsBefore (seen : List ℕ) (stamp : ℕ) : Type 0 where
  pub size : length seen ≡ 256
  pub all : (b : ℕ) → b < 256 → slice_index seen b < stamp

-- no block has a sum
abbrev pub IsClear : List ℕ → Type 0
IsClear sums = (b : ℕ) → slice_index sums b ≡ 0

-- the block is another one than `from`, and has room for the weight
pub record IsTarget (loads : List ℕ) (limit weight from b : ℕ) : Type 0 where
  pub block : b < length loads
  pub other : b ≢ from
  pub room : slice_index loads b + weight ≤ limit

-- the target of the highest sum above the loss, the lowest one at a tie; none where no sum is above it
abbrev pub IsTop : List ℕ → List ℕ → ℕ → ℕ → ℕ → ℕ → Option ℕ → Type 0
IsTop sums loads limit weight from loss None = (b : ℕ) → IsTarget loads limit weight from b → slice_index sums b ≤ loss
IsTop sums loads limit weight from loss (Some a) =
    IsTarget loads limit weight from a
    × (loss < slice_index sums a)
    × ((b : ℕ) → IsTarget loads limit weight from b → slice_index sums b ≤ slice_index sums a)
    × ((b : ℕ) → b < a → IsTarget loads limit weight from b → slice_index sums b < slice_index sums a)

-- the block's sum is above the loss, or it comes before the best one so far
abbrev pub IsHigher : List ℕ → ℕ → Option ℕ → ℕ → Type 0
IsHigher sums loss None b = loss < slice_index sums b
IsHigher sums loss (Some a) b = (slice_index sums a < slice_index sums b) ⊎ ((slice_index sums b ≡ slice_index sums a) × (b < a))

-- what a net saves where one of its pins goes to a block
abbrev pub amount_for : Objective → ℕ → List ℕ → List ℕ → ℕ → ℕ
amount_for o weight p pins b = weight * saved o (pins_in p pins b) (length pins)

-- whether a number is one of n from a first one on
abbrev pub is_between : ℕ → ℕ → ℕ → Bool
is_between first n b = nat_le first b && nat_lt b (first + n)

-- the same among these blocks
abbrev pub IsTopAmong : List ℕ → List ℕ → ℕ → ℕ → ℕ → ℕ → List ℕ → Option ℕ → Type 0
IsTopAmong sums loads limit weight from loss blocks None =
    (b : ℕ) → is_member nat_eq blocks b ≡ true → IsTarget loads limit weight from b → slice_index sums b ≤ loss
IsTopAmong sums loads limit weight from loss blocks (Some a) =
    IsTarget loads limit weight from a
    × (loss < slice_index sums a)
    × ((b : ℕ) → is_member nat_eq blocks b ≡ true → IsTarget loads limit weight from b → slice_index sums b ≤ slice_index sums a)
    × ((b : ℕ) → is_member nat_eq blocks b ≡ true → b < a → IsTarget loads limit weight from b → slice_index sums b < slice_index sums a)
