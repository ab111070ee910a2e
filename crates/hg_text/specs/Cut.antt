-- What a cut of a line begins with, where its first field ends, and numbers of 64 bits.
use Rattle.std.specs.Prelude.{◌^◌, nat_lt, if◌then◌else◌, Option, Some, None, ◌≡◌, ℕ, ◌<◌, ◌≤◌, ◌==◌, ◌||◌}
use Rattle.std.specs.Prelude.{true, false, Bool, List, [], ◌∷◌, length, slice_index}
use Rattle.std.specs.Prelude.{Result, MatchOption}
use Rattle.std.specs.Char.{is_ascii_digit}
use Rattle.hg_text.specs.Kept.{is_blank, SpellsFirst}
use Rattle.hg_text.specs.declared.numeral.BadNumber.{BadNumber}

-- a line that is empty or begins with a field
abbrev pub IsTrimmed : List ℕ → Type 0
IsTrimmed [] = Unit {0}
IsTrimmed (byte ∷ line) = is_blank byte ≡ false

-- the test fails at each place below end
abbrev pub FailsBelow : (ℕ → Bool) → List ℕ → ℕ → Type 0
FailsBelow test xs end = (k : ℕ) → k < end → test (slice_index xs k) ≡ false

-- no field goes on at this place of a line
abbrev pub ends_field : List ℕ → ℕ → Bool
ends_field line place = place == length line || is_blank (slice_index line place)

-- the field that the line begins with has this length
pub record EndsField (line : List ℕ) (end : ℕ) : Type 0 where
  pub low : 0 < end
  pub high : end ≤ length line
  pub inside : FailsBelow is_blank line end
  pub ends : ends_field line end ≡ true

-- this is the value, where it fits 64 bits
abbrev pub IsFitting : ℕ → Option ℕ → Type 0
IsFitting value answer = answer ≡ (if nat_lt value (2 ^ 64) then Some value else None)

-- no run of digits goes past this place of a text
abbrev pub StopsAt : List ℕ → ℕ → Type 0
StopsAt text place = place < length text → is_ascii_digit (slice_index text place) ≡ false

-- what the first of these fields spells, where there is one, and the fields behind it
abbrev pub TakesNumber : List (List ℕ) → List (List ℕ) → Option (Result ℕ BadNumber) → Type 0
TakesNumber fields later number = MatchOption number ((fields ≡ []) × (later ≡ [])) (SpellsFirst fields later)
