-- The lines of a text, their fields, the kept lines with their numbers, and what a field spells.
use Rattle.std.specs.Prelude.{◌≡◌, ℕ, ◌-◌, ◌^◌, Bool, true, false, ◌==◌, ◌&&◌, ◌||◌, nat_lt, if◌then◌else◌, List, []}
use Rattle.std.specs.Prelude.{◌∷◌, length, slice_index, take, map, filter, not, Result, Ok, Err}
use Rattle.std.specs.List.{slice_split, onto_first, enumerate_from}
use Rattle.std.specs.Str.{all_ascii_digits}
use Rattle.std.specs.Str.Parse.{digits_value}
use Rattle.hg_text.specs.declared.numeral.BadNumber.{BadNumber}
use Rattle.hg_text.specs.declared.numeral.BadNumber.TheVariants.{NotDigits, TooBig}

-- a line feed ends a line
abbrev pub is_line_feed : ℕ → Bool
is_line_feed byte = byte == 10

-- a blank or a tab parts fields
abbrev pub is_blank : ℕ → Bool
is_blank byte = byte == 32 || byte == 9

-- the lines of a text: bytes behind the last line feed form a line where there is one at least
abbrev pub lines : List ℕ → List (List ℕ)
lines [] = []
lines (byte ∷ text) = if is_line_feed byte then [] ∷ lines text else onto_first byte (lines text)

-- a line without the one carriage return at its end
abbrev pub without_return : List ℕ → List ℕ
without_return line = if slice_index line (length line - 1) == 13 then take (length line - 1) line else line

-- a run that isn't empty
abbrev pub is_filled : List ℕ → Bool
is_filled [] = false
is_filled (byte ∷ run) = true

-- the longest runs of bytes other than blank and tab
abbrev pub fields : List ℕ → List (List ℕ)
fields line = filter is_filled (slice_split is_blank line)

-- a line of a text: its number, from 1, and its fields
pub record Line : Type 0 where
  pub number : ℕ
  pub fields : List (List ℕ)

-- a line is kept where it has a field, and the first one doesn't begin with a percent sign
abbrev pub is_kept : Line → Bool
is_kept line = kept line.fields where
  kept : List (List ℕ) → Bool
  kept [] = false
  kept (field ∷ later) = not (slice_index field 0 == 37)

-- a line by its number and its bytes
abbrev pub line_of : ℕ × List ℕ → Line
line_of line = record { number = line.0; fields = fields (without_return line.1) }

-- the kept lines of a text whose first line has this number
abbrev pub kept_from : ℕ → List ℕ → List Line
kept_from number text = filter is_kept (map line_of (enumerate_from number (lines text)))

-- the fields of the kept lines of a text, which don't depend on the numbers of its lines
abbrev pub field_lists : List ℕ → List (List (List ℕ))
field_lists text = map (λ line. line.fields) (kept_from 1 text)

-- what a reader of lines shows: the kept lines that are left, and the number of lines of the text
pub record Reading : Type 0 where
  pub kept : List Line
  pub count : ℕ

-- a text that wasn't read yet
abbrev pub reading : List ℕ → Reading
reading text = record { kept = kept_from 1 text; count = length (lines text) }

-- a number that fits 64 bits, or the reason why not
abbrev pub fitting : ℕ → Result ℕ BadNumber
fitting value = if nat_lt value (2 ^ 64) then Ok value else Err TooBig

-- the number that a field spells: one or more digits, of a value below 2^64
abbrev pub number_of : List ℕ → Result ℕ BadNumber
number_of field =
    if is_filled field && all_ascii_digits field then fitting (digits_value 10 field) else Err NotDigits

-- the first of these fields spells this, and the later ones follow it
pub record SpellsFirst (fields later : List (List ℕ)) (value : Result ℕ BadNumber) : Type 0 where
  pub field : List ℕ
  pub first : fields ≡ field ∷ later
  pub spelt : value ≡ number_of field
