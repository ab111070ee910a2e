-- What a file spells that has one entry on each line: the entries, or the first fault.
use Rattle.std.specs.Prelude.{◌≢◌, ℕ, ◌+◌, ◌<◌, ◌≤◌, List, [], ◌∷◌, ◌++◌, length, map, take, drop, nat_lt}
use Rattle.std.specs.Prelude.{if◌then◌else◌, Option, option_map, Result, Ok, Err, codes}
use Rattle.std.specs.List.{filter_map}
use Rattle.std.specs.Result.{result_ok, result_err}
use Rattle.std.specs.Str.{bytes_eq}
use Rattle.hg_defs.specs.declared.objective.TheConstants.{FREE}
use Rattle.hg_text.specs.declared.numeral.BadNumber.{BadNumber}
use Rattle.hg_text.specs.declared.numeral.BadNumber.TheVariants.{NotDigits, TooBig}
use Rattle.hg_text.specs.Kept.{Line, Reading, reading, number_of}
use Rattle.part_text.specs.declared.read.Entry.{Entry}
use Rattle.part_text.specs.declared.read.Entry.TheVariants.{Block, Fix}
use Rattle.part_text.specs.declared.fault.PartKind.{PartKind}
use Rattle.part_text.specs.declared.fault.PartKind.TheVariants.{FieldCount, NotNumber, BlockRange, MissingLine, ExtraLine}

-- the number of a line and what is wrong with it
pub record Fault : Type 0 where
  pub line : ℕ
  pub kind : PartKind

-- a block: a number below k
abbrev pub block_in : ℕ → Result ℕ BadNumber → Result ℕ PartKind
block_in k (Ok b) = if nat_lt b k then Ok b else Err BlockRange
block_in k (Err NotDigits) = Err NotNumber
block_in k (Err TooBig) = Err BlockRange

-- the one field of a line is a block
abbrev pub block_entry : ℕ → List (List ℕ) → Result ℕ PartKind
block_entry k [] = Err FieldCount
block_entry k (field ∷ []) = block_in k (number_of field)
block_entry k (field ∷ second ∷ later) = Err FieldCount

-- the one field of a line is -1, for a free vertex, or a block
abbrev pub fix_entry : ℕ → List (List ℕ) → Result ℕ PartKind
fix_entry k [] = Err FieldCount
fix_entry k (field ∷ []) = if bytes_eq field (codes "-1") then Ok FREE else block_in k (number_of field)
fix_entry k (field ∷ second ∷ later) = Err FieldCount

-- what the lines of a file hold
abbrev pub entry_in : Entry → ℕ → List (List ℕ) → Result ℕ PartKind
entry_in Block k = block_entry k
entry_in Fix k = fix_entry k

-- the values that lines may hold: blocks below k, and for fixes FREE too
abbrev pub IsEntry : Entry → ℕ → ℕ → Type 0
IsEntry Block k value = value < k
IsEntry Fix k value = (value ≢ FREE → value < k) × (k ≤ FREE → value ≤ FREE)

module _ (entry : List (List ℕ) → Result ℕ PartKind) where
  abbrev pub fault_of : Line → Option Fault
  fault_of line = option_map (λ kind. record { line = line.number; kind = kind }) (result_err (entry line.fields))

  abbrev pub entry_of : Line → Option ℕ
  entry_of line = result_ok (entry line.fields)

-- a kept line behind the last one that is wanted
abbrev pub extra : Line → Fault
extra line = record { line = line.number; kind = ExtraLine }

-- an absent line, behind all lines of the text
abbrev pub missing : ℕ → Fault
missing count = record { line = count + 1; kind = MissingLine }

-- all faults of a text that must have n kept lines, in the order of their lines
abbrev pub faults : (List (List ℕ) → Result ℕ PartKind) → ℕ → Reading → List Fault
faults entry n text =
    filter_map (fault_of entry) (take n text.kept)
    ++ map extra (drop n text.kept)
    ++ (if nat_lt (length text.kept) n then missing text.count ∷ [] else [])

-- the values, or the first of the faults
abbrev pub unless_faulty : List Fault → List ℕ → Result (List ℕ) Fault
unless_faulty [] values = Ok values
unless_faulty (fault ∷ later) values = Err fault

-- the entries of the first n kept lines, or the first fault
abbrev pub spelled : (List (List ℕ) → Result ℕ PartKind) → ℕ → Reading → Result (List ℕ) Fault
spelled entry n text = unless_faulty (faults entry n text) (filter_map (entry_of entry) (take n text.kept))

-- the partition of n vertices into k blocks that a file spells
abbrev pub spelled_part : List ℕ → ℕ → ℕ → Result (List ℕ) Fault
spelled_part bytes n k = spelled (block_entry k) n (reading bytes)

-- the fixes of n vertices, FREE or below k, that a file spells
abbrev pub spelled_fixes : List ℕ → ℕ → ℕ → Result (List ℕ) Fault
spelled_fixes bytes n k = spelled (fix_entry k) n (reading bytes)
