-- How readers answer: with what a file spells, or that there was no memory.
use Rattle.std.specs.Prelude.{◌≡◌, ℕ, List, Result, Ok, Err}
use Rattle.part_text.specs.declared.fault.PartFault.{PartFault}
use Rattle.part_text.specs.declared.fault.PartFault.TheVariants.{Bad, NoMemory}
use Rattle.part_text.specs.Entries.{Fault}

-- the entries of a partition or of fixes, or their first fault, or no memory
abbrev pub Answers : Result (List ℕ) Fault → Result (List ℕ) PartFault → Type 0
Answers spelled (Ok entries) = spelled ≡ Ok entries
Answers spelled (Err (Bad line kind)) = spelled ≡ Err (record { line = line; kind = kind })
Answers spelled (Err NoMemory) = Unit {0}
