-- The partition file: one line for each vertex, with its block.
use Rattle.std.specs.Prelude.{ℕ, List, [], ◌∷◌}
use Rattle.std.specs.List.{flat_map}
use Rattle.part_text.specs.NumberLines.{numbers_line}

-- a line of one number
abbrev pub number_line : ℕ → List ℕ
number_line n = numbers_line (n ∷ [])

-- the text of a partition
abbrev pub part_text : List ℕ → List ℕ
part_text p = flat_map number_line p
