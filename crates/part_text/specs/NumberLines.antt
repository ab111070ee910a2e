-- Lines of numbers in decimal digits, with one blank between them and a line feed at the end.
use Rattle.std.specs.Prelude.{ℕ, List, [], ◌∷◌, ◌++◌}
use Rattle.std.specs.Fmt.{decimal}

-- a blank behind a number that others follow, and a line feed behind the last one
abbrev pub separator : List ℕ → ℕ
separator [] = 10
separator (n ∷ ns) = 32

-- the numbers of a line
abbrev pub numbers_line : List ℕ → List ℕ
numbers_line [] = []
numbers_line (n ∷ ns) = decimal n ++ separator ns ∷ numbers_line ns
