-- What is known of vertices where a round opens.
use Rattle.std.specs.Prelude.{ℕ, ◌<◌, Option, Some, None, IfSome}
use Rattle.fm_search.specs.declared.reading.Choice.{Choice}
use Rattle.fm_search.specs.declared.opening.Opening.{Opening}
use Rattle.fm_search.specs.declared.opening.Opening.TheVariants.{Moves}

-- where it goes, if it goes
abbrev pub choice_of : Opening → Option Choice
choice_of (Moves choice) = Some choice
choice_of _ = None

-- it goes to one of so many blocks, if it goes
abbrev pub IsBelow : ℕ → Opening → Type 0
IsBelow k opening = IfSome (choice_of opening) (λ c. c.to < k)
