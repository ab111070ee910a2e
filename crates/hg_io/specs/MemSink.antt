-- What contracts see of a sink over memory.
use Rattle.std.specs.Prelude.{ℕ, ◌≤◌, ◌<◌, ◌⊎◌, List, ◌++◌, length, take, Contains, Result, Ok, Err}
use Rattle.hg_io.specs.Faults.{next_count}

-- the bytes got, the bytes that there is room for, the numbers of the puts that fail, the most bytes of a put, and the puts and faults so far
pub record Store : Type 0 where
  pub got : List ℕ
  pub room : ℕ
  pub fail : List ℕ
  pub step : ℕ
  pub puts : ℕ
  pub faults : ℕ

-- the next put fails by its number, or for want of room
abbrev pub Refuses : Store → List ℕ → Type 0
Refuses s piece = Contains s.fail (next_count s.puts) ⊎ ((0 < length piece) × (s.room ≤ length s.got))

-- the sink after a put: it got the first n bytes of the piece, or it failed and got none
abbrev pub after_put : {E : Type 0} → Store → List ℕ → Result ℕ E → Store
after_put s piece (Ok n) = record s { got = s.got ++ take n piece; puts = next_count s.puts }
after_put s piece (Err e) = record s { puts = next_count s.puts; faults = next_count s.faults }
