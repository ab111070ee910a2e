-- What the calls of a job for the runs of a list ask, and what they leave.
use Rattle.std.specs.Prelude.{◌≡◌, ℕ, ◌+◌, ◌*◌, ◌^◌, ◌<◌, ◌≤◌, List, length}
use Rattle.std.specs.Fork.{slice_chunk}

-- xs is so many runs, P holds of each beside its place, and places are numbers of 64 bits
pub record AllRuns {X : Type 0} (P : ℕ → List X → Type 0) (place size count : ℕ) (xs : List X) : Type 0 where
  pub some : (0 < count) × (0 < size)
  pub within : length xs ≤ count * size
  pub filled : count * size < length xs + size
  pub room : place + length xs < 2 ^ 64
  pub each : (n : ℕ) → n * size < length xs → P (place + n * size) (slice_chunk xs size n)

-- R holds of each run before and after
pub record AllRunsChange {X : Type 0} (R : ℕ → List X → List X → Type 0) (place size : ℕ) (xs ys : List X) : Type 0 where
  pub all : length ys ≡ length xs
  pub each : (n : ℕ) → n * size < length xs → R (place + n * size) (slice_chunk xs size n) (slice_chunk ys size n)
