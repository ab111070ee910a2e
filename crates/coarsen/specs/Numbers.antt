-- Roots, and the numbers that they get.
use Rattle.std.specs.Prelude.{◌≡◌, ℕ, ◌<◌, List, length, filter, slice_index, nat_eq}
use Rattle.std.specs.List.{range_with_len}
use Rattle.hg_defs.specs.Numbering.{numbered}
use Rattle.round_log.specs.declared.record.Stop.{Stop}
use Rattle.round_log.specs.declared.record.Stop.TheVariants.{Small, Stuck}

-- a root for each of n vertices: a vertex that is its own root
pub record AreRoots (n : ℕ) (roots : List ℕ) : Type 0 where
  pub vertices : length roots ≡ n
  pub below : (v : ℕ) → v < n → slice_index roots v < n
  pub own : (v : ℕ) → v < n → slice_index roots (slice_index roots v) ≡ slice_index roots v

-- how many roots there are below a vertex
abbrev pub roots_below : List ℕ → ℕ → ℕ
roots_below roots r = length (filter (λ v. nat_eq (slice_index roots v) v) (range_with_len 0 r))

-- each root among the first vertices has its number
pub record AreNumbers (roots : List ℕ) (i : ℕ) (numbers : List ℕ) : Type 0 where
  pub vertices : length numbers ≡ length roots
  pub each : (r : ℕ) → r < i → slice_index roots r ≡ r → slice_index numbers r ≡ roots_below roots r

-- a clustering whose clusters have roots, and are numbered by rising root
pub record IsByRoot (clusters : List ℕ) : Type 0 where
  pub roots : List ℕ
  pub are_roots : AreRoots (length clusters) roots
  pub are_numbered : clusters ≡ numbered roots

-- the clustering with which a coarsening stopped, if there is one, is numbered so
abbrev pub IsStopByRoot : Stop → Type 0
IsStopByRoot Small = Unit {0}
IsStopByRoot (Stuck clusters) = IsByRoot clusters
