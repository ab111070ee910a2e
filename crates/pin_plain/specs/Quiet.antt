-- Vertices that need no visit: no other block would be cheaper for them, whether it has room or not.
use Rattle.std.specs.Prelude.{◌≡◌, ◌≢◌, ℕ, ◌+◌, ◌<◌, ◌≤◌, List, length, slice_index_or, Bool, true, false, ◌||◌, nat_eq}
use Rattle.hg_defs.specs.Hypergraph.{Hyper, vertex_count, net_of, IsFree}
use Rattle.hg_defs.specs.Partition.{block_of}
use Rattle.hg_defs.specs.Cost.{cost}
use Rattle.hg_defs.specs.Moves.{moved}
use Rattle.hg_defs.specs.Pins.{pins_in}

-- the vertex isn't free, or no other block makes the partition cheaper, whatever the loads
abbrev pub IsQuiet : Hyper → ℕ → List ℕ → ℕ → Type 0
IsQuiet h k p v = IsFree h v → (b : ℕ) → b < k → b ≢ block_of p v → cost h p ≤ cost h (moved p v b)

-- a mark for each vertex, and those that are marked are quiet
pub record AreQuiet (h : Hyper) (k : ℕ) (p : List ℕ) (marks : List Bool) : Type 0 where
  pub all : length marks ≡ vertex_count h
  pub each : (v : ℕ) → v < vertex_count h → slice_index_or marks v false ≡ true → IsQuiet h k p v

-- a mark for each of n vertices from a first one on, and those that are marked are quiet
pub record AreQuietFrom (h : Hyper) (k : ℕ) (p : List ℕ) (first n : ℕ) (marks : List Bool) : Type 0 where
  pub all : length marks ≡ n
  pub each : (i : ℕ) → i < n → slice_index_or marks i false ≡ true → IsQuiet h k p (first + i)

-- whether other pins of a net may gain more once one went from a block with `old` of its pins to one with `new` of them
abbrev pub stirs : ℕ → ℕ → ℕ → Bool
stirs old new size = nat_eq new 0 || (nat_eq old 2 || nat_eq (new + 2) size)

-- whether those of net e may once vertex v goes to block b
abbrev pub stirs_net : Hyper → List ℕ → ℕ → ℕ → ℕ → Bool
stirs_net h p v b e = stirs (pins_in p (net_of h e).pins (block_of p v)) (pins_in p (net_of h e).pins b) (length (net_of h e).pins)
