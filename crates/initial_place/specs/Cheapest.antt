-- A partition beside the named placements.
use Rattle.std.specs.Prelude.{ℕ, ◌≤◌, List, All}
use Rattle.hg_defs.specs.Hypergraph.{Hyper}
use Rattle.hg_defs.specs.Partition.{Fits}
use Rattle.hg_defs.specs.Cost.{cost}

-- p costs no more than each of the partitions that fits
abbrev pub IsNoDearer : Hyper → ℕ → ℕ → List (List ℕ) → List ℕ → Type 0
IsNoDearer h k l ps p = All (λ q. Fits h k l q → cost h p ≤ cost h q) ps
