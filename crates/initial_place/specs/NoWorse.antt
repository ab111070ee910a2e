-- What a search may make of a partition.
use Rattle.std.specs.Prelude.{◌≡◌, ℕ, ◌≤◌, List, [], ◌∷◌, Option, Some, None, Result, Ok, Err, IfSome}
use Rattle.std.specs.Prelude.{if◌then◌else◌, nat_lt}
use Rattle.hg_defs.specs.declared.memory.NoMemory.{NoMemory}
use Rattle.hg_defs.specs.Hypergraph.{Hyper}
use Rattle.hg_defs.specs.Partition.{IsPartition, Fits, Obeys}
use Rattle.hg_defs.specs.Cost.{cost}
use Rattle.initial_place.specs.declared.search.Costed.{Costed}

-- the new partition costs no more, and keeps what the old one kept
pub record IsNoWorse (h : Hyper) (k l : ℕ) (old new : List ℕ) : Type 0 where
  pub partition : IsPartition h k old → IsPartition h k new
  pub fits : Fits h k l old → Fits h k l new
  pub fixes : Obeys h old → Obeys h new
  pub cost : cost h new ≤ cost h old

-- a partition stands beside its cost
pub record IsCosted (h : Hyper) (k : ℕ) (c : Costed) : Type 0 where
  pub partition : IsPartition h k c.blocks
  pub cost : c.cost ≡ cost h c.blocks

-- a partition that fits and obeys the fixes stands beside its cost
pub record IsCandidate (h : Hyper) (k l : ℕ) (c : Costed) : Type 0 where
  pub costed : IsCosted h k c
  pub fits : Fits h k l c.blocks
  pub fixes : Obeys h c.blocks

-- what is left of a candidate that was judged, if anything, may be taken
abbrev pub IsJudged : Hyper → ℕ → ℕ → Option Costed → Type 0
IsJudged h k l judged = IfSome judged (IsCandidate h k l)

-- a partition that is no worse than the old one stands beside its cost
pub record TakesPlace (h : Hyper) (k l : ℕ) (old : List ℕ) (c : Costed) : Type 0 where
  pub costed : IsCosted h k c
  pub no_worse : IsNoWorse h k l old c.blocks

-- a candidate where it costs less, and else the best one
abbrev pub cheaper_of : Costed → Option Costed → Costed
cheaper_of best None = best
cheaper_of best (Some c) = if nat_lt c.cost best.cost then c else best

-- the cheapest of them, up to the first for which there was no memory
abbrev pub cheapest_of : Costed → List (Result (Option Costed) NoMemory) → Costed
cheapest_of best [] = best
cheapest_of best (Ok judged ∷ rs) = cheapest_of (cheaper_of best judged) rs
cheapest_of best (Err e ∷ rs) = best
