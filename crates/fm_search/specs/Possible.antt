-- The moves for which a round of searches is made.
use Rattle.std.specs.Prelude.{ℕ, ◌<◌, ◌≤◌, List, Contains}
use Rattle.hg_defs.specs.Hypergraph.{Hyper, net_of}
use Rattle.hg_defs.specs.Incidence.{nets_of}
use Rattle.hg_defs.specs.Pins.{pins_in}
use Rattle.hg_defs.specs.Moves.{IsAllowed}
use Rattle.round_log.specs.Passes.{IsPossible}

-- a net of the vertex has a pin in the block
abbrev pub Reaches : Hyper → List ℕ → ℕ → ℕ → Type 0
Reaches h p v b = (e : ℕ) × Contains (nets_of h v) e × (0 < pins_in p (net_of h e).pins b)

-- the vertex may go to the block, where one of its nets has a pin
pub record MayGo (h : Hyper) (k l : ℕ) (p : List ℕ) (v b : ℕ) : Type 0 where
  pub allowed : IsAllowed h k l p v b
  pub near : Reaches h p v b

-- the lowest block to which the vertex may go
pub record IsLowest (h : Hyper) (k l : ℕ) (p : List ℕ) (v b : ℕ) : Type 0 where
  pub here : MayGo h k l p v b
  pub least : (c : ℕ) → MayGo h k l p v c → b ≤ c

-- the possible move of least vertex, then least block
pub record IsFirst (h : Hyper) (k l : ℕ) (p : List ℕ) (v b : ℕ) : Type 0 where
  pub possible : IsPossible h k l p v b
  pub vertex : (u c : ℕ) → IsPossible h k l p u c → v ≤ u
  pub block : (c : ℕ) → IsPossible h k l p v c → b ≤ c
