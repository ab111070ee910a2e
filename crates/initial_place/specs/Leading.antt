-- The cheapest placement so far, while the named placements are tried one after the other.
use Rattle.std.specs.Prelude.{◌≡◌, ℕ, ◌-◌, ◌^◌, List, Option, Some, None, Result, MatchResult}
use Rattle.hg_base.specs.declared.placement.GreedyEnd.{GreedyEnd}
use Rattle.hg_base.specs.declared.placement.GreedyEnd.TheVariants.{Overfills, NoMemory}
use Rattle.hg_defs.specs.Hypergraph.{Hyper}
use Rattle.hg_defs.specs.Partition.{Fits}
use Rattle.hg_defs.specs.Cost.{cost}
use Rattle.hg_defs.specs.Placement.{first_cheapest}

-- a placement that fits, if there was one, and its cost
pub record Leader : Type 0 where
  pub blocks : Option (List ℕ)
  pub cost : ℕ

-- the cost of the placement that leads, or more than any cost
abbrev pub leading_cost : Hyper → Option (List ℕ) → ℕ
leading_cost h None = 2 ^ 64 - 1
leading_cost h (Some p) = cost h p

-- of the partitions that were tried, the first of the cheapest that fit leads
pub record Leads (h : Hyper) (k l : ℕ) (ps : List (List ℕ)) (leader : Leader) : Type 0 where
  pub first : first_cheapest h k l ps ≡ leader.blocks
  pub cost : leader.cost ≡ leading_cost h leader.blocks

-- an end for the limit says that the partition doesn't fit
abbrev pub EndsAt : Hyper → ℕ → ℕ → List ℕ → GreedyEnd → Type 0
EndsAt h k l q (Overfills vertex) = Fits h k l q → ⊥
EndsAt h k l q NoMemory = Unit {0}

-- the placing of the partition q gave it, within the limit, or ended
abbrev pub IsTried : Hyper → ℕ → ℕ → List ℕ → Result (List ℕ) GreedyEnd → Type 0
IsTried h k l q placed = MatchResult placed (λ p. (p ≡ q) × Fits h k l p) (EndsAt h k l q)
