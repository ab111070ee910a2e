-- What a run of nets pays of the cost.
use Rattle.std.specs.Prelude.{◌≡◌, ℕ, ◌+◌, ◌^◌, ◌<◌, List, take}
use Rattle.hg_defs.specs.Sums.{total}
use Rattle.hg_defs.specs.Hypergraph.{Hyper}
use Rattle.hg_defs.specs.Cost.{net_cost}

-- what the nets below one pay
abbrev pub cost_below : Hyper → List ℕ → ℕ → ℕ
cost_below h p e = total (net_cost h.objective p) (take e h.nets)

-- the nets from one up to below another one pay this sum, which leaves room
pub record IsCostOfRun (h : Hyper) (p : List ℕ) (from to sum : ℕ) : Type 0 where
  pub paid : cost_below h p to ≡ cost_below h p from + sum
  pub bound : sum < 2 ^ 57
