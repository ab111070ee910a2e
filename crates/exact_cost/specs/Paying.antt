-- What a run of nets pays of the cost.
use Rattle.std.specs.Prelude.{◌≡◌, ℕ, ◌+◌, ◌*◌, ◌/◌, List, take}
use Rattle.hg_defs.specs.Sums.{total}
use Rattle.hg_defs.specs.Hypergraph.{Hyper, net_count}
use Rattle.hg_defs.specs.Cost.{net_cost}

-- what the nets below one pay
abbrev pub paid_below : Hyper → List ℕ → ℕ → ℕ
paid_below h p e = total (net_cost h.objective p) (take e h.nets)

-- the nets from one up to below another one pay this sum
abbrev pub IsPaid : Hyper → List ℕ → ℕ → ℕ → ℕ → Type 0
IsPaid h p from to sum = paid_below h p to ≡ paid_below h p from + sum

-- run i of so many runs of about the same length, one behind the other, pays this sum
abbrev pub IsPaidByRun : Hyper → List ℕ → ℕ → ℕ → ℕ → Type 0
IsPaidByRun h p runs i sum = IsPaid h p (net_count h * i / runs) (net_count h * (i + 1) / runs) sum
