-- Loads past a limit.
use Rattle.std.specs.Prelude.{ℕ, List, nat_lt, if◌then◌else◌}
use Rattle.hg_defs.specs.Sums.{total}

-- how many loads are past the limit
abbrev pub overloaded : ℕ → List ℕ → ℕ
overloaded limit loads = total (λ load. if nat_lt limit load then 1 else 0) loads
