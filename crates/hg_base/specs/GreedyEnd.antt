-- When a placement ends without a partition.
use Rattle.std.specs.Prelude.{◌≡◌, ℕ, Option, Some}
use Rattle.hg_base.specs.declared.placement.GreedyEnd.{GreedyEnd}
use Rattle.hg_base.specs.declared.placement.GreedyEnd.TheVariants.{Overfills, NoMemory}

-- given the first vertex that overfills, if there is one; nothing is said of want of memory
abbrev pub HasCause : Option ℕ → GreedyEnd → Type 0
HasCause first (Overfills v) = first ≡ Some v
HasCause first NoMemory = Unit {0}
