-- Pin counts: how many pins of a net lie in a block.
use Rattle.std.specs.Prelude.{ℕ, List, nat_eq, nat_lt, if◌then◌else◌}
use Rattle.hg_defs.specs.Sums.{total}
use Rattle.hg_defs.specs.Partition.{block_of}

-- how many of the pins lie in the block
abbrev pub pins_in : List ℕ → List ℕ → ℕ → ℕ
pins_in p pins b = total (λ v. if nat_eq (block_of p v) b then 1 else 0) pins

-- 1 for a block with pins, 0 for one without
abbrev pub present : ℕ → ℕ
present pins = if nat_lt 0 pins then 1 else 0
