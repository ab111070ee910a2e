-- What a pass keeps from round to round.
use Rattle.std.specs.Prelude.{◌≡◌, ℕ, All}
use Rattle.fm_search.specs.declared.memory.Memory.{Memory}
use Rattle.fm_search.specs.Opened.{IsBelow}

-- it is made for so many blocks
pub record IsMemoryFor (k : ℕ) (m : Memory) : Type 0 where
  pub desks : All (λ d. d.blocks ≡ k) m.desks.items
  pub openings : All (IsBelow k) m.openings.all.items
