-- Laws of partition files.
use Rattle.std.specs.Prelude.{◌≡◌, ℕ, ◌^◌, ◌<◌, ◌≤◌, List, length, All, Ok}
use Rattle.part_text.specs.Part.{part_text}
use Rattle.part_text.specs.Entries.{spelled_part}

-- the text of a partition into k blocks spells that partition
abbrev pub PartIsReadBack : Type 0
PartIsReadBack =
    (p : List ℕ) (k : ℕ) → k ≤ 2 ^ 32 → All (λ b. b < k) p → spelled_part (part_text p) (length p) k ≡ Ok p
