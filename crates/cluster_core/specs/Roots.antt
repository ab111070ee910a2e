-- The roots that marks tell.
use Rattle.std.specs.Prelude.{ℕ, ◌-◌, Option, Some, None, nat_le, slice_index, if◌then◌else◌}
use Rattle.cluster_core.specs.State.{State}

-- the root that a mark tells; a vertex that nobody has decided is its own root
abbrev pub root_in : ℕ → ℕ → ℕ
root_in mark v = if nat_le 2 mark then mark - 2 else v

-- the root of a decided vertex
abbrev pub root_of : State → ℕ → Option ℕ
root_of s v = if nat_le 2 (slice_index s.marks v) then Some (slice_index s.marks v - 2) else None
