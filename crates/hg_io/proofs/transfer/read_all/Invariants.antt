use Rattle.std.proofs.Common.{◌≡◌, ◌≤◌, ◌<◌, ◌+◌, ◌-◌, length, vec_len}
use Rattle.std.specs.Io.KnownBytes.{Consumes}
use Rattle.hg_io.proofs.transfer.read_all.Given as goal

abbrev pub invariant-turns : goal.invariant-turns
invariant-turns g l = (vec_len l.bytes ≤ l.fn.max) × (0 < length l.piece) × (g.S.Source.faults l.src ≡ g.S.Source.faults l.fn.src)
    × Consumes (g.S.Source.left l.fn.src) (g.S.Source.left l.src) l.bytes.items

abbrev pub decreases-turns : goal.decreases-turns
decreases-turns g l = l.fn.max + 1 - vec_len l.bytes
