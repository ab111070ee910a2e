use Rattle.std.proofs.Common.{◌≡◌, ◌≤◌, ◌-◌, length, take}
use Rattle.std.specs.Io.KnownBytes.{Appends}
use Rattle.hg_io.proofs.transfer.put_all.Given as goal

abbrev pub invariant-pieces : goal.invariant-pieces
invariant-pieces g l = (l.done ≤ length l.bytes) × (g.K.Sink.faults l.sink ≡ g.K.Sink.faults l.fn.sink)
    × Appends (g.K.Sink.got l.fn.sink) (g.K.Sink.got l.sink) (take l.done l.bytes)

abbrev pub decreases-pieces : goal.decreases-pieces
decreases-pieces g l = length l.bytes - l.done
