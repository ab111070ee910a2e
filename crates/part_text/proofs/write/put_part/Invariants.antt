use Rattle.std.proofs.Common.{◌≡◌, ℕ, List, ◌++◌, length}
use Rattle.std.specs.Io.KnownBytes.{Appends}
use Rattle.part_text.specs.Part.{part_text as text_of_part}
use Rattle.part_text.proofs.write.put_part.Given as goal

abbrev pub invariant-pieces : goal.invariant-pieces
invariant-pieces g l = (done : List ℕ)
    × (Appends (g.K.Sink.got l.fn.sink) (g.K.Sink.got l.sink) done × (text_of_part l.blocks ≡ done ++ text_of_part l.rest) ×
    (g.K.Sink.faults l.sink ≡ g.K.Sink.faults l.fn.sink))

abbrev pub decreases-pieces : goal.decreases-pieces
decreases-pieces g l = length l.rest
