use Rattle.std.proofs.Common.{◌≡◌, ℕ, List, ◌++◌, drop}
use Rattle.std.specs.Prelude.{Ok}
use Rattle.hg_io.specs.declared.traits.Failed.{Failed}
use Rattle.hg_io.specs.Transfers.{Writes}
use Rattle.part_text.specs.NumberLines.{numbers_line}
use Rattle.hg_make.proofs.numbers.put_numbers.Given as goal

abbrev pub invariant-numbers : goal.invariant-numbers
invariant-numbers g l = (done : List ℕ)
    × (Writes {T = Unit {0}} {E = Failed} (g.K.Sink.got l.fn.sink) (g.K.Sink.got l.sink) l.fn.pen l.pen (Ok tt) done
    × (numbers_line l.numbers ≡ done ++ numbers_line (drop l.i l.numbers))
    × (g.K.Sink.faults l.sink ≡ g.K.Sink.faults l.fn.sink))
