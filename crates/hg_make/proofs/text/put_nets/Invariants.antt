use Rattle.std.proofs.Common.{◌≡◌, ℕ, List, ◌++◌, drop, map}
use Rattle.std.specs.Prelude.{Ok}
use Rattle.std.specs.List.{flat_map}
use Rattle.hg_io.specs.declared.traits.Failed.{Failed}
use Rattle.hg_io.specs.Transfers.{Writes}
use Rattle.part_text.specs.NumberLines.{numbers_line}
use Rattle.hg_make.specs.Text.{net_numbers}
use Rattle.hg_make.proofs.text.put_nets.Given as goal

abbrev pub invariant-nets : goal.invariant-nets
invariant-nets g l = (done : List ℕ)
    × (Writes {T = Unit {0}} {E = Failed} (g.K.Sink.got l.fn.sink) (g.K.Sink.got l.sink) l.fn.pen l.pen (Ok tt) done
    × (flat_map numbers_line (map (net_numbers l.weighted) l.h.nets) ≡ done ++ flat_map numbers_line (map (net_numbers l.weighted) (drop l.e l.h.nets)))
    × (g.K.Sink.faults l.sink ≡ g.K.Sink.faults l.fn.sink))
