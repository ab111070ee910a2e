use Rattle.std.proofs.Common.{◌≡◌, ℕ, List, ◌++◌, drop}
use Rattle.std.specs.Prelude.{Ok}
use Rattle.std.specs.List.{flat_map, enumerate_from}
use Rattle.hg_io.specs.declared.traits.Failed.{Failed}
use Rattle.hg_io.specs.Transfers.{Writes}
use Rattle.trace_text.specs.Lines.{load_line, loads_text}
use Rattle.trace_text.proofs.lines.put_loads.Given as goal

abbrev pub invariant-loads : goal.invariant-loads
invariant-loads g l = (done : List ℕ)
    × (Writes {T = Unit {0}} {E = Failed} (g.K.Sink.got l.fn.sink) (g.K.Sink.got l.sink) l.fn.pen l.pen (Ok tt) done
    × (loads_text l.loads ≡ done ++ flat_map load_line (enumerate_from l.block (drop l.block l.loads)))
    × (g.K.Sink.faults l.sink ≡ g.K.Sink.faults l.fn.sink))
