use Rattle.std.proofs.Common.{drop, ◌+◌}
use Rattle.std.specs.List.{flat_map, enumerate_from}
use Rattle.trace_text.specs.Report.{cycle_text, cycles_text}
use Rattle.trace_text.proofs.TextLemmas.{IsWritten}
use Rattle.trace_text.proofs.report.put_cycles.Given as goal

abbrev pub invariant-cycles : goal.invariant-cycles
invariant-cycles g l =
    IsWritten (g.K.Sink.got l.fn.sink) (g.K.Sink.got l.sink) (g.K.Sink.faults l.fn.sink) (g.K.Sink.faults l.sink) l.fn.pen l.pen
    (cycles_text l.h l.cycles) (flat_map (cycle_text l.h) (enumerate_from (l.i + 1) (drop l.i l.cycles)))
