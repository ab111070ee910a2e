use Rattle.std.proofs.Common.{drop}
use Rattle.std.specs.List.{flat_map}
use Rattle.trace_text.specs.Rounds.{gain_text}
use Rattle.trace_text.proofs.TextLemmas.{IsWritten}
use Rattle.trace_text.proofs.rounds.put_gains.Given as goal

abbrev pub invariant-gains : goal.invariant-gains
invariant-gains g l =
    IsWritten (g.K.Sink.got l.fn.sink) (g.K.Sink.got l.sink) (g.K.Sink.faults l.fn.sink) (g.K.Sink.faults l.sink) l.fn.pen l.pen
    (flat_map gain_text l.gains) (flat_map gain_text (drop l.gain-index l.gains))
