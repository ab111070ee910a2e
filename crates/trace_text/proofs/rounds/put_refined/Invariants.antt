use Rattle.std.proofs.Common.{drop}
use Rattle.trace_text.specs.Rounds.{refined_text}
use Rattle.trace_text.proofs.TextLemmas.{IsWritten}
use Rattle.trace_text.proofs.rounds.put_refined.Given as goal

abbrev pub invariant-rounds : goal.invariant-rounds
invariant-rounds g l =
    IsWritten (g.K.Sink.got l.fn.sink) (g.K.Sink.got l.sink) (g.K.Sink.faults l.fn.sink) (g.K.Sink.faults l.sink) l.fn.pen l.pen
    (refined_text l.rounds) (refined_text (drop l.round-index l.rounds))
