use Rattle.std.proofs.Common.{drop}
use Rattle.trace_text.specs.Fields.{fields_text, fields_of}
use Rattle.trace_text.proofs.TextLemmas.{IsWritten}
use Rattle.trace_text.proofs.fields.put_fields.Given as goal

abbrev pub invariant-fields : goal.invariant-fields
invariant-fields g l =
    IsWritten (g.K.Sink.got l.fn.sink) (g.K.Sink.got l.sink) (g.K.Sink.faults l.fn.sink) (g.K.Sink.faults l.sink) l.fn.pen l.pen
    (fields_text (fields_of l.fields))
    (fields_text (fields_of (drop l.field-index l.fields)))
