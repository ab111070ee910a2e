use Rattle.std.proofs.Common.{arith}
use Rattle.std.proofs.lemmas.List.{at_drop_more}
use Rattle.trace_text.specs.Fields.{fields_text, fields_of}
use Rattle.hg_io.proofs.PenLemmas.{exit}
use Rattle.trace_text.proofs.TextLemmas.{line-written, line-failed}
use Rattle.trace_text.proofs.fields.put_fields.Goals as goal

pub returns-in_err-put_field-clause-bytes : goal.returns-in_err-put_field-clause-bytes
returns-in_err-put_field-clause-bytes g c =
    exit c.from_residual.result c.from_residual.ensures.0
    (line-failed _ (at_drop_more (λ fields. fields_text (fields_of fields)) c.args.fields.now c.fields.field-index _ (omega arith))
    c.fields.invariant c.in_err-put_field.ensures.bytes)

pub fields-preserved : goal.fields-preserved
fields-preserved g c =
    line-written (at_drop_more (λ fields. fields_text (fields_of fields)) c.args.fields.now c.fields.field-index _ (omega arith))
    c.fields.invariant c.in_ok-put_field.ensures.bytes c.in_ok-put_field.ensures.cause.kept
