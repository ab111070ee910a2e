use Rattle.hg_io.proofs.PenLemmas.{wrote, cut, exit}
use Rattle.trace_text.proofs.fields.put_field.Goals as goal

pub returns-in_err-write-clause-bytes : goal.returns-in_err-write-clause-bytes
returns-in_err-write-clause-bytes g c = exit c.from_residual.result c.from_residual.ensures.0 (cut _ c.in_err-write.ensures.bytes)

pub returns-clause-bytes : goal.returns-clause-bytes
returns-clause-bytes g c = wrote c.in_ok-write.ensures.bytes c.put_number.ensures.bytes
