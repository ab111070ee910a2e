use Rattle.std.proofs.Common.{ap, sym}
use Rattle.trace_text.specs.Lines.{objective_text}
use Rattle.hg_io.proofs.PenLemmas.{spelt}
use Rattle.trace_text.proofs.lines.put_objective.Goals as goal

pub returns-in-ExternalDegree-clause-bytes : goal.returns-in-ExternalDegree-clause-bytes
returns-in-ExternalDegree-clause-bytes g c =
    spelt (ap objective_text (sym c.in-ExternalDegree.is)) c.write-in-ExternalDegree.ensures.bytes
