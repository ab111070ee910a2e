use Rattle.std.proofs.Common.{codes}
use Rattle.std.specs.Fmt.{decimal}
use Rattle.trace_text.specs.Lines.{number_line}
use Rattle.hg_io.proofs.PenLemmas.{wrote, cut, exit}
use Rattle.trace_text.proofs.lines.put_load.Goals as goal

pub returns-in_err-write-clause-bytes : goal.returns-in_err-write-clause-bytes
returns-in_err-write-clause-bytes g c =
    exit c.from_residual.result c.from_residual.ensures.0
    (cut (number_line (codes " ") c.args.load) (cut (decimal c.args.block) c.in_err-write.ensures.bytes))

pub returns-in_err-put_number-clause-bytes : goal.returns-in_err-put_number-clause-bytes
returns-in_err-put_number-clause-bytes g c =
    exit c.from_residual-in_err-put_number.result c.from_residual-in_err-put_number.ensures.0
    (cut (number_line (codes " ") c.args.load) (wrote c.in_ok-write.ensures.bytes c.in_err-put_number.ensures.bytes))

pub returns-clause-bytes : goal.returns-clause-bytes
returns-clause-bytes g c = wrote (wrote c.in_ok-write.ensures.bytes c.in_ok-put_number.ensures.bytes) c.put_line.ensures.bytes
