use Rattle.std.proofs.Common.{codes}
use Rattle.std.specs.Fmt.{decimal}
use Rattle.hg_io.proofs.PenLemmas.{wrote, cut, exit}
use Rattle.part_run.proofs.status.write_line.Goals as goal

pub returns-in_err-write-clause-bytes : goal.returns-in_err-write-clause-bytes
returns-in_err-write-clause-bytes g c =
    exit c.from_residual.result c.from_residual.ensures.0
    (cut (codes "\n") (cut c.args.said.now (cut (codes ": ") (cut (decimal c.args.line) c.in_err-write.ensures.bytes))))

pub returns-in_err-put_number-clause-bytes : goal.returns-in_err-put_number-clause-bytes
returns-in_err-put_number-clause-bytes g c =
    exit c.from_residual-in_err-put_number.result c.from_residual-in_err-put_number.ensures.0
    (cut (codes "\n") (cut c.args.said.now (cut (codes ": ") (wrote c.in_ok-write.ensures.bytes (rw c.from.ensures at c.in_err-put_number.ensures.bytes)))))

pub returns-in_err-write-2-clause-bytes : goal.returns-in_err-write-2-clause-bytes
returns-in_err-write-2-clause-bytes g c =
    let two = wrote c.in_ok-write.ensures.bytes (rw c.from.ensures at c.in_ok-put_number.ensures.bytes) in
    exit c.from_residual-in_err-write-2.result c.from_residual-in_err-write-2.ensures.0
    (cut (codes "\n") (cut c.args.said.now (wrote two c.in_err-write-2.ensures.bytes)))

pub returns-in_err-write-3-clause-bytes : goal.returns-in_err-write-3-clause-bytes
returns-in_err-write-3-clause-bytes g c =
    let two = wrote c.in_ok-write.ensures.bytes (rw c.from.ensures at c.in_ok-put_number.ensures.bytes) in
    let three = wrote two c.in_ok-write-2.ensures.bytes in
    exit c.from_residual-in_err-write-3.result c.from_residual-in_err-write-3.ensures.0
    (cut (codes "\n") (wrote three (rw c.as_bytes.ensures.value at c.in_err-write-3.ensures.bytes)))

pub returns-clause-bytes : goal.returns-clause-bytes
returns-clause-bytes g c =
    let two = wrote c.in_ok-write.ensures.bytes (rw c.from.ensures at c.in_ok-put_number.ensures.bytes) in
    let three = wrote two c.in_ok-write-2.ensures.bytes in
    wrote (wrote three (rw c.as_bytes.ensures.value at c.in_ok-write-3.ensures.bytes)) c.write-4.ensures.bytes
