use Rattle.hg_io.proofs.TransferLemmas.{Writes-unsent, Writes-past}
use Rattle.hg_io.proofs.pen.Pen.write.Goals as goal

pub returns-in_err-send-clause-bytes : goal.returns-in_err-send-clause-bytes
returns-in_err-send-clause-bytes g c =
    Writes-unsent _ _ c.args.self.now c.send.new.self c.args.bytes.now c.from_residual.result c.from_residual.ensures.0 c.in_err-send.ensures.bytes.err

pub returns-then-bytes-gt-PEN_ROOM-clause-bytes : goal.returns-then-bytes-gt-PEN_ROOM-clause-bytes
returns-then-bytes-gt-PEN_ROOM-clause-bytes g c =
    let sent = c.in_ok-send.ensures in
    Writes-past _ _ _ c.args.self.now c.send.new.self c.args.bytes.now c.put_all.result sent.bytes.ok sent.empty c.put_all.ensures.bytes
