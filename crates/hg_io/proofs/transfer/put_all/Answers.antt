use Rattle.std.proofs.Common.{◌∙◌, arith, ◌-◌, length, drop, length-take, length-drop}
use Rattle.hg_io.proofs.TransferLemmas.{Appends-taken}
use Rattle.hg_io.proofs.transfer.put_all.Goals as goal

pub pieces-preserved : goal.pieces-preserved
pieces-preserved g c =
    let before = c.pieces.invariant in
    let put = c.in_ok-done.ensures in (
      omega (
        arith,
        put.bound,
        before.0,
        length-take (length c.args.bytes.now - c.pieces.done) (drop c.pieces.done c.args.bytes.now),
        length-drop c.pieces.done
            c.args.bytes.now,
      ),
      put.cause.kept ∙ before.1,
      Appends-taken _ _ _ _ c.pieces.done c.in_ok-done.field-0 before.2 put.bytes,
    )
