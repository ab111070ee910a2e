use Rattle.std.proofs.Common.{OnErr, Result, Ok, Err}
use Rattle.pin_plain.proofs.SettleLaws.{added_none, breaks_before}
use Rattle.pin_plain.proofs.partition.Partition.settle.Goals as goal

pub settle_from-requires-clause-quiet : goal.settle_from-requires-clause-quiet
settle_from-requires-clause-quiet c = let p = c.args.self.now in c.in_ok-marks.ensures.quiet p.k p.blocks

pub returns-in_err-marks-clause-err : goal.returns-in_err-marks-clause-err
returns-in_err-marks-clause-err c =
    let p = c.args.self.now in
    on_err c.from_residual.result
    (breaks_before c.args.h.now p.k p.limit p.blocks p.blocks c.args.log.now c.args.log.now 0
    (added_none c.args.h.now p.k p.limit p.blocks c.args.log.now))
  where
    on_err : {T E X : Type 0} (r : Result T E) → X → OnErr r X
    on_err (Ok t) x = tt
    on_err (Err e) x = x
