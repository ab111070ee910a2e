use Rattle.std.proofs.Common.{arith}
use Rattle.pin_plain.proofs.QuietLaws.{quiet_written}
use Rattle.pin_plain.proofs.partition.marking.quiet_marks.Goals as goal

pub returns-clause-quiet : goal.returns-clause-quiet
returns-clause-quiet g c =
    let p = c.args.p.now in
    let made = c.mark_runs.ensures.all in
    let count = c.in_ok-marks.ensures.count in
    let size = c.in_ok-marks.marks.ok in
    quiet_written c.args.h.now p.k p.blocks c.in_ok-marks.marks.len c.mark_runs.new.marks c.in_ok-marks.marks.items (omega arith) c.mark_runs.ensures

pub returns-then-threads-eq1-clause-quiet : goal.returns-then-threads-eq1-clause-quiet
returns-then-threads-eq1-clause-quiet g c = let p = c.args.p.now in c.in_ok-marks.ensures.quiet p.k p.blocks
