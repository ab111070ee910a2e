-- One net more.
use Rattle.std.proofs.Common.{◌≡◌, ◌<◌, length, slice_index, arith}
use Rattle.coarsen.proofs.CountLaws.{raised_more}
use Rattle.coarsen.proofs.marks.count_once_more.Goals as goal

pub loop-e-preserved : goal.loop-e-preserved
loop-e-preserved c =
    let below = c.requires.below c.loop-e.e-index 0 c.loop-e-test.true in
    let long = c.loop-e.auto.counts in
    raised_more c.args.nets.now c.args.counts.now c.loop-e.counts c.loop-e.e-index c.saturating_add.result c.requires.rising c.loop-e-test.true
    (omega arith) c.loop-e.invariant c.saturating_add.ensures
