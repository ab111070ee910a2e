use Rattle.std.proofs.Common.{◌∙◌, ap, arith}
use Rattle.std.proofs.lemmas.List.{take_all}
use Rattle.hg_defs.specs.Sums.{total}
use Rattle.hg_defs.specs.Partition.{block_of}
use Rattle.hg_defs.proofs.SumLaws.{total-take_more}
use Rattle.pin_plain.specs.Savings.{net_saved, net_lost}
use Rattle.pin_plain.proofs.ScoreLaws.{lost_so_far, lost_bound, room_for}
use Rattle.pin_plain.proofs.scores.Scores.score.Goals as goal

pub add_net-loss-requires-clause-room : goal.add_net-loss-requires-clause-room
add_net-loss-requires-clause-room c b =
    let l = c.args.lent.now in
    room_for l.h.now l.blocks.now b (block_of l.blocks.now c.args.v) c.args.v c.loop-e.e-index c.nets_of-e-items.result.now c.loop-e.self.sums
    c.args.lent.now.told.parted.bounds c.nets_of-e-items.ensures.value c.loop-e-test.true
    c.loop-e.invariant.own c.loop-e.invariant.sums

pub overflow_add-loss : goal.overflow_add-loss
overflow_add-loss c =
    let l = c.args.lent.now in
    let bound = lost_so_far l.h.now l.blocks.now (block_of l.blocks.now c.args.v) c.args.v c.loop-e.e-index c.nets_of-e-items.result.now
    c.args.lent.now.told.parted.bounds c.nets_of-e-items.ensures.value c.loop-e-test.true in
    let now = c.loop-e.invariant.lost in
    let one = c.add_net-loss.ensures.lost in
    omega arith

pub loop-e-preserved : goal.loop-e-preserved
loop-e-preserved c =
    let l = c.args.lent.now in
    let from = block_of l.blocks.now c.args.v in
    record {
      lost =
          let more = total-take_more (net_lost l.h.now l.blocks.now from) c.nets_of-e-items.result.now c.loop-e.e-index 0 c.loop-e-test.true in
          let now = c.loop-e.invariant.lost in
          let one = c.add_net-loss.ensures.lost in
          omega arith;
      sums = λ b q.
          let more = total-take_more (net_saved l.h.now l.blocks.now b) c.nets_of-e-items.result.now c.loop-e.e-index 0 c.loop-e-test.true in
          let now = c.loop-e.invariant.sums b q in
          let one = c.add_net-loss.ensures.sums b q in
          omega arith;
      own = c.add_net-loss.ensures.own ∙ c.loop-e.invariant.own;
    }

pub returns-clause-bound : goal.returns-clause-bound
returns-clause-bound c =
    let l = c.args.lent.now in
    let from = block_of l.blocks.now c.args.v in
    let all = ap (total (net_lost l.h.now l.blocks.now from)) (take_all c.loop-e.e-index c.nets_of-e-items.result.now (omega arith) ∙
    c.nets_of-e-items.ensures.value) in
    let bound = lost_bound l.h.now l.blocks.now from c.args.v c.args.lent.now.told.parted.bounds in
    let now = c.loop-e.invariant.lost in
    omega arith
