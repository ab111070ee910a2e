use Rattle.flow_pair.proofs.FormLaws.{take_next, take_last}
use Rattle.flow_pair.proofs.region.take_all.Goals as goal

pub loop-v-preserved : goal.loop-v-preserved
loop-v-preserved c =
    take_next c.args.h.now c.loop-v.left c.in_ok-left.left c.args.room c.loop-v.v-index c.args.vertices.now c.loop-v.list.items c.take.new.list.items
    c.args.list.now.items c.loop-v-test.true c.in_ok-left.ensures c.loop-v.invariant

pub returns : goal.returns
returns c =
    take_last c.args.h.now c.loop-v.left c.args.room c.loop-v.v-index c.args.vertices.now c.loop-v.list.items c.args.list.now.items c.loop-v-test.false
    c.loop-v.invariant
