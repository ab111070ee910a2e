use Rattle.flow_pair.specs.Sides.{is_free_in}
use Rattle.flow_pair.proofs.MemberLaws.{filter_next}
use Rattle.flow_pair.proofs.region.add_free.Goals as goal

pub loop-v-preserved : goal.loop-v-preserved
loop-v-preserved c =
    filter_next (is_free_in c.args.h.now c.args.blocks.now c.args.block) c.args.vertices.now c.loop-v.v-index c.may_leave.result c.args.list.now.items
    c.loop-v.list.items c.push_if.new.list.items c.loop-v-test.true c.may_leave.ensures c.in_ok-push_if.ensures c.loop-v.invariant
