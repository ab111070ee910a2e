use Rattle.flow_pair.specs.Sides.{is_small}
use Rattle.flow_pair.proofs.MemberLaws.{filter_next}
use Rattle.flow_pair.proofs.region.add_small.Goals as goal

pub loop-e-preserved : goal.loop-e-preserved
loop-e-preserved c =
    filter_next (is_small c.args.h.now) c.args.nets.now c.loop-e.e-index c.is_grown_through.result c.args.list.now.items c.loop-e.list.items
    c.push_if.new.list.items c.loop-e-test.true c.is_grown_through.ensures c.in_ok-push_if.ensures c.loop-e.invariant
