use Rattle.std.proofs.Common.{◌++◌, [], filter, ap, ◌∙◌}
use Rattle.flow_pair.specs.Sides.{is_small, small_nets}
use Rattle.flow_pair.proofs.MemberLaws.{flat_map_next}
use Rattle.flow_pair.proofs.region.all_small_nets_of.Goals as goal

pub loop-v-preserved : goal.loop-v-preserved
loop-v-preserved c =
    flat_map_next (small_nets c.args.h.now) c.args.vertices.now c.loop-v.v-index 0 [] c.loop-v.list.items c.add_small.new.list.items c.loop-v-test.true
    (c.in_ok-add_small.ensures ∙ ap (λ nets. c.loop-v.list.items ++ filter (is_small c.args.h.now) nets) c.nets_of.ensures.value) c.loop-v.invariant
