use Rattle.std.proofs.Common.{slice_index, arith}
use Rattle.flow_pair.proofs.RegionLaws.{pins-rest, pins-few}
use Rattle.flow_pair.proofs.network.add_pins.Goals as goal

pub loop-v-preserved : goal.loop-v-preserved
loop-v-preserved c =
    let s = c.args.pair in
    let x = c.in_ok-add_pin.ensures.extended in
    let v = slice_index c.args.pins.now c.loop-v.v-index in
    record {
      nodes = let a = x.more_nodes in let b = c.loop-v.invariant.nodes in omega arith;
      arcs =
          pins-rest s.h.now s.blocks.now s.first s.second s.region.now c.loop-v.network.arcs c.add_pin.new.network.arcs _ c.args.pins.now c.args.at
          c.loop-v.v-index c.loop-v-test.true
          x.more_arcs c.loop-v.invariant.arcs;
      idle = x.idle;
      few =
          let a = pins-few s.h.now s.blocks.now s.first s.second s.region.now c.loop-v.network.arcs c.add_pin.new.network.arcs c.args.at v x.more_arcs in
          let b = c.loop-v.invariant.few in
          omega arith;
    }
