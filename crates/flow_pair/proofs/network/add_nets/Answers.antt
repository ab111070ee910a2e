use Rattle.std.proofs.Common.{◌≤◌, length, arith}
use Rattle.hg_defs.specs.Hypergraph.{net_of}
use Rattle.hg_defs.proofs.SumLaws.{total-take_more, total_more-le}
use Rattle.flow_pair.specs.PairNetwork.{joins}
use Rattle.flow_pair.proofs.NetLaws.{joined_few}
use Rattle.flow_pair.proofs.RegionLaws.{nets-rest, nets-made}
use Rattle.flow_pair.proofs.network.add_nets.Goals as goal

pub add_net-requires-clause-nodes : goal.add_net-requires-clause-nodes
add_net-requires-clause-nodes c =
    let s = c.args.pair in
    let few = joined_few s.h.now (joins s.blocks.now s.first s.second s.region.now) c.args.nets.now c.requires.joined in
    let nodes = c.loop-e.invariant.nodes in
    let test = c.loop-e-test.true in
    let small = s.small in
    let most = c.nets-nets.ensures.bounds.nets in
    omega arith

pub add_net-requires-clause-room : goal.add_net-requires-clause-room
add_net-requires-clause-room c =
    let s = c.args.pair in
    let h = s.h.now in
    let bounds = c.nets-nets.ensures.bounds in
    let nets = bounds.nets in
    let pins = bounds.pins in
    let all = joined_few h (joins s.blocks.now s.first s.second s.region.now) c.args.nets.now c.requires.joined in
    let more = total_more-le (λ e. length (net_of h e).pins) c.args.nets.now c.loop-e.e-index 0 c.loop-e-test.true in
    let few = c.loop-e.invariant.few in
    let test = c.loop-e-test.true in
    omega arith

pub loop-e-preserved : goal.loop-e-preserved
loop-e-preserved c =
    let s = c.args.pair in
    let h = s.h.now in
    let i = c.loop-e.invariant in
    let x = c.in_ok-add_net.ensures.extended in
    let nodes = x.more_nodes in
    record {
      nodes = let was = i.nodes in omega arith;
      arcs = nets-rest h s.blocks.now s.first s.second s.region.now c.loop-e.network c.add_net.new.network _ c.args.nets.now c.loop-e.e-index
          c.loop-e-test.true nodes x.more_arcs i.arcs;
      idle = x.idle;
      few =
          let was = i.few in
          let more = c.in_ok-add_net.ensures.few in
          let sum = total-take_more (λ e. length (net_of h e).pins) c.args.nets.now c.loop-e.e-index 0 c.loop-e-test.true in
          omega arith;
    }

pub returns : goal.returns
returns c =
    let s = c.args.pair in
    let i = c.loop-e.invariant in
    let most : c.loop-e.e-index ≤ length c.args.nets.now = omega arith in
    nets-made s.h.now s.blocks.now s.first s.second s.region.now c.loop-e.network c.args.nets.now c.loop-e.e-index most c.loop-e-test.false
    c.requires.joined i.nodes i.arcs i.idle
