use Rattle.std.proofs.Common.{◌+◌, ◌++◌, false, length, slice_index, slice_index_or, ap, arith, ◌∙◌}
use Rattle.std.proofs.lemmas.List.{length-append}
use Rattle.hg_defs.specs.Hypergraph.{net_of}
use Rattle.hg_defs.proofs.SumLaws.{total-take_more, total_more-le}
use Rattle.flow_pair.specs.declared.notes.Note.{Note}
use Rattle.flow_pair.specs.ShortNetwork.{short_arcs, short_count, fixed_price}
use Rattle.flow_pair.proofs.NoteLaws.{note-at, note-count, note-arcs, note-fixed, note-below, note-few}
use Rattle.flow_pair.proofs.ShortArcLaws.{short-rest, short-few, short_count-few, sum-rest}
use Rattle.flow_pair.proofs.short.add_run.Goals as goal

abbrev none : Note
none = record { from = 0; to = 0; outside = (false, false); price = 0 }

pub add_short-requires-clause-nodes : goal.add_short-requires-clause-nodes
add_short-requires-clause-nodes c =
    let s = c.args.pair in
    let i = c.loop-i.i in
    let nets = c.args.nets.now in
    let is = note-at s.h.now s.blocks.now s.first s.second s.region.now nets c.args.run.now.nodes.items c.as_slice-nodes.result.now
    c.args.run.now.nets.items c.as_slice-notes.result.now i none c.requires.noted c.loop-i-test.true c.as_slice-notes.ensures.value
    c.as_slice-nodes.ensures.value in
    note-below s.h.now s.blocks.now s.first s.second s.region.now c.as_slice-nodes.result.now (net_of s.h.now (slice_index nets i))
    (slice_index_or c.as_slice-notes.result.now i none) is c.loop-i.network.nodes c.loop-i.invariant.low

pub add_short-requires-clause-price : goal.add_short-requires-clause-price
add_short-requires-clause-price c =
    let s = c.args.pair in
    let is = note-at s.h.now s.blocks.now s.first s.second s.region.now c.args.nets.now c.args.run.now.nodes.items c.as_slice-nodes.result.now
    c.args.run.now.nets.items c.as_slice-notes.result.now c.loop-i.i none c.requires.noted c.loop-i-test.true c.as_slice-notes.ensures.value
    c.as_slice-nodes.ensures.value in
    let small = is.small in
    omega arith

pub add_short-requires-clause-room : goal.add_short-requires-clause-room
add_short-requires-clause-room c =
    let s = c.args.pair in
    let h = s.h.now in
    let i = c.loop-i.i in
    let nets = c.args.nets.now in
    let is = note-at h s.blocks.now s.first s.second s.region.now nets c.args.run.now.nodes.items c.as_slice-nodes.result.now
    c.args.run.now.nets.items c.as_slice-notes.result.now i none c.requires.noted c.loop-i-test.true c.as_slice-notes.ensures.value
    c.as_slice-nodes.ensures.value in
    let own = note-few h s.blocks.now s.first s.second s.region.now c.as_slice-nodes.result.now (net_of h (slice_index nets i))
    (slice_index_or c.as_slice-notes.result.now i none) is in
    let more = total_more-le (λ e. length (net_of h e).pins) nets i 0 c.loop-i-test.true in
    let few = c.loop-i.invariant.few in
    let room = c.requires.room in
    let test = c.loop-i-test.true in
    omega arith

pub loop-i-preserved : goal.loop-i-preserved
loop-i-preserved c =
    let s = c.args.pair in
    let h = s.h.now in
    let p = s.blocks.now in
    let a = s.first in
    let b = s.second in
    let region = s.region.now in
    let nets = c.args.nets.now in
    let j = c.loop-i.i in
    let i = c.loop-i.invariant in
    let x = c.in_ok-fixed.ensures.extended in
    let l = c.loop-i-test.true in
    let ys = c.as_slice-nodes.result.now in
    let e = net_of h (slice_index nets j) in
    let note = slice_index_or c.as_slice-notes.result.now j none in
    let is = note-at h p a b region nets c.args.run.now.nodes.items ys c.args.run.now.nets.items c.as_slice-notes.result.now j none c.requires.noted l
    c.as_slice-notes.ensures.value c.as_slice-nodes.ensures.value in
    let more_nodes = x.more_nodes ∙ ap (λ n. c.loop-i.network.nodes + n) (note-count h p a b region ys e note is) in
    let more_arcs = x.more_arcs ∙ ap (λ xs. c.loop-i.network.arcs ++ xs) (note-arcs h p a b region ys e note is s.most c.loop-i.network.nodes s.above) in
    let count = short_count-few h p a b region e in
    record {
      nodes = sum-rest h p a b region (short_count p a b region) nets j c.loop-i.network.nodes c.add_short.new.network.nodes _ l more_nodes i.nodes;
      low = let was = i.low in let more = more_nodes in omega arith;
      high = let was = i.high in let more = more_nodes in omega arith;
      arcs = short-rest h p a b region c.loop-i.network c.add_short.new.network _ nets j l more_nodes more_arcs i.arcs;
      idle = x.idle;
      few =
          let was = i.few in
          let all = ap length more_arcs in
          let both = length-append c.loop-i.network.arcs (short_arcs h p a b region c.loop-i.network.nodes e) in
          let own = short-few h p a b region c.loop-i.network.nodes e in
          let sum = total-take_more (λ e. length (net_of h e).pins) nets j 0 l in
          omega arith;
      fixed = sum-rest h p a b region (fixed_price h p a b region) nets j c.loop-i.fixed _ _ l
          (ap (λ n. c.loop-i.fixed + n) (c.in_ok-fixed.ensures.fixed ∙ note-fixed h p a b region ys e note is)) i.fixed;
    }
