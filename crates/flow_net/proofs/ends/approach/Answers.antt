use Rattle.std.proofs.Common.{length-set, arith}
use Rattle.flow_net.proofs.LevelLaws.{queue_room, search_begin, lined_begin}
use Rattle.flow_net.proofs.ends.approach.Goals as goal
use Rattle.flow_net.proofs.ends.approach.Goals.{then-last-first+else-any_has, else-last-first+else-any_has-2}

pub loop-mark-init : goal.loop-mark-init
loop-mark-init c =
    let g = c.args.halves in
    record {
      order = omega arith;
      searched =
          search_begin g.heads.now g.nexts.now g.firsts.now c.args.rests.now g.linked c.clear.new.list c.args.ways.now c.args.queue.now g.sink
          (λ v l. c.clear.ensures v (omega arith)) (omega (arith, g.sink_in)) (omega arith);
      marked = omega arith;
      lined =
          lined_begin c.clear-2.new.list c.args.line.now g.source 1 (λ v l. c.clear-2.ensures v (omega arith)) (omega (arith, g.source_in)) (omega arith)
          (omega arith);
    }

pub any_has-requires-clause-end : goal.any_has-requires-clause-end
any_has-requires-clause-end c =
    let room = queue_room c.spread_level.new.marks c.spread_level.result.1 c.spread_level.ensures.lined.count in
    let marks = length-set c.clear-2.new.list c.args.halves.source 1 in
    let line = length-set c.args.line.now 0 c.args.halves.source in
    omega arith

pub any_has-requires-else-last-first-clause-end : goal.any_has-requires-else-last-first-clause-end
any_has-requires-else-last-first-clause-end c =
    let room = queue_room c.scan_level.new.levels c.scan_level.result.1 c.scan_level.ensures.searched.spread.lined.count in
    let levels = length-set c.clear.new.list c.args.halves.sink 1 in
    let queue = length-set c.args.queue.now 0 c.args.halves.sink in
    omega arith

pub loop-mark-preserved : goal.loop-mark-preserved
loop-mark-preserved c =
    let i = c.loop-mark.invariant in
    elim c.if-last-first.branch [
      | then-last-first+else-any_has w ↦ record {
        order = rw (w.start-is, w.end-is) i.order;
        searched = rw (w.levels-is, w.ways-is, w.queue-is, w.start-is, w.end-is) i.searched;
        marked = rw (w.first-is, w.last-is) w.spread_level.ensures.order;
        lined = rw (w.marks-is, w.line-is, w.last-is) w.spread_level.ensures.lined;
      }
      | else-last-first+else-any_has-2 w ↦ record {
        order = rw (w.start-is, w.end-is) w.scan_level.ensures.order;
        searched = rw (w.levels-is, w.ways-is, w.queue-is, w.start-is, w.end-is) w.scan_level.ensures.searched;
        marked = rw (w.first-is, w.last-is) i.marked;
        lined = rw (w.marks-is, w.line-is, w.last-is) i.lined;
      }
    ]
