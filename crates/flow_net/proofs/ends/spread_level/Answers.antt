use Rattle.std.proofs.Common.{◌≡◌, ◌+◌, ◌-◌, ◌<◌, length, arith}
use Rattle.flow_net.proofs.LevelLaws.{queue_room}
use Rattle.flow_net.proofs.ends.spread_level.Goals as goal

pub offset_bounds-line-start : goal.offset_bounds-line-start
offset_bounds-line-start c =
    let a = queue_room c.args.marks.now c.args.end c.requires.lined.count in
    let few = c.args.halves.linked.few in
    omega arith

pub bounds-line-start : goal.bounds-line-start
bounds-line-start c = let a = queue_room c.args.marks.now c.args.end c.requires.lined.count in omega arith

pub offset_bounds-line-start-in-loop-start : goal.offset_bounds-line-start-in-loop-start
offset_bounds-line-start-in-loop-start c =
    let a = queue_room c.loop-start.marks c.loop-start.end c.loop-start.invariant.lined.count in
    let few = c.args.halves.linked.few in
    let waits = c.loop-start-test.true in
    omega arith

pub bounds-line-start-in-loop-start : goal.bounds-line-start-in-loop-start
bounds-line-start-in-loop-start c =
    let a = queue_room c.loop-start.marks c.loop-start.end c.loop-start.invariant.lined.count in
    let waits = c.loop-start-test.true in
    omega arith

pub loop-start-smaller : goal.loop-start-smaller
loop-start-smaller c =
    let room = queue_room c.loop-start.marks c.loop-start.end c.loop-start.invariant.lined.count in
    let order = c.loop-start.invariant.order in
    let long : length c.spread-end.new.marks ≡ length c.loop-start.marks = c.spread-end.auto.marks in
    let less : length c.spread-end.new.marks - (c.loop-start.start + 1) < length c.loop-start.marks - c.loop-start.start = omega arith in
    less
