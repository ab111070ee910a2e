use Rattle.std.proofs.Common.{◌≡◌, ◌+◌, ◌-◌, ◌<◌, length, arith}
use Rattle.flow_net.proofs.LevelLaws.{queue_room}
use Rattle.flow_net.proofs.ends.scan_level.Goals as goal

pub offset_bounds-queue-start : goal.offset_bounds-queue-start
offset_bounds-queue-start c =
    let a = queue_room c.args.levels.now c.args.end c.requires.searched.spread.lined.count in
    let few = c.args.halves.linked.few in
    omega arith

pub bounds-queue-start : goal.bounds-queue-start
bounds-queue-start c = let a = queue_room c.args.levels.now c.args.end c.requires.searched.spread.lined.count in omega arith

pub offset_bounds-queue-start-in-loop-start : goal.offset_bounds-queue-start-in-loop-start
offset_bounds-queue-start-in-loop-start c =
    let a = queue_room c.loop-start.levels c.loop-start.end c.loop-start.invariant.searched.spread.lined.count in
    let few = c.args.halves.linked.few in
    let waits = c.loop-start-test.true in
    omega arith

pub bounds-queue-start-in-loop-start : goal.bounds-queue-start-in-loop-start
bounds-queue-start-in-loop-start c =
    let a = queue_room c.loop-start.levels c.loop-start.end c.loop-start.invariant.searched.spread.lined.count in
    let waits = c.loop-start-test.true in
    omega arith

pub loop-start-smaller : goal.loop-start-smaller
loop-start-smaller c =
    let room = queue_room c.loop-start.levels c.loop-start.end c.loop-start.invariant.searched.spread.lined.count in
    let order = c.loop-start.invariant.order in
    let long : length c.scan-end.new.levels ≡ length c.loop-start.levels = c.scan-end.auto.levels in
    let less : length c.scan-end.new.levels - (c.loop-start.start + 1) < length c.loop-start.levels - c.loop-start.start = omega arith in
    less
