use Rattle.std.proofs.Common.{◌≡◌, ◌+◌, ◌-◌, ◌<◌, length, arith}
use Rattle.flow_net.proofs.LevelLaws.{queue_room}
use Rattle.flow_net.proofs.ends.narrow.Goals as goal

pub loop-levels-smaller : goal.loop-levels-smaller
loop-levels-smaller c =
    let room = queue_room c.loop-levels.levels c.loop-levels.end c.loop-levels.invariant.spread.lined.count in
    let order = c.loop-levels.invariant.order in
    let waits = c.if-start-end.false in
    let long : length c.scan_marked-end.new.levels ≡ length c.loop-levels.levels = c.scan_marked-end.auto.levels in
    let less : length c.scan_marked-end.new.levels - (c.loop-levels.start + 1) < length c.loop-levels.levels - c.loop-levels.start = omega arith in
    less
