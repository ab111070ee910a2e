use Rattle.std.proofs.Common.{◌≡◌, ◌+◌, ◌-◌, ◌<◌, ◌∙◌, length, length-set, arith}
use Rattle.flow_net.proofs.LevelLaws.{queue_room, search_begin, search_closed}
use Rattle.flow_net.proofs.levels.search.Goals as goal

pub loop-levels-init : goal.loop-levels-init
loop-levels-init c =
    let g = c.args.halves in
    record {
      order = omega arith;
      searched =
          search_begin g.heads.now g.nexts.now g.firsts.now c.args.rests.now g.linked c.clear.new.list c.args.ways.now c.args.queue.now g.sink
          (λ v l. c.clear.ensures v (omega arith)) (omega (arith, g.sink_in)) (omega arith);
    }

pub returns-then-start-end-clause-closed : goal.returns-then-start-end-clause-closed
returns-then-start-end-clause-closed c =
    let g = c.args.halves in
    let long : length c.loop-levels.levels ≡ length g.firsts.now =
    c.loop-levels.auto.levels ∙ length-set c.clear.new.list g.sink 1 ∙ c.clear.auto.list ∙ c.requires.levels in
    λ e. search_closed g.heads.now g.nexts.now g.firsts.now c.args.rests.now g.linked c.loop-levels.levels c.loop-levels.ways c.loop-levels.queue g.sink
    c.loop-levels.start c.loop-levels.end
    long (omega arith) c.loop-levels.invariant.searched

pub overflow_add-start : goal.overflow_add-start
overflow_add-start c =
    let g = c.args.halves in
    let few = g.linked.few in
    let room = queue_room c.loop-levels.levels c.loop-levels.end c.loop-levels.invariant.searched.spread.lined.count in
    let order = c.loop-levels.invariant.order in
    let long : length c.loop-levels.levels ≡ length g.firsts.now =
    c.loop-levels.auto.levels ∙ length-set c.clear.new.list g.sink 1 ∙ c.clear.auto.list ∙ c.requires.levels in
    omega arith

pub loop-levels-smaller : goal.loop-levels-smaller
loop-levels-smaller c =
    let room = queue_room c.loop-levels.levels c.loop-levels.end c.loop-levels.invariant.searched.spread.lined.count in
    let order = c.loop-levels.invariant.order in
    let waits = c.if-start-end.false in
    let long : length c.scan-end.new.levels ≡ length c.loop-levels.levels = c.scan-end.auto.levels in
    let less : length c.scan-end.new.levels - (c.loop-levels.start + 1) < length c.loop-levels.levels - c.loop-levels.start = omega arith in
    less
