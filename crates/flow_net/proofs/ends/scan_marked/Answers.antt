use Rattle.std.proofs.Common.{◌≡◌, ◌+◌, ◌-◌, ◌<◌, ◌∙◌, length, slice_index, get_or-set_other, refl, sym, ap, subst, arith}
use Rattle.flow_net.specs.Residual.{head, mate}
use Rattle.flow_net.proofs.LevelLaws.{queue_room, queue_more, level_kept, spread_take}
use Rattle.flow_net.proofs.ends.scan_marked.Goals as goal
use Rattle.flow_net.proofs.ends.scan_marked.Goals.{then-lower+then-levels-from-eq0+then-rests-back-gt0, else-lower}

pub offset_bounds-queue-start : goal.offset_bounds-queue-start
offset_bounds-queue-start c =
    let a = queue_room c.args.levels.now c.args.last c.requires.spread.lined.count in
    let few = c.args.halves.linked.few in
    omega arith

pub bounds-queue-start : goal.bounds-queue-start
bounds-queue-start c = let a = queue_room c.args.levels.now c.args.last c.requires.spread.lined.count in omega arith

pub overflow_add-level : goal.overflow_add-level
overflow_add-level c =
    let a = queue_room c.args.levels.now c.args.last c.requires.spread.lined.count in
    let few = c.args.halves.linked.few in
    let low = c.requires.spread.low c.args.start c.requires.waiting in
    omega arith

pub offset_bounds-queue-end : goal.offset_bounds-queue-end
offset_bounds-queue-end c =
    let a = queue_room c.loop-at.levels c.loop-at.end c.loop-at.invariant.spread.lined.count in
    let few = c.args.halves.linked.few in
    omega arith

pub bounds-queue-end : goal.bounds-queue-end
bounds-queue-end c =
    let s = c.loop-at.invariant.spread.lined in
    let last = c.loop-at.invariant.within in
    let half : c.loop-at.at - 1 < length c.args.halves.heads.now = omega arith in
    let node = c.args.halves.linked.nodes (c.loop-at.at - 1) half in
    let a = queue_more c.loop-at.levels c.loop-at.end (head c.args.halves.heads.now (c.loop-at.at - 1)) s.count (omega arith) c.if-levels-from-eq0.true in
    omega arith

pub overflow_add-end : goal.overflow_add-end
overflow_add-end c =
    let a = queue_room c.loop-at.levels c.loop-at.end c.loop-at.invariant.spread.lined.count in
    let few = c.args.halves.linked.few in
    omega arith

pub loop-at-preserved : goal.loop-at-preserved
loop-at-preserved c =
    let g = c.args.halves in
    let i = c.loop-at.invariant in
    let at = c.loop-at.at in
    let u = head g.heads.now (at - 1) in
    let rests = c.args.rests.now in
    let node = slice_index c.args.queue.now c.args.start in
    let x = slice_index c.args.levels.now node + 1 in
    let order = i.order in
    let last = i.within in
    let next = g.linked.next (at - 1) (omega arith) in
    let less = next.within in
    let leaves : 0 < slice_index g.nexts.now (at - 1) → _ = λ q. next.leaves q ∙ i.leaves c.loop-at-test.true in
    let node_level : 0 < slice_index c.loop-at.levels node = subst (λ v. 0 < slice_index c.loop-at.levels v) i.here (i.spread.reached c.args.start order) in
    elim c.if-lower.branch [
      | then-lower+then-levels-from-eq0+then-rests-back-gt0 w ↦
          let e : slice_index c.loop-at.levels u ≡ 0 = w.if-levels-from-eq0.true in
          let r : 0 < slice_index rests (mate (at - 1)) = subst (λ h. 0 < slice_index rests h) c.mate-back.ensures w.if-rests-back-gt0.true in
          record {
            order = let a = w.end-is in omega arith;
            here =
                ap (λ xs. slice_index xs c.args.start) w.queue-is ∙ get_or-set_other c.loop-at.queue c.loop-at.end c.args.start u 0 (λ q. absurd (omega arith))
                ∙ i.here;
            within = omega arith;
            leaves = leaves;
            spread =
                rw (w.levels-is, w.ways-is, w.queue-is, w.end-is, c.mate-back.ensures)
                (spread_take g.heads.now g.nexts.now g.firsts.now rests g.linked c.loop-at.levels c.loop-at.ways c.loop-at.queue g.sink c.args.start
                c.loop-at.end node at u x
                (c.loop-at.auto.levels ∙ c.requires.levels) (c.loop-at.auto.ways ∙ c.requires.ways ∙ sym c.loop-at.auto.levels) (c.loop-at.auto.queue ∙
                c.requires.queue ∙ sym c.loop-at.auto.levels)
                i.spread order i.here c.loop-at-test.true last (i.leaves c.loop-at-test.true) refl i.level e r);
            level =
                i.level ∙ ap (λ n. n + 1)
                (sym (ap (λ xs. slice_index xs node) w.levels-is ∙ level_kept g.heads.now c.loop-at.levels c.loop-at.ways g.sink u x 0 node e node_level));
          }
      | else-lower w ↦ record {
        order = let a = w.end-is in omega arith;
        here = ap (λ xs. slice_index xs c.args.start) w.queue-is ∙ i.here;
        within = omega arith;
        leaves = leaves;
        spread = rw (w.levels-is, w.ways-is, w.queue-is, w.end-is) i.spread;
        level = i.level ∙ ap (λ xs. slice_index xs node + 1) (sym w.levels-is);
      }
    ]
