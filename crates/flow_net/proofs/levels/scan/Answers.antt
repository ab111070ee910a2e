use Rattle.std.proofs.Common.{◌≡◌, ◌+◌, ◌-◌, ◌<◌, ◌∙◌, length, slice_index, refl, sym, ap, subst, arith}
use Rattle.flow_net.specs.Residual.{head, mate}
use Rattle.flow_net.proofs.LevelLaws.{queue_room, queue_more, scan_begin, scan_take, scan_skip, level_kept, node_level, scan_end}
use Rattle.flow_net.proofs.levels.scan.Goals as goal
use Rattle.flow_net.proofs.levels.scan.Goals.{then-rests-back-gt0+then-levels-from-eq0, else-rests-back-gt0}
use Rattle.flow_net.proofs.levels.scan.Goals.{else-rests-back-gt0-via-then-rests-back-gt0+else-levels-from-eq0}
use Rattle.flow_net.proofs.levels.scan.Goals.{else-rests-back-gt0-via-else-rests-back-gt0}

pub offset_bounds-queue-start : goal.offset_bounds-queue-start
offset_bounds-queue-start c =
    let a = queue_room c.args.levels.now c.args.end c.requires.searched.spread.lined.count in
    let few = c.args.halves.linked.few in
    omega arith

pub bounds-queue-start : goal.bounds-queue-start
bounds-queue-start c = let a = queue_room c.args.levels.now c.args.end c.requires.searched.spread.lined.count in omega arith

pub overflow_add-level : goal.overflow_add-level
overflow_add-level c =
    let a = queue_room c.args.levels.now c.args.end c.requires.searched.spread.lined.count in
    let few = c.args.halves.linked.few in
    let low = c.requires.searched.spread.low c.args.start c.requires.waiting in
    omega arith

pub loop-at-init : goal.loop-at-init
loop-at-init c = record {
  scanned =
      scan_begin c.args.halves.heads.now c.args.halves.nexts.now c.args.halves.firsts.now c.args.rests.now c.args.halves.linked
      c.args.levels.now c.args.ways.now c.args.queue.now c.args.halves.sink c.args.start c.args.end c.requires.levels c.requires.waiting
      c.requires.searched;
  level = refl;
}

pub offset_bounds-queue-end : goal.offset_bounds-queue-end
offset_bounds-queue-end c =
    let s = c.loop-at.invariant.scanned in
    let a = queue_room c.loop-at.levels c.loop-at.end s.spread.lined.count in
    let few = c.args.halves.linked.few in
    omega arith

pub bounds-queue-end : goal.bounds-queue-end
bounds-queue-end c =
    let s = c.loop-at.invariant.scanned in
    let last = s.last in
    let half : c.loop-at.at - 1 < length c.args.halves.heads.now = omega arith in
    let node = c.args.halves.linked.nodes (c.loop-at.at - 1) half in
    let a = queue_more c.loop-at.levels c.loop-at.end (head c.args.halves.heads.now (c.loop-at.at - 1)) s.spread.lined.count (omega arith) c.if-levels-from-eq0.true in
    omega arith

pub overflow_add-end : goal.overflow_add-end
overflow_add-end c =
    let s = c.loop-at.invariant.scanned in
    let a = queue_room c.loop-at.levels c.loop-at.end s.spread.lined.count in
    let few = c.args.halves.linked.few in
    omega arith

pub loop-at-preserved : goal.loop-at-preserved
loop-at-preserved c =
    let g = c.args.halves in
    let s = c.loop-at.invariant.scanned in
    let at = c.loop-at.at in
    let u = head g.heads.now (at - 1) in
    let node = slice_index c.args.queue.now c.args.start in
    let x = slice_index c.args.levels.now node + 1 in
    let rests = c.args.rests.now in
    let node_level : 0 < slice_index c.loop-at.levels node = node_level g.heads.now g.nexts.now g.firsts.now rests g.linked c.loop-at.levels c.loop-at.ways
    c.loop-at.queue g.sink c.args.start c.loop-at.end node at s in
    elim c.if-rests-back-gt0.branch [
      | then-rests-back-gt0+then-levels-from-eq0 w ↦
          let e : slice_index c.loop-at.levels u ≡ 0 = w.if-levels-from-eq0.true in
          let r : 0 < slice_index rests (mate (at - 1)) = subst (λ h. 0 < slice_index rests h) c.mate-back.ensures w.if-rests-back-gt0.true in
          record {
            scanned =
                rw (w.levels-is, w.ways-is, w.queue-is, w.end-is, c.mate-back.ensures)
                (scan_take g.heads.now g.nexts.now g.firsts.now rests g.linked c.loop-at.levels c.loop-at.ways c.loop-at.queue g.sink c.args.start
                c.loop-at.end node at u x
                (c.loop-at.auto.levels ∙ c.requires.levels) (c.loop-at.auto.ways ∙ c.requires.ways ∙ sym c.loop-at.auto.levels) (c.loop-at.auto.queue ∙
                c.requires.queue ∙ sym c.loop-at.auto.levels)
                s.spread s.order s.here c.loop-at-test.true s.last (s.leaves c.loop-at-test.true) refl c.loop-at.invariant.level e r s);
            level =
                c.loop-at.invariant.level ∙ ap (λ n. n + 1)
                (sym (ap (λ xs. slice_index xs node) w.levels-is ∙ level_kept g.heads.now c.loop-at.levels c.loop-at.ways g.sink u x 0 node e node_level));
          }
      | else-rests-back-gt0 w ↦
          let skip : (slice_index c.loop-at.levels u ≡ 0 → slice_index rests (mate (at - 1)) ≡ 0) =
          elim w.else-rests-back-gt0.branch [
            | else-rests-back-gt0-via-then-rests-back-gt0+else-levels-from-eq0 w' ↦ (λ z. absurd (w'.if-levels-from-eq0.false z))
            | else-rests-back-gt0-via-else-rests-back-gt0 w' ↦ (λ z. ap (slice_index rests) (sym c.mate-back.ensures) ∙
                (let f = w'.if-rests-back-gt0.false in omega arith))
          ] in
          record {
            scanned =
                rw (w.levels-is, w.ways-is, w.queue-is, w.end-is)
                (scan_skip g.heads.now g.nexts.now g.firsts.now rests g.linked c.loop-at.levels c.loop-at.ways c.loop-at.queue g.sink c.args.start
                c.loop-at.end node at
                s c.loop-at-test.true skip);
            level = c.loop-at.invariant.level ∙ ap (λ xs. slice_index xs node + 1) (sym w.levels-is);
          }
    ]

pub returns-clause-later : goal.returns-clause-later
returns-clause-later c = c.loop-at.invariant.scanned.order

pub returns-clause-searched : goal.returns-clause-searched
returns-clause-searched c =
    scan_end c.args.halves.heads.now c.args.halves.nexts.now c.args.halves.firsts.now c.args.rests.now c.args.halves.linked
    c.loop-at.levels c.loop-at.ways c.loop-at.queue c.args.halves.sink c.args.start c.loop-at.end _ c.loop-at.at (omega arith) c.loop-at.invariant.scanned
