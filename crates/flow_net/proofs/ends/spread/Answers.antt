use Rattle.std.proofs.Common.{◌≡◌, ◌-◌, ◌<◌, ◌∙◌, length, sym, arith}
use Rattle.flow_net.specs.Residual.{head}
use Rattle.flow_net.proofs.LevelLaws.{queue_room, queue_more, lined_set}
use Rattle.flow_net.proofs.ends.spread.Goals as goal
use Rattle.flow_net.proofs.ends.spread.Goals.{then-marks-to-eq0+then-rests-half-gt0, else-marks-to-eq0}

pub offset_bounds-line-start : goal.offset_bounds-line-start
offset_bounds-line-start c =
    let a = queue_room c.args.marks.now c.args.end c.requires.lined.count in
    let few = c.args.halves.linked.few in
    omega arith

pub bounds-line-start : goal.bounds-line-start
bounds-line-start c = let a = queue_room c.args.marks.now c.args.end c.requires.lined.count in omega arith

pub offset_bounds-line-end : goal.offset_bounds-line-end
offset_bounds-line-end c =
    let a = queue_room c.loop-at.marks c.loop-at.end c.loop-at.invariant.lined.count in
    let few = c.args.halves.linked.few in
    omega arith

pub bounds-line-end : goal.bounds-line-end
bounds-line-end c =
    let s = c.loop-at.invariant.lined in
    let last = c.loop-at.invariant.within in
    let half : c.loop-at.at - 1 < length c.args.halves.heads.now = omega arith in
    let node = c.args.halves.linked.nodes (c.loop-at.at - 1) half in
    let a = queue_more c.loop-at.marks c.loop-at.end (head c.args.halves.heads.now (c.loop-at.at - 1)) s.count (omega arith) c.if-marks-to-eq0.true in
    omega arith

pub overflow_add-end : goal.overflow_add-end
overflow_add-end c =
    let a = queue_room c.loop-at.marks c.loop-at.end c.loop-at.invariant.lined.count in
    let few = c.args.halves.linked.few in
    omega arith

pub loop-at-preserved : goal.loop-at-preserved
loop-at-preserved c =
    let g = c.args.halves in
    let s = c.loop-at.invariant.lined in
    let order = c.loop-at.invariant.order in
    let last = c.loop-at.invariant.within in
    let half : c.loop-at.at - 1 < length g.heads.now = omega arith in
    let node = g.linked.nodes (c.loop-at.at - 1) half in
    let next = g.linked.next (c.loop-at.at - 1) half in
    let less = next.within in
    let long : length c.loop-at.line ≡ length c.loop-at.marks = c.loop-at.auto.line ∙ c.requires.line ∙ sym c.loop-at.auto.marks in
    elim c.if-marks-to-eq0.branch [
      | then-marks-to-eq0+then-rests-half-gt0 w ↦ record {
        order = let e = w.end-is in omega arith;
        within = omega arith;
        lined =
            rw (w.marks-is, w.line-is, w.end-is)
            (lined_set c.loop-at.marks c.loop-at.line c.loop-at.end (head g.heads.now (c.loop-at.at - 1)) c.args.mark s long (omega arith)
            w.if-marks-to-eq0.true c.requires.positive);
      }
      | else-marks-to-eq0 w ↦ record {
        order = let e = w.end-is in omega arith;
        within = omega arith;
        lined = rw (w.marks-is, w.line-is, w.end-is) s;
      }
    ]
