use Rattle.std.proofs.Common.{◌+◌, ◌-◌, ◌≡◌, ◌∙◌, filter, ap, sym, arith}
use Rattle.std.specs.List.{range_with_len}
use Rattle.det_sync.specs.CutNets.{is_held}
use Rattle.det_sync.proofs.CutLaws.{place_kept, place_left}
use Rattle.det_sync.proofs.cut.held_between.Goals as goal

pub loop-v-preserved-then-not-is_held : goal.loop-v-preserved-then-not-is_held
loop-v-preserved-then-not-is_held c =
    let first = c.args.first in
    let v = c.loop-v.v in
    let behind = c.loop-v.invariant.behind in
    let test = is_held c.args.h.now c.args.marks.now in
    let next : v - first + 1 ≡ v + 1 - first = omega arith in
    record {
      behind = omega arith;
      held =
          place_left test first v (v - first) c.loop-v.held.items (omega arith) (sym c.is_held.ensures ∙ c.if-not-is_held.true) c.loop-v.invariant.held
          ∙ ap (λ n. filter test (range_with_len first n)) next;
    }

pub loop-v-preserved : goal.loop-v-preserved
loop-v-preserved c =
    let first = c.args.first in
    let v = c.loop-v.v in
    let behind = c.loop-v.invariant.behind in
    let test = is_held c.args.h.now c.args.marks.now in
    let next : v - first + 1 ≡ v + 1 - first = omega arith in
    record {
      behind = omega arith;
      held =
          place_kept test first v (v - first) c.loop-v.held.items _ (omega arith) (sym c.is_held.ensures ∙ c.if-not-is_held.false) c.loop-v.invariant.held
          c.in_ok-push.ensures.items
          ∙ ap (λ n. filter test (range_with_len first n)) next;
    }
