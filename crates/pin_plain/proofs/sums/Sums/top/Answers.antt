use Rattle.std.proofs.Common.{◌+◌, ◌<◌, ◌∙◌, length, take, slice_index, ap, sym, subst, arith, true≢false}
use Rattle.pin_plain.specs.Scores.{IsTarget, IsTopAmong}
use Rattle.pin_plain.proofs.TallyLaws.{tracked_count, target_block, top_kept, top_taken}
use Rattle.pin_plain.proofs.sums.Sums.top.Goals as goal
use Rattle.pin_plain.proofs.sums.Sums.top.Goals.{then-is_higher, else-is_higher}

pub offset_bounds-self-inside-i : goal.offset_bounds-self-inside-i
offset_bounds-self-inside-i c = let s = c.self.inside in let few = tracked_count s.sums s.touched s.count c.self.invariant in omega arith

pub bounds-self-inside-i : goal.bounds-self-inside-i
bounds-self-inside-i c = let s = c.self.inside in let few = tracked_count s.sums s.touched s.count c.self.invariant in omega arith

pub loop-i-preserved-then-loads-block : goal.loop-i-preserved-then-loads-block
loop-i-preserved-then-loads-block c =
    let s = c.self.inside in
    let few = tracked_count s.sums s.touched s.count c.self.invariant in
    let places = c.self.invariant.places in
    top_kept s.sums c.args.loads.now c.args.limit c.args.weight c.args.from c.args.loss s.touched c.loop-i.i (omega arith) c.loop-i.best
    (λ t higher. let room = t.room in let past = c.if-loads-block.true in omega arith) c.loop-i.invariant

pub loop-i-preserved : goal.loop-i-preserved
loop-i-preserved c =
    let s = c.self.inside in
    let i = c.loop-i.i in
    let few = tracked_count s.sums s.touched s.count c.self.invariant in
    let inside : i < length s.touched = let places = c.self.invariant.places in omega arith in
    let target : IsTarget c.args.loads.now c.args.limit c.args.weight c.args.from (slice_index s.touched i) =
    record {
      block = target_block s.sums s.touched c.args.loads.now s.count i c.self.invariant c.loop-i-test.true
          (λ b m. ap (λ xs. slice_index xs b) c.self.view_is ∙ c.requires.past b m);
      other = c.if-block-from.false;
      room = c.if-loads-block.false;
    } in
    elim c.if-is_higher.branch [
      | then-is_higher w ↦
          subst (IsTopAmong s.sums c.args.loads.now c.args.limit c.args.weight c.args.from c.args.loss (take (i + 1) s.touched)) (sym w.best-is)
          (top_taken s.sums c.args.loads.now c.args.limit c.args.weight c.args.from c.args.loss s.touched i inside c.loop-i.best target
          (c.is_higher.ensures.0 w.if-is_higher.true) c.loop-i.invariant)
      | else-is_higher w ↦
          subst (IsTopAmong s.sums c.args.loads.now c.args.limit c.args.weight c.args.from c.args.loss (take (i + 1) s.touched)) (sym w.best-is)
          (top_kept s.sums c.args.loads.now c.args.limit c.args.weight c.args.from c.args.loss s.touched i inside c.loop-i.best
          (λ t h. true≢false (sym (c.is_higher.ensures.1 h) ∙ w.if-is_higher.false)) c.loop-i.invariant)
    ]
