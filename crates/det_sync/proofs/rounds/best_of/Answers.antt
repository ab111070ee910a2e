use Rattle.std.proofs.Common.{pos, ◌+◌, ◌-ℤ◌, ◌∙◌, sym, ap, subst}
use Rattle.det_sync.specs.Rounds.{saved_first, IsMostSaved}
use Rattle.det_sync.proofs.RoundLaws.{fits_step, reads_step, most_new, most_same, saves_more, saves_no_more}
use Rattle.det_sync.proofs.rounds.best_of.Goals as goal
use Rattle.det_sync.proofs.rounds.best_of.Goals.{then-cost-least, else-cost-least}

pub overflow_sub-cost : goal.overflow_sub-cost
overflow_sub-cost c = fits_step c.args.before c.args.moves.now c.loop-i.i _ c.loop-i-test.true c.requires c.loop-i.invariant.cost_is

pub loop-i-preserved : goal.loop-i-preserved
loop-i-preserved c =
    let moves = c.args.moves.now in
    let i = c.loop-i.i in
    let kept = c.loop-i.kept in
    let next = reads_step c.args.before moves i _ c.loop-i-test.true c.requires c.loop-i.invariant.cost_is in
    let least = c.loop-i.invariant.least_is in
    elim c.if-cost-least.branch [
      | then-cost-least w ↦ record {
        cost_is = next;
        least_is = w.least-is ∙ next ∙ ap (λ n. pos c.args.before -ℤ saved_first moves n) (sym w.kept-is);
        most = subst (IsMostSaved moves (i + 1)) (sym w.kept-is) (most_new moves i kept c.loop-i.invariant.most
            (saves_more _ _ (pos c.args.before) (saved_first moves (i + 1)) (saved_first moves kept) next least w.if-cost-least.true));
      }
      | else-cost-least w ↦ record {
        cost_is = next;
        least_is = w.least-is ∙ least ∙ ap (λ n. pos c.args.before -ℤ saved_first moves n) (sym w.kept-is);
        most = subst (IsMostSaved moves (i + 1)) (sym w.kept-is) (most_same moves i kept c.loop-i.invariant.most
            (saves_no_more _ _ (pos c.args.before) (saved_first moves (i + 1)) (saved_first moves kept) next least w.if-cost-least.false));
      }
    ]
