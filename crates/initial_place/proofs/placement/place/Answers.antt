-- What the search makes of the best named placement.
use Rattle.std.proofs.Common.{Err, ◌∙◌, ap, sym}
use Rattle.std.proofs.lemmas.Result.{err_from_is_err_and}
use Rattle.initial_place.specs.declared.end.PlaceEnd.{PlaceEnd}
use Rattle.hg_defs.specs.Placement.{named}
use Rattle.initial_place.proofs.WorseLaws.{fits_after, no_dearer_after}
use Rattle.initial_place.proofs.placement.place.Goals as goal

pub returns-in_err-named-clause-none : goal.returns-in_err-named-clause-none
returns-in_err-named-clause-none g c e = c.in_err-named.ensures.none
    (let from = err_from_is_err_and c.from_residual.result c.from_residual.ensures.1 in
    ap (λ (x : PlaceEnd). Err x) (sym from.2) ∙ sym from.1 ∙ e)

pub returns-clause-cost : goal.returns-clause-cost
returns-clause-cost g c =
    no_dearer_after c.args.h.now c.args.k c.args.limit (named c.args.h.now c.args.k c.args.seed) c.in_ok-named.named c.in_ok-searched.field-0
    c.in_ok-named.ensures.best c.in_ok-searched.ensures

pub returns-clause-fits : goal.returns-clause-fits
returns-clause-fits g c =
    fits_after c.args.h.now c.args.k c.args.limit (named c.args.h.now c.args.k c.args.seed) c.in_ok-named.named c.in_ok-searched.field-0
    c.in_ok-named.ensures.best c.in_ok-searched.ensures
