-- The level that is placed has the value of the one that is asked for.
use Rattle.std.proofs.Common.{◌≡◌, ◌∙◌, ◌+◌, ◌-◌, None, length, subst, ap, arith}
use Rattle.hg_defs.specs.Hypergraph.{Hyper}
use Rattle.hg_defs.specs.Placement.{named_best}
use Rattle.uncoarsen.specs.Start.{level_of}
use Rattle.uncoarsen.proofs.start.place_on.Goals as goal

pub returns-then-level-depth-clause-none : goal.returns-then-level-depth-clause-none
returns-then-level-depth-clause-none g c none =
    let deep = c.depth.ensures in
    let last = c.if-level-depth.true in
    let top : length c.args.stack.now.maps ≡ c.args.level = omega arith in
    subst (λ (h : Hyper). named_best h c.args.k c.args.limit c.args.seed ≡ None) (c.top.ensures ∙ ap (level_of c.args.stack.now) top)
    (c.place.ensures.none none)

pub returns-clause-none : goal.returns-clause-none
returns-clause-none g c none =
    subst (λ (h : Hyper). named_best h c.args.k c.args.limit c.args.seed ≡ None) (c.in_ok-h.ensures ∙ c.in_ok-copy.ensures ∙ c.level.ensures)
    (c.place-2.ensures.none none)
