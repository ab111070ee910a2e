-- The level that is placed has the value of the one that is asked for.
use Rattle.std.proofs.Common.{◌≡◌, ◌∙◌, ℕ, ◌+◌, ◌-◌, List, None, Some, IfOk, length, subst, ap, arith}
use Rattle.hg_defs.specs.Hypergraph.{Hyper}
use Rattle.hg_defs.specs.Levels.{level}
use Rattle.hg_defs.specs.Placement.{named_best}
use Rattle.det_sync.proofs.descent.best_on.Goals as goal

pub returns-then-i-depth-clause-best : goal.returns-then-i-depth-clause-best
returns-then-i-depth-clause-best g c =
    let deep = c.depth.ensures in
    let last = c.if-i-depth.true in
    let top : length c.args.stack.now.maps ≡ c.args.i = omega arith in
    subst (λ (h : Hyper). IfOk c.named_best.result (λ (blocks : List ℕ). named_best h c.args.k c.args.limit c.args.seed ≡ Some blocks))
    (c.top.ensures ∙ ap (level c.args.stack.now.base c.args.stack.now.maps) top) c.named_best.ensures.best

pub returns-then-i-depth-clause-none : goal.returns-then-i-depth-clause-none
returns-then-i-depth-clause-none g c none =
    let deep = c.depth.ensures in
    let last = c.if-i-depth.true in
    let top : length c.args.stack.now.maps ≡ c.args.i = omega arith in
    subst (λ (h : Hyper). named_best h c.args.k c.args.limit c.args.seed ≡ None)
    (c.top.ensures ∙ ap (level c.args.stack.now.base c.args.stack.now.maps) top) (c.named_best.ensures.none none)

pub returns-clause-best : goal.returns-clause-best
returns-clause-best g c =
    subst (λ (h : Hyper). IfOk c.named_best-2.result (λ (blocks : List ℕ). named_best h c.args.k c.args.limit c.args.seed ≡ Some blocks))
    (c.in_ok-h.ensures ∙ c.in_ok-copy.ensures ∙ c.level.ensures) c.named_best-2.ensures.best

pub returns-clause-none : goal.returns-clause-none
returns-clause-none g c none =
    subst (λ (h : Hyper). named_best h c.args.k c.args.limit c.args.seed ≡ None) (c.in_ok-h.ensures ∙ c.in_ok-copy.ensures ∙ c.level.ensures)
    (c.named_best-2.ensures.none none)
