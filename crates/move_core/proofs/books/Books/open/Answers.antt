-- The books at the opening are in balance.
use Rattle.std.proofs.Common.{ap, subst, sym}
use Rattle.move_core.specs.State.{State, setup_of}
use Rattle.move_core.specs.Balance.{IsBooks, IsSetup}
use Rattle.move_core.proofs.OpenLaws.{opened_books}
use Rattle.move_core.proofs.books.Books.open.Goals as goal

pub invariant_of-result : goal.invariant_of-result
invariant_of-result c =
    let e = c.in_ok-open.ensures.state in
    subst IsBooks (sym e) (opened_books (setup_of c.args.h.now c.args.k c.args.limit c.args.p.now)
    (subst IsSetup (ap (λ (z : State). z.setup) e) c.in_ok-open.ensures.setup) c.args.passes c.requires.few)

pub returns-clause-balance : goal.returns-clause-balance
returns-clause-balance c =
    let e = c.in_ok-open.ensures.state in
    subst IsBooks (sym e) (opened_books (setup_of c.args.h.now c.args.k c.args.limit c.args.p.now)
    (subst IsSetup (ap (λ (z : State). z.setup) e) c.in_ok-open.ensures.setup) c.args.passes c.requires.few)
