-- A vertex that an idle pass holds is unmoved exactly where its name is its block at the opening.
use Rattle.std.proofs.Common.{◌≡◌, ◌<◌, true, length, nat_eq, ap, ◌∙◌, subst, sym}
use Rattle.std.proofs.lemmas.Bool.{ltb-true}
use Rattle.hg_defs.specs.Hypergraph.{vertex_count}
use Rattle.move_core.specs.declared.account.Account.{Account}
use Rattle.move_core.specs.State.{State, readings, account, times}
use Rattle.move_core.specs.Stages.{is_idle}
use Rattle.move_core.specs.Events.{is_holding, holds_unmoved}
use Rattle.move_core.proofs.EnabledFacts.{unmoved_test}
use Rattle.move_core.proofs.books.Books.holds_unmoved.Goals as goal

pub returns-then-holds : goal.returns-then-holds
returns-then-holds c =
    let s : State = c.self.inside.ledger in
    let k = c.self.invariant in
    let e = c.self.view_is in
    let l = subst (λ (z : State). c.args.pass < length z.accounts) (sym e) c.requires.pass in
    let m = subst (λ (z : State). c.args.v < vertex_count z.setup.graph) (sym e) c.requires.vertex in
    let q = subst (λ (z : State). is_idle (account z c.args.pass).stage ≡ true) (sym e) c.requires.idle in
    let h = ltb-true 0 (times c.args.v (account s c.args.pass).held) (ap (λ (z : Account). is_holding z c.args.v) (sym c.pass.ensures) ∙ sym c.holds.ensures
    ∙ c.if-holds.true) in
    ap (λ z. nat_eq z c.opening.result) (c.name.ensures ∙ ap (λ (z : State). (readings z).name c.args.v) (sym e))
    ∙ ap (nat_eq ((readings s).name c.args.v)) c.opening.ensures
    ∙ unmoved_test s k c.args.pass c.args.v l m q h
    ∙ ap (λ (z : State). holds_unmoved (account z c.args.pass) c.args.v) e
