use Rattle.std.proofs.Common.{rules, ap, sym, ◌∙◌, subst}
use Rattle.move_core.specs.declared.account.Account.{Account}
use Rattle.move_table.specs.Calls.{RacedPass, IsHeldUnmoved}
use Rattle.move_table.proofs.ClaimedLaws.{claimed_stage, claimed_held}
use Rattle.move_table.proofs.pass.Pass.claim.Goals as goal

pub returns-clause-idle : goal.returns-clause-idle
returns-clause-idle c =
    ap (λ z. z.0.account.stage) c.swap-found.ensures.view ∙ claimed_stage c.args.v c.swap-found.result c.self.inside.seat.me.0.account
    ∙ ap (λ (z : RacedPass). z.view.account.stage) c.self.view_is ∙ c.requires.idle

pub returns-clause-holds : goal.returns-clause-holds
returns-clause-holds c = λ h.
    subst (λ (a : Account). IsHeldUnmoved a c.args.v) (sym (ap (λ z. z.0.account) c.swap-found.ensures.view))
    (claimed_held c.args.v c.swap-found.result c.self.inside.seat.me.0.account c.swap-found.ensures.told.read (search rules))
