-- What the account of the pass became.
use Rattle.std.proofs.Common.{◌≡◌, ◌<◌, subst, sym}
use Rattle.atomic_table.specs.Table.{Me}
use Rattle.cluster_core.specs.State.{times}
use Rattle.cluster_core.proofs.TimesLaws.{times-insert_key-has}
use Rattle.cluster_claim.specs.declared.board.View.{View}
use Rattle.cluster_claim.proofs.AccountLaws.{removed_others}
use Rattle.cluster_claim.proofs.pass.Pass.root.Goals as goal

pub returns-clause-others : goal.returns-clause-others
returns-clause-others c =
    λ u q. subst (λ (m : Me (Unit {0}) View). times u m.0.account.taken ≡ times u c.args.self.now.seat.me.0.account.taken) (sym c.root_as.ensures.done.0)
    (removed_others c.args.self.now.seat.me.0.account.taken c.args.vertex u c.requires.taken q)

pub returns-clause-known : goal.returns-clause-known
returns-clause-known c =
    subst (λ (m : Me (Unit {0}) View). 0 < times c.args.vertex m.0.account.known) (sym c.root_as.ensures.done.0)
    (times-insert_key-has c.args.self.now.seat.me.0.account.known c.args.vertex)
