-- What the account of the pass became.
use Rattle.std.proofs.Common.{◌<◌, subst, sym}
use Rattle.atomic_table.specs.Table.{Me}
use Rattle.cluster_core.specs.State.{times}
use Rattle.cluster_claim.specs.declared.board.View.{View}
use Rattle.cluster_claim.proofs.AccountLaws.{took_keeps, took_has}
use Rattle.cluster_claim.proofs.pass.Pass.take.Goals as goal

pub returns-clause-kept : goal.returns-clause-kept
returns-clause-kept c =
    λ u p. subst (λ (m : Me (Unit {0}) View). 0 < times u m.0.account.taken) (sym c.take_as.ensures.done.0)
    (took_keeps c.args.vertex c.take_as.result c.args.self.now.seat.me.0.account u p)

pub returns-clause-taken : goal.returns-clause-taken
returns-clause-taken c =
    λ e. subst (λ (m : Me (Unit {0}) View). 0 < times c.args.vertex m.0.account.taken) (sym c.take_as.ensures.done.0)
    (took_has c.args.vertex c.take_as.result c.args.self.now.seat.me.0.account e)
