-- What the account of the pass became.
use Rattle.std.proofs.Common.{◌-◌, ◌<◌, subst, sym}
use Rattle.atomic_table.specs.Table.{Me}
use Rattle.cluster_core.specs.State.{times}
use Rattle.cluster_claim.specs.declared.board.View.{View}
use Rattle.cluster_claim.proofs.AccountLaws.{learned_known}
use Rattle.cluster_claim.proofs.pass.Pass.peek.Goals as goal

pub returns-clause-known : goal.returns-clause-known
returns-clause-known c =
    λ l. subst (λ (m : Me (Unit {0}) View). 0 < times (c.peek_as.result - 2) m.0.account.known) (sym c.peek_as.ensures.done.0)
    (learned_known c.peek_as.result c.args.self.now.seat.me.0.account l)
