-- A set has the keys that stand in its list.
use Rattle.std.proofs.Common.{◌∙◌, ap}
use Rattle.move_core.specs.Events.{is_holding}
use Rattle.move_core.specs.declared.account.Account.{Account}
use Rattle.move_core.proofs.HoldLaws.{contains_times}
use Rattle.move_core.proofs.pass.Pass.holds.Goals as goal

pub returns : goal.returns
returns c =
    c.contains.ensures
    ∙ contains_times c.args.vertex c.self.inside.held.keys
    ∙ ap (λ (a : Account). is_holding a c.args.vertex) c.self.view_is
