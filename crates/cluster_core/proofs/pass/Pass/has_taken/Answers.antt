-- A set has the keys that stand in its list.
use Rattle.std.proofs.Common.{◌∙◌, ap}
use Rattle.cluster_core.specs.Events.{has_taken}
use Rattle.cluster_core.specs.declared.account.Account.{Account}
use Rattle.cluster_core.proofs.HoldLaws.{contains_times}
use Rattle.cluster_core.proofs.pass.Pass.has_taken.Goals as goal

pub returns : goal.returns
returns c =
    c.contains.ensures
    ∙ contains_times c.args.vertex c.self.inside.taken.keys
    ∙ ap (λ (a : Account). has_taken a c.args.vertex) c.self.view_is
