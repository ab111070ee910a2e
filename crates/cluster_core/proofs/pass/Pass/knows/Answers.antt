-- A set has the keys that stand in its list.
use Rattle.std.proofs.Common.{◌∙◌, ap}
use Rattle.cluster_core.specs.Events.{knows}
use Rattle.cluster_core.specs.declared.account.Account.{Account}
use Rattle.cluster_core.proofs.HoldLaws.{contains_times}
use Rattle.cluster_core.proofs.pass.Pass.knows.Goals as goal

pub returns : goal.returns
returns c =
    c.contains.ensures
    ∙ contains_times c.args.root c.self.inside.known.keys
    ∙ ap (λ (a : Account). knows a c.args.root) c.self.view_is
