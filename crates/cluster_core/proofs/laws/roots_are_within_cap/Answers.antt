-- The lemma on roots.
use Rattle.cluster_core.proofs.RootLaws.{roots_are}
use Rattle.cluster_core.proofs.laws.roots_are_within_cap.Goals as goal

pub returns : goal.returns
returns c = λ g r accounts b. roots_are g r accounts b
