-- The lemma on events.
use Rattle.cluster_core.proofs.Law.{event_stays}
use Rattle.cluster_core.proofs.laws.decided_marks_stay.Goals as goal

pub returns : goal.returns
returns c = λ g r r' accounts x b k w. event_stays g r accounts b r' x k w
