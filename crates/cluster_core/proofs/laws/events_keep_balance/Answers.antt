-- Each clause is the lemma on events at one event.
use Rattle.cluster_core.specs.declared.events.ClusterEvent.TheVariants.{Take, Root, Add, TakeBack, Follow, Peek, Split, Join}
use Rattle.cluster_core.proofs.Law.{event_keeps}
use Rattle.cluster_core.proofs.laws.events_keep_balance.Goals as goal

pub returns-clause-take : goal.returns-clause-take
returns-clause-take c = λ g r r' accounts pass vertex b k w. event_keeps g r accounts b r' (Take pass vertex) k w

pub returns-clause-root : goal.returns-clause-root
returns-clause-root c = λ g r r' accounts pass vertex b k w. event_keeps g r accounts b r' (Root pass vertex) k w

pub returns-clause-add : goal.returns-clause-add
returns-clause-add c = λ g r r' accounts pass vertex root b k w. event_keeps g r accounts b r' (Add pass vertex root) k w

pub returns-clause-take_back : goal.returns-clause-take_back
returns-clause-take_back c = λ g r r' accounts pass b k w. event_keeps g r accounts b r' (TakeBack pass) k w

pub returns-clause-follow : goal.returns-clause-follow
returns-clause-follow c = λ g r r' accounts pass b k w. event_keeps g r accounts b r' (Follow pass) k w

pub returns-clause-peek : goal.returns-clause-peek
returns-clause-peek c = λ g r r' accounts pass vertex b k w. event_keeps g r accounts b r' (Peek pass vertex) k w

pub returns-clause-split : goal.returns-clause-split
returns-clause-split c = λ g r r' accounts pass b k w. event_keeps g r accounts b r' (Split pass) k w

pub returns-clause-join : goal.returns-clause-join
returns-clause-join c = λ g r r' accounts pass other b k w. event_keeps g r accounts b r' (Join pass other) k w
