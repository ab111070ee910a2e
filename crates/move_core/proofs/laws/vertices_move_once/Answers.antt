-- The law, from the lemma on what is held.
use Rattle.move_core.proofs.HeldLaws.{moved_once}
use Rattle.move_core.proofs.laws.vertices_move_once.Goals as goal

pub returns : goal.returns
returns c = λ g r accounts v b l. moved_once g r accounts b.claims b.moves v l
