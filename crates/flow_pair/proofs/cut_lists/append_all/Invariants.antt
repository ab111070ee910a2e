use Rattle.flow_pair.proofs.CutNetLaws.{AreJoinedBelow}
use Rattle.flow_pair.proofs.cut_lists.append_all.Given as goal

abbrev pub invariant-loop-block : goal.invariant-loop-block
invariant-loop-block l = AreJoinedBelow l.block l.initial.lists.items l.run l.lists.items
