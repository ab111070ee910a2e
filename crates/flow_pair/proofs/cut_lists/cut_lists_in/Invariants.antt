use Rattle.flow_pair.specs.CutNets.{AreCutListsIn}
use Rattle.flow_pair.proofs.cut_lists.cut_lists_in.Given as goal

abbrev pub invariant-loop-e : goal.invariant-loop-e
invariant-loop-e l = AreCutListsIn l.h l.p.k l.p.blocks l.from l.e l.lists.items
