use Rattle.std.proofs.Common.{◌*◌, ◌/◌, length}
use Rattle.hg_defs.specs.Hypergraph.{net_count}
use Rattle.flow_pair.specs.CutNets.{AreCutListsIn}
use Rattle.flow_pair.proofs.cut_lists.cut_lists_with.Given as goal

abbrev pub invariant-loop-i : goal.invariant-loop-i
invariant-loop-i g l = AreCutListsIn l.h l.p.k l.p.blocks 0 (net_count l.h * l.i / length l.runs.items) l.lists.items
