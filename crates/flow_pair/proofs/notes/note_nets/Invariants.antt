use Rattle.flow_pair.proofs.NoteLaws.{AreNotesBelow}
use Rattle.flow_pair.proofs.notes.note_nets.Given as goal

abbrev pub invariant-loop-e : goal.invariant-loop-e
invariant-loop-e l =
    AreNotesBelow l.pair.h.now l.pair.blocks.now l.pair.first l.pair.second l.pair.region.now l.e-index l.nets l.nodes.items l.notes.items
