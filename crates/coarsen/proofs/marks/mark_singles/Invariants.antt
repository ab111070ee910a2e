-- The vertices so far have told which others aren't single.
use Rattle.coarsen.proofs.MarkLaws.{AreMarkedUpto}
use Rattle.coarsen.proofs.marks.mark_singles.Given as goal

abbrev pub invariant-loop-v : goal.invariant-loop-v
invariant-loop-v l = AreMarkedUpto l.h l.roots l.v l.single
