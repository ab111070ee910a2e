-- The cuts so far.
use Rattle.det_sync.proofs.WishLaws.{IsCutting}
use Rattle.det_sync.proofs.wishes.cuts_of.Given as goal

abbrev pub invariant-loop-v : goal.invariant-loop-v
invariant-loop-v l = IsCutting l.v l.cuts.items
