use Rattle.std.proofs.Common.{◌≡◌}
use Rattle.place_search.proofs.candidates.frame_of.Given as goal

abbrev pub invariant-loop-v : goal.invariant-loop-v
invariant-loop-v l = l.frame ≡ l.initial.frame
