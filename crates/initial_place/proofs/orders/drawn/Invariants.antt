-- The pairs so far are those of the free vertices so far, and the generator has given a word for each vertex.
use Rattle.std.proofs.Common.{◌≡◌}
use Rattle.hg_defs.specs.Placement.{generator}
use Rattle.initial_place.proofs.DrawLaws.{draws_below, after}
use Rattle.initial_place.proofs.orders.drawn.Given as goal

abbrev pub invariant-loop-v : goal.invariant-loop-v
invariant-loop-v l = (l.draws.items ≡ draws_below l.h l.seed l.stream l.v) × (l.words ≡ after l.v (generator l.seed l.stream))
