use Rattle.std.proofs.Common.{◌≡◌}
use Rattle.std.specs.Vec.Iter.{into_iter_items}
use Rattle.initial_place.specs.NoWorse.{cheapest_of}
use Rattle.initial_place.proofs.search.cheapest.Given as goal

abbrev pub invariant-loop-judged : goal.invariant-loop-judged
invariant-loop-judged l = cheapest_of l.best (into_iter_items l.judged-iterator) ≡ cheapest_of l.fn.best l.fn.candidates.items
