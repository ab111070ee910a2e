use Rattle.std.proofs.Common.{◌≡◌}
use Rattle.place_search.proofs.division.large.Given as goal

abbrev pub invariant-loop-v : goal.invariant-loop-v
invariant-loop-v l = l.numbers ≡ l.initial.numbers
