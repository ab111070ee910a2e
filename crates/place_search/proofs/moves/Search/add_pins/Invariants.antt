use Rattle.std.proofs.Common.{◌≡◌, ◌≤◌}
use Rattle.place_search.proofs.moves.Search.add_pins.Given as goal

abbrev pub invariant-loop-u : goal.invariant-loop-u
invariant-loop-u l = (l.self ≡ l.fn.self) × (l.count ≤ l.most)
