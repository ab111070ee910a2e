use Rattle.std.proofs.Common.{◌≡◌, ◌≤◌}
use Rattle.place_search.proofs.moves.Search.pass.Given as goal

abbrev pub invariant-loop-place : goal.invariant-loop-place
invariant-loop-place l = (l.self ≡ l.fn.self) × (l.kept ≤ l.made) × (l.made ≤ l.place)
