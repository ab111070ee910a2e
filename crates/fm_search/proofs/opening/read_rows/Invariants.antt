use Rattle.std.proofs.Common.{◌≡◌, length}
use Rattle.fm_search.proofs.opening.read_rows.Given as goal

abbrev pub invariant-vertices : goal.invariant-vertices
invariant-vertices l = length l.run ≡ length l.fn.run
