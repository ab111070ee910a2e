use Rattle.std.proofs.Common.{◌≡◌, length}
use Rattle.fm_search.proofs.reading.enter_word.Given as goal

abbrev pub invariant-fields : goal.invariant-fields
invariant-fields l = length l.row ≡ length l.fn.row
