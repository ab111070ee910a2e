-- A list for each part so far.
use Rattle.std.proofs.Common.{◌≡◌, length}
use Rattle.det_sync.proofs.wishes.no_wishes.Given as goal

abbrev pub invariant-loop : goal.invariant-loop
invariant-loop l = length l.made.items ≡ l.counter
