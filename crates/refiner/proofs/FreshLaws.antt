-- Passes that have done nothing may be closed.
use Rattle.std.proofs.Common.{List, refl}
use Rattle.move_table.specs.Calls.{RacedRound, RacedPass, AreFresh}
use Rattle.move_table.specs.Closing.{ArePassesOf}

pub fresh_passes : (r : RacedRound) (passes : List RacedPass) → AreFresh r.table r.terms passes → ArePassesOf r passes
fresh_passes r passes f = record {
  all = f.all;
  each = λ i p l. record { same_table = (f.each i p l).same_table; same_terms = (f.each i p l).same_terms };
  numbers = λ i p l. (f.each i p l).number;
  idle = λ i p l. rw (f.each i p l).account refl;
}
