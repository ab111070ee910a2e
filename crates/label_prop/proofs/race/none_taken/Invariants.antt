use Rattle.std.proofs.Common.{◌≡◌, vec_len}
use Rattle.label_prop.proofs.race.none_taken.Given as goal

abbrev pub invariant-loop : goal.invariant-loop
invariant-loop l = vec_len l.taken ≡ l.counter
