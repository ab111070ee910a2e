use Rattle.std.proofs.Common.{◌≡◌, vec_len}
use Rattle.rollback_prefix.proofs.gains.empty_parts.Given as goal

abbrev pub invariant-loop : goal.invariant-loop
invariant-loop l = vec_len l.all ≡ l.counter
