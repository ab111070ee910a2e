use Rattle.std.proofs.Common.{◌≡◌, vec_len}
use Rattle.cluster_claim.proofs.claim.none_taken.Given as goal

abbrev pub invariant-loop : goal.invariant-loop
invariant-loop l = vec_len l.taken ≡ l.counter
