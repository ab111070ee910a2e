-- The vertices so far.
use Rattle.std.proofs.Common.{◌≡◌, ℕ, ◌<◌, get_or, vec_len}
use Rattle.coarsen.proofs.pairing.all_alone.Given as goal

abbrev pub invariant-loop-v : goal.invariant-loop-v
invariant-loop-v l = (vec_len l.roots ≡ l.v) × ((u : ℕ) → u < l.v → get_or l.roots.items u 0 ≡ u)
