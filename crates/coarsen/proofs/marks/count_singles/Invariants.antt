-- The single pins so far.
use Rattle.std.proofs.Common.{◌≡◌, ◌≤◌, false, filter, length, take, get_or}
use Rattle.coarsen.proofs.marks.count_singles.Given as goal

abbrev pub invariant-loop-v : goal.invariant-loop-v
invariant-loop-v l = (l.count ≤ l.v-index) × (l.count ≡ length (filter (λ v. get_or l.single v false) (take l.v-index l.pins)))
