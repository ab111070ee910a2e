-- The first block of each group leads it.
use Rattle.std.proofs.Common.{◌≡◌, ◌*◌, ◌<◌, ℕ, length, slice_index}
use Rattle.hg_base.proofs.loads.Loads.start.Given as goal

abbrev pub invariant-loop-group : goal.invariant-loop-group
invariant-loop-group l = (length l.leaders.items ≡ l.group) × ((g : ℕ) → g < l.group → slice_index l.leaders.items g ≡ 16 * g)
