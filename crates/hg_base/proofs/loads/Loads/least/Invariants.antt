-- The best so far is the first least one of the groups below.
use Rattle.std.proofs.Common.{◌≡◌, ◌*◌, min, length, slice_index}
use Rattle.hg_base.specs.Placing.{IsLeastWithin}
use Rattle.hg_base.proofs.loads.Loads.least.Given as goal

abbrev pub invariant-loop-group : goal.invariant-loop-group
invariant-loop-group l = IsLeastWithin (slice_index l.self) 0 (min (16 * l.group) (length l.self)) l.best × (l.least ≡ slice_index l.self l.best)
