-- The best so far is the first least one below the index.
use Rattle.std.proofs.Common.{◌≡◌, slice_index}
use Rattle.hg_base.specs.Placing.{IsLeastWithin}
use Rattle.hg_base.proofs.loads.least_within.Given as goal

abbrev pub invariant-loop-i : goal.invariant-loop-i
invariant-loop-i l = IsLeastWithin (slice_index l.loads) l.low l.i l.best × (l.lowest ≡ slice_index l.loads l.best)
