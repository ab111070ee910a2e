use Rattle.std.proofs.Common.{◌≡◌, length, take}
use Rattle.rollback_prefix.specs.Gains.{AreSavings}
use Rattle.rollback_prefix.specs.Pins.{AreZeros}
use Rattle.rollback_prefix.proofs.gains.part_gains.Given as goal

-- what the nets so far save
abbrev pub invariant-loop-e : goal.invariant-loop-e
invariant-loop-e l = record {
  gains : AreSavings l.h l.before l.moves (take l.e-index l.e-items) l.gains.items;
  zeros : AreZeros l.counts.items;
  size : length l.counts.items ≡ l.k;
}
