use Rattle.std.proofs.Common.{◌≡◌, take, length}
use Rattle.rollback_prefix.specs.Pins.{CountsPins, counted}
use Rattle.rollback_prefix.proofs.pins.count_pins.Given as goal

-- the pins so far are counted
abbrev pub invariant-loop-v : goal.invariant-loop-v
invariant-loop-v l = record {
  counts : CountsPins (length l.fn.counts) l.blocks (take l.v-index l.pins) l.counts;
  touched : l.touched ≡ counted l.counts;
}
