use Rattle.std.proofs.Common.{take}
use Rattle.rollback_prefix.proofs.PlaceLaws.{AreFound}
use Rattle.rollback_prefix.proofs.pins.find_places.Given as goal

-- the places at the pins so far
abbrev pub invariant-loop-v : goal.invariant-loop-v
invariant-loop-v l = AreFound (take l.v-index l.pins) l.order l.places.items
