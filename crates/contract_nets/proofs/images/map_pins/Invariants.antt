-- The clusters of the pins so far.
use Rattle.std.proofs.Common.{◌≡◌, map, take, slice_index}
use Rattle.contract_nets.proofs.images.map_pins.Given as goal

abbrev pub invariant-loop-v : goal.invariant-loop-v
invariant-loop-v l = l.numbers.items ≡ map (slice_index l.clusters) (take l.v-index l.pins)
