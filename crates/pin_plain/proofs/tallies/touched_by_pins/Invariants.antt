-- The set has the blocks of the pins so far, and the count says how many they are.
use Rattle.std.proofs.Common.{◌≡◌, ℕ, ◌≤◌, map, take, nat_eq}
use Rattle.std.specs.Set.{is_member, distinct_count}
use Rattle.hg_defs.specs.Partition.{block_of}
use Rattle.hg_base.specs.BlockSet.{has}
use Rattle.pin_plain.proofs.tallies.touched_by_pins.Given as goal

abbrev pub invariant-loop-v : goal.invariant-loop-v
invariant-loop-v l =
    (l.touched ≡ distinct_count nat_eq (map (block_of l.blocks) (take l.v-index l.pins)))
    × (l.touched ≤ l.v-index)
    × ((b : ℕ) → has l.set b ≡ is_member nat_eq (map (block_of l.blocks) (take l.v-index l.pins)) b)
