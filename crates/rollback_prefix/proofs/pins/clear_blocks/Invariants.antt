use Rattle.std.proofs.Common.{◌≡◌, ℕ, ◌<◌, ◌≤◌, get_or}
use Rattle.rollback_prefix.proofs.pins.clear_blocks.Given as goal

-- the blocks of the pins so far are zeros, and no count rose
abbrev pub invariant-loop-v : goal.invariant-loop-v
invariant-loop-v l = record {
  zeros : (i : ℕ) → i < l.v-index → get_or l.counts (get_or l.blocks (get_or l.pins i 0) 0) 0 ≡ 0;
  others : (b : ℕ) → get_or l.counts b 0 ≤ get_or l.fn.counts b 0;
}
