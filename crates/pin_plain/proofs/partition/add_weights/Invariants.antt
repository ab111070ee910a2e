use Rattle.std.proofs.Common.{◌≡◌, ℕ, ◌<◌, take, length, slice_index}
use Rattle.hg_defs.specs.Partition.{weight_in}
use Rattle.pin_plain.proofs.partition.add_weights.Given as goal

abbrev pub invariant-loop-v : goal.invariant-loop-v
invariant-loop-v l = (b : ℕ) → b < length l.loads → slice_index l.loads b ≡ weight_in (take l.v l.h.weights) (take l.v l.blocks) b
