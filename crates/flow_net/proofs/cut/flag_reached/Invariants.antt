use Rattle.std.proofs.Common.{◌≡◌, ℕ, ◌<◌, nat_lt, slice_index}
use Rattle.flow_net.specs.Flow.{is_in}
use Rattle.flow_net.proofs.cut.flag_reached.Given as goal

abbrev pub invariant-loop-node : goal.invariant-loop-node
invariant-loop-node l = (v : ℕ) → v < l.node → is_in l.near v ≡ nat_lt 0 (slice_index l.levels v)
