use Rattle.std.proofs.Common.{◌≡◌, false, take}
use Rattle.flow_pair.specs.PairNetwork.{leaves_pair}
use Rattle.flow_pair.proofs.pair.Pair.leaves.Given as goal

abbrev pub invariant-loop-v : goal.invariant-loop-v
invariant-loop-v l = leaves_pair l.self.blocks.now l.self.first l.self.second (take l.v-index l.pins) ≡ false
