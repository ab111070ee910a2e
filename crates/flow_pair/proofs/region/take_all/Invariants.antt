use Rattle.std.proofs.Common.{◌≡◌, ◌++◌, ℕ, List, drop}
use Rattle.round_log.specs.Rounds.{taken}
use Rattle.flow_pair.proofs.region.take_all.Given as goal

abbrev pub invariant-loop-v : goal.invariant-loop-v
invariant-loop-v l =
    (vs : List ℕ) → l.list.items ++ taken l.h l.left (drop l.v-index l.vertices ++ vs) ≡ l.initial.list.items ++ taken l.h l.room (l.vertices ++ vs)
