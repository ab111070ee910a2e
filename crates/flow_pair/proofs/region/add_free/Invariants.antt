use Rattle.std.proofs.Common.{◌≡◌, ◌++◌, filter, take}
use Rattle.flow_pair.specs.Sides.{is_free_in}
use Rattle.flow_pair.proofs.region.add_free.Given as goal

abbrev pub invariant-loop-v : goal.invariant-loop-v
invariant-loop-v l = l.list.items ≡ l.initial.list.items ++ filter (is_free_in l.h l.blocks l.block) (take l.v-index l.vertices)
