-- The single vertices so far.
use Rattle.std.proofs.Common.{◌≡◌, ◌&&◌, false, nat_eq, filter, map, take, get_or}
use Rattle.hg_defs.specs.Partition.{block_of}
use Rattle.coarsen.specs.Marks.{weighed}
use Rattle.coarsen.proofs.pairing.rank_singles.Given as goal

abbrev pub invariant-loop-v : goal.invariant-loop-v
invariant-loop-v l = l.ranks.items ≡ map (weighed l.h) (filter (λ v. get_or l.single v false && nat_eq (block_of l.blocks v) l.b) (take l.v-index l.pins))
