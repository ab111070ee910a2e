-- The ranks so far are those of the free vertices so far.
use Rattle.std.proofs.Common.{◌≡◌, map}
use Rattle.hg_base.specs.Placing.{rank_of}
use Rattle.hg_base.proofs.RankLaws.{free_below}
use Rattle.hg_base.proofs.placement.heaviest_first.Given as goal

abbrev pub invariant-loop-v : goal.invariant-loop-v
invariant-loop-v l = l.ranks.items ≡ map (rank_of l.h) (free_below l.h l.v)
