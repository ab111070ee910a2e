use Rattle.std.proofs.Common.{◌≡◌, ◌++◌}
use Rattle.hg_defs.specs.Hypergraph.{vertex_count}
use Rattle.round_log.specs.Rounds.{taken}
use Rattle.flow_pair.specs.Sides.{is_reached}
use Rattle.flow_pair.proofs.ScanLaws.{rest}
use Rattle.flow_pair.proofs.region.take_reached.Given as goal

abbrev pub invariant-loop-v : goal.invariant-loop-v
invariant-loop-v l =
    l.list.items ++ taken l.h l.left (rest (is_reached l.h l.blocks l.from l.near l.small) (vertex_count l.h) l.v)
    ≡ l.initial.list.items ++ taken l.h l.room (rest (is_reached l.h l.blocks l.from l.near l.small) (vertex_count l.h) 0)
