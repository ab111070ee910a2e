-- A partition into so many clusters, each with a vertex, is full.
use Rattle.contract_nets.proofs.FullLaws.{full_from_used}
use Rattle.coarsening_tests.proofs.levels.is_full.Goals as goal

pub returns-then-is_partition : goal.returns-then-is_partition
returns-then-is_partition c =
    λ used. full_from_used c.args.h.now c.args.map.now c.args.count (c.is_partition.ensures c.if-is_partition.true) (c.uses_all.ensures used)
