use Rattle.std.proofs.Common.{arith}
use Rattle.hg_base.proofs.CountLaws.{cost-lt}
use Rattle.move_table.proofs.closed.Closed.opening_cost.Goals as goal

pub returns-clause-bound : goal.returns-clause-bound
returns-clause-bound c =
    let same = c.self.invariant.1 in
    let most = cost-lt c.self.inside.part.hyper c.self.inside.opening.value.blocks c.blocks-parted.ensures.parted.bounds in
    omega arith
