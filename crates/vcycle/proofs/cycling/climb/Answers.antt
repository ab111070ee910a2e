use Rattle.std.proofs.Common.{◌-◌, arith}
use Rattle.vcycle.proofs.ClimbLemmas.{climbed}
use Rattle.vcycle.proofs.cycling.climb.Goals as goal

pub returns : goal.returns
returns g c =
    climbed c.args.h c.args.k c.args.blocks c.slice.result.now c.in_ok-stack.stack c.in_ok-stack.stop (c.depth-level.result - 1) c.in_ok-stack.top
    c.requires.parted c.slice.ensures c.in_ok-stack.ensures.base c.in_ok-stack.ensures.levels c.in_ok-stack.ensures.stop
    (let deep = c.depth-level.ensures in omega arith) c.in_ok-stack.ensures.top
