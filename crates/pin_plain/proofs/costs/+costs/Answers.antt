use Rattle.std.proofs.Common.{◌+◌}
use Rattle.pin_plain.proofs.CostLaws.{both_runs}
use Rattle.pin_plain.proofs.costs.+costs.Goals as goal

pub returns : goal.returns
returns g t c =
    let nets = c.args.nets.now in
    both_runs nets.h.now nets.blocks.now nets.parted.bounds c.args.from (c.args.from + c.args.share) c.args.to c.join-low.result.0 c.join-low.result.1
    c.join-low.ensures.first c.join-low.ensures.second
