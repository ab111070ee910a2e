-- Each net has a weight.
use Rattle.std.proofs.Common.{arith}
use Rattle.hg_base.proofs.FlatLaws.{length-nets_at}
use Rattle.hmetis_read.proofs.flat.FlatNets.len.Goals as goal

pub returns : goal.returns
returns c =
    let n = c.self.inside in
    let same = length-nets_at n.starts.items n.weights.items n.pins.items in
    rw (← c.self.view_is) (omega arith)
