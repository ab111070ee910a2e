use Rattle.std.proofs.Common.{arith}
use Rattle.hg_base.proofs.FlatLaws.{length-nets_at}
use Rattle.hg_base.proofs.hyper.FlatHyper.nets.Goals as goal

pub overflow_cast-result : goal.overflow_cast-result
overflow_cast-result c =
    let h = c.self.inside in
    let same = length-nets_at h.starts.items h.net_weights.items h.pins.items in
    let most = c.self.invariant.1.bounds.nets in
    omega arith

pub returns-clause-count : goal.returns-clause-count
returns-clause-count c =
    let h = c.self.inside in
    let same = length-nets_at h.starts.items h.net_weights.items h.pins.items in
    rw (← c.self.view_is) (omega arith)
