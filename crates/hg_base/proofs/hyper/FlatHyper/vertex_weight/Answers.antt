-- A vertex weighs no more than all vertices.
use Rattle.std.proofs.Common.{◌<◌, length, ap, arith}
use Rattle.std.proofs.lemmas.List.{get_or_read}
use Rattle.hg_defs.specs.Hypergraph.{Hyper}
use Rattle.hg_defs.proofs.SumLaws.{total_at-le}
use Rattle.hg_base.proofs.hyper.FlatHyper.vertex_weight.Goals as goal

pub returns-clause-bound : goal.returns-clause-bound
returns-clause-bound c =
    let h = c.self.inside in
    let weights = ap (λ (x : Hyper). x.weights) c.self.view_is in
    let below : c.args.v < length h.vertex_weights.items = (let l = ap length weights in omega (arith, c.requires)) in
    let read = get_or_read h.vertex_weights.items _ _ below c.index.ensures 0 in
    let most = total_at-le (λ w. w) h.vertex_weights.items c.args.v 0 below in
    let all = c.self.invariant.1.bounds.weight in
    omega arith
