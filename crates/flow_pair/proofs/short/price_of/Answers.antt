use Rattle.std.proofs.Common.{arith}
use Rattle.hg_defs.specs.Hypergraph.{net_of}
use Rattle.hg_defs.proofs.SumLaws.{total-take_more, total_more-le}
use Rattle.flow_pair.specs.PairNetwork.{net_price}
use Rattle.flow_pair.proofs.short.price_of.Goals as goal

pub overflow_add-price : goal.overflow_add-price
overflow_add-price c =
    let s = c.args.pair in
    let most = total_more-le (λ e. net_price s.h.now s.blocks.now s.first s.second (net_of s.h.now e)) c.args.nets.now c.loop-e.e-index 0 c.loop-e-test.true in
    let bound = c.requires.bounded in
    let here = c.net_price-price.ensures.value in
    let sum = c.loop-e.invariant in
    omega arith

pub loop-e-preserved : goal.loop-e-preserved
loop-e-preserved c =
    let s = c.args.pair in
    let more = total-take_more (λ e. net_price s.h.now s.blocks.now s.first s.second (net_of s.h.now e)) c.args.nets.now c.loop-e.e-index 0
    c.loop-e-test.true in
    let here = c.net_price-price.ensures.value in
    let sum = c.loop-e.invariant in
    omega arith
