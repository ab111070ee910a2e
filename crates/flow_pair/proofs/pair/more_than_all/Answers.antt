use Rattle.std.proofs.Common.{[], arith}
use Rattle.hg_defs.specs.Hypergraph.{Net}
use Rattle.hg_defs.proofs.SumLaws.{total-take_more, total_more-le}
use Rattle.flow_pair.proofs.pair.more_than_all.Goals as goal

pub overflow_add-weight : goal.overflow_add-weight
overflow_add-weight c =
    let h = c.args.h.now in
    let most = total_more-le (λ (e : Net). e.weight) h.nets c.loop-e.e (record { weight = 0; pins = [] }) (let a = c.nets-e-end.ensures.count in
    let b = c.loop-e-test.true in omega arith) in
    let bound = c.nets-e-end.ensures.bounds.net_weight in
    let here = c.net_weight-weight.ensures.value in
    let sum = c.loop-e.invariant in
    omega arith

pub loop-e-preserved : goal.loop-e-preserved
loop-e-preserved c =
    let h = c.args.h.now in
    let more = total-take_more (λ (e : Net). e.weight) h.nets c.loop-e.e (record { weight = 0; pins = [] }) (let a = c.nets-e-end.ensures.count in
    let b = c.loop-e-test.true in omega arith) in
    let here = c.net_weight-weight.ensures.value in
    let sum = c.loop-e.invariant in
    omega arith
