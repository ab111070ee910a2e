use Rattle.std.proofs.Common.{◌<◌, length, subst, arith}
use Rattle.flow_round.specs.Waves.{IsSolved}
use Rattle.flow_round.proofs.worker.solve_all.Goals as goal

pub returns : goal.returns
returns g c =
    let h = c.args.h.now in
    let p = c.args.p.now in
    let old = c.args.workers.now in
    λ k d l.
    let inside : k < length old = (let same = c.each.auto.items in omega arith) in
    let x = c.each.ensures.changes k d inside in
    subst (IsSolved h p c.args.wave) x.1.left x.1.call
