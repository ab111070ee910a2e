-- Both passes have a place, and their sums fit.
use Rattle.std.proofs.Common.{length, ap, arith}
use Rattle.std.proofs.lemmas.Int.{ints}
use Rattle.move_core.specs.declared.account.Account.{Account}
use Rattle.move_core.specs.declared.events.Event.TheVariants.{Join}
use Rattle.move_core.specs.State.{State}
use Rattle.move_core.proofs.StepFacts.{pass_below, other_below, seeds_here, gain_here}
use Rattle.move_core.proofs.ledger.Ledger.join.Goals as goal

pub joined-requires-clause-seeds : goal.joined-requires-clause-seeds
joined-requires-clause-seeds c =
    let s = c.args.self.now in
    let k = c.requires.balance in
    let x = seeds_here s k c.args.pass (pass_below s k (Join c.args.pass c.args.other) c.requires.enabled) in
    let y = seeds_here s k c.args.other (other_below s k c.args.pass c.args.other c.requires.enabled) in
    let p = ap (λ (z : Account). z.seeds) c.pass.ensures in
    let q = ap (λ (z : Account). z.seeds) c.pass-2.ensures in
    omega arith

pub joined-requires-clause-gain : goal.joined-requires-clause-gain
joined-requires-clause-gain c =
    let s = c.args.self.now in
    let k = c.requires.balance in
    let x = gain_here s k c.args.pass (pass_below s k (Join c.args.pass c.args.other) c.requires.enabled) in
    let y = gain_here s k c.args.other (other_below s k c.args.pass c.args.other c.requires.enabled) in
    let x0 = x.low in
    let x1 = x.high in
    let y0 = y.low in
    let y1 = y.high in
    let p = ap (λ (z : Account). z.gain) c.pass.ensures in
    let q = ap (λ (z : Account). z.gain) c.pass-2.ensures in
    omega (arith, ints)

pub index_mut-requires-2 : goal.index_mut-requires-2
index_mut-requires-2 c =
    let l = other_below c.args.self.now c.requires.balance c.args.pass c.args.other c.requires.enabled in
    let e = ap (λ (z : State). length z.accounts) c.self.view_is in
    omega arith
