use Rattle.std.proofs.Common.{rules, sym, ap, subst}
use Rattle.move_core.specs.declared.events.Event.TheVariants.{Raise, Widen}
use Rattle.move_table.specs.declared.view.Terms.{Terms}
use Rattle.move_table.specs.Steps.{IsReady}
use Rattle.move_table.proofs.CarryLaws.{raise_ready, widen_ready, raised_widened}
use Rattle.move_table.proofs.carry.raise.Goals as goal

pub add-found-requires-clause-ready : goal.add-found-requires-clause-ready
add-found-requires-clause-ready c =
    subst (λ (t : Terms). IsReady c.shared.result.now.table_id t c.args.seat.now.me.0 (Raise c.args.pass) c.count_place-place.result.word)
    (sym c.shared.ensures.key)
    (raise_ready c.args.round.now.terms c.args.pass c.args.grant.now c.args.e c.requires.grant c.requires.net c.args.seat.now.me.0 c.requires.mover
    c.requires.stage c.shared.result.now.table_id c.count_place-place.result.word c.shared.ensures.wide c.count_place-place.ensures.word)

pub add-spread-requires-clause-ready : goal.add-spread-requires-clause-ready
add-spread-requires-clause-ready c =
    subst (λ (t : Terms). IsReady c.shared-2.result.now.table_id t c.add-found.new.seat.me.0 (Widen c.args.pass) c.net.result.start)
    (sym c.shared-2.ensures.key)
    (widen_ready c.args.round.now.terms c.args.pass c.args.grant.now c.args.e c.requires.grant c.requires.net c.args.seat.now.me.0 c.requires.mover
    c.requires.stage c.add-found.result c.add-found.new.seat.me.0 (ap (λ z. z.0) c.add-found.ensures.view) (search rules) c.shared-2.result.now.table_id
    c.net.result.start c.shared-2.ensures.wide c.net.ensures.start)

pub returns-clause-raised : goal.returns-clause-raised
returns-clause-raised c =
    raised_widened c.args.round.now.terms c.args.pass c.args.grant.now c.args.e c.requires.grant c.requires.net c.args.seat.now.me.0 c.requires.mover
    c.requires.stage c.add-found.result c.add-found.new.seat.me.0 (ap (λ z. z.0) c.add-found.ensures.view) (search rules) c.add-spread.result
    c.add-spread.new.seat.me.0 (ap (λ z. z.0) c.add-spread.ensures.view) _ (search rules) c.add-spread.ensures.told
