use Rattle.std.proofs.Common.{rules, sym, ap, subst}
use Rattle.move_core.specs.declared.events.Event.TheVariants.{Lower, Narrow}
use Rattle.move_table.specs.declared.view.Terms.{Terms}
use Rattle.move_table.specs.Steps.{IsReady}
use Rattle.move_table.proofs.CarryLaws.{lower_ready, narrow_ready, lowered_narrowed}
use Rattle.move_table.proofs.carry.lower.Goals as goal

pub subtract-found-requires-clause-ready : goal.subtract-found-requires-clause-ready
subtract-found-requires-clause-ready c =
    subst (λ (t : Terms). IsReady c.shared.result.now.table_id t c.args.seat.now.me.0 (Lower c.args.pass) c.count_place-place.result.word)
    (sym c.shared.ensures.key)
    (lower_ready c.args.round.now.terms c.args.pass c.args.grant.now c.args.e c.requires.grant c.requires.net c.args.seat.now.me.0 c.requires.mover
    c.requires.stage c.shared.result.now.table_id c.count_place-place.result.word c.shared.ensures.wide c.count_place-place.ensures.word)

pub subtract-spread-requires-clause-ready : goal.subtract-spread-requires-clause-ready
subtract-spread-requires-clause-ready c =
    subst (λ (t : Terms). IsReady c.shared-2.result.now.table_id t c.subtract-found.new.seat.me.0 (Narrow c.args.pass) c.net.result.start)
    (sym c.shared-2.ensures.key)
    (narrow_ready c.args.round.now.terms c.args.pass c.args.grant.now c.args.e c.requires.grant c.requires.net c.args.seat.now.me.0 c.requires.mover
    c.requires.stage c.subtract-found.result c.subtract-found.new.seat.me.0 (ap (λ z. z.0) c.subtract-found.ensures.view) (search rules)
    c.shared-2.result.now.table_id c.net.result.start c.shared-2.ensures.wide c.net.ensures.start)

pub returns-clause-lowered : goal.returns-clause-lowered
returns-clause-lowered c =
    lowered_narrowed c.args.round.now.terms c.args.pass c.args.grant.now c.args.e c.requires.grant c.requires.net c.args.seat.now.me.0 c.requires.mover
    c.requires.stage c.subtract-found.result c.subtract-found.new.seat.me.0 (ap (λ z. z.0) c.subtract-found.ensures.view) (search rules)
    c.subtract-spread.result c.subtract-spread.new.seat.me.0 (ap (λ z. z.0) c.subtract-spread.ensures.view) _ (search rules) c.subtract-spread.ensures.told
