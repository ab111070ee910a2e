use Rattle.std.proofs.Common.{◌∙◌, sym, ap, subst, arith}
use Rattle.hg_defs.specs.Cost.{cost}
use Rattle.round_log.proofs.FlowLaws.{flow-no_dearer}
use Rattle.flow_pair.proofs.TurnLaws.{turn_passed, turn_taken}
use Rattle.flow_round.specs.PairTurns.{IsBooked, IsTurn, after_turn}
use Rattle.flow_round.proofs.pass.record_turn.Goals as goal

pub returns-in_default-clause-turn : goal.returns-in_default-clause-turn
returns-in_default-clause-turn c =
    let p = c.args.p.now in
    let q = c.args.blocks.now in
    turn_passed c.args.h.now c.args.level c.args.a c.args.b (record p { blocks = q }) c.args.rounds.now.items c.requires.fits
    (subst (IsTurn c.args.h.now p.k p.limit q (c.args.a, c.args.b)) c.in_default.is c.requires.turn)

pub returns-in_default-clause-blocks : goal.returns-in_default-clause-blocks
returns-in_default-clause-blocks c = sym (ap (after_turn c.args.blocks.now) c.in_default.is)

pub record_moves-requires-clause-end : goal.record_moves-requires-clause-end
record_moves-requires-clause-end c =
    let p = c.args.p.now in
    (subst (IsTurn c.args.h.now p.k p.limit c.args.blocks.now (c.args.a, c.args.b)) c.in-Some.is c.requires.turn).1

pub record_moves-requires-clause-moves : goal.record_moves-requires-clause-moves
record_moves-requires-clause-moves c =
    subst (λ e. IsBooked c.args.h.now c.args.blocks.now e c.args.moves.now) c.in-Some.is c.requires.booked

pub returns-clause-turn : goal.returns-clause-turn
returns-clause-turn c =
    let p = c.args.p.now in
    let q = c.args.blocks.now in
    turn_taken c.args.h.now c.args.level c.args.a c.args.b (record p { blocks = q }) (record p { blocks = c.record_moves.new.blocks }) c.in_ok-round.round
    c.args.rounds.now.items c.push.new.self.items
    (subst (IsTurn c.args.h.now p.k p.limit q (c.args.a, c.args.b)) c.in-Some.is c.requires.turn).0
    c.in_ok-round.ensures.round (ap (λ x. record p { blocks = x }) c.in_ok-round.ensures.replayed) c.in_ok-push.ensures.items

pub returns-clause-blocks : goal.returns-clause-blocks
returns-clause-blocks c = c.in_ok-round.ensures.assigned ∙ sym (ap (after_turn c.args.blocks.now) c.in-Some.is)

pub returns-clause-after : goal.returns-clause-after
returns-clause-after c =
    let flow = c.in_ok-round.ensures.round.flow in
    flow.after ∙ flow.made ∙ ap (cost c.args.h.now) (sym c.in_ok-round.ensures.replayed)

pub returns-clause-no_dearer : goal.returns-clause-no_dearer
returns-clause-no_dearer c =
    let p = c.args.p.now in
    let flow = c.in_ok-round.ensures.round.flow in
    let less = flow-no_dearer c.args.h.now p.k p.limit c.args.blocks.now c.in_ok-round.round flow in
    let before = flow.before in
    let known = c.requires.before in
    omega arith
