use Rattle.std.proofs.Common.{◌∙◌, ◌++◌, ◌∷◌, [], List, length, sym, ap, arith, true≢false, refl}
use Rattle.hg_defs.specs.declared.moves.Move.{Move}
use Rattle.hg_defs.specs.Moves.{sweep}
use Rattle.round_log.specs.declared.record.LoggedRound.{LoggedRound}
use Rattle.hg_base.proofs.CountLaws.{cost-lt}
use Rattle.pin_plain.proofs.SettleLaws.{sweep_few}
use Rattle.label_prop.proofs.SweepLaws.{rests, cheaper, sweeps}
use Rattle.label_prop.proofs.sweep.sweep_round.Goals as goal

pub returns-then-not-branch-clause-ok : goal.returns-then-not-branch-clause-ok
returns-then-not-branch-clause-ok g c =
    let settled = c.in_ok-sweep_with.ensures.settled.0 c.if-not-branch.true in
    (settled, rests c.args.h.now c.args.task.now c.args.part.now c.sweep_with.new.self c.in_ok-sweep_with.ensures.after settled, refl)

pub swept-requires-clause-few : goal.swept-requires-clause-few
swept-requires-clause-few g c =
    let p = c.args.part.now in
    let made = c.in_ok-made.ensures ∙ c.in_ok-sweep_with.ensures.log ∙ ap (λ (ms : List Move). ms ++ sweep c.args.h.now p.k p.limit p.blocks) c.new-moves.ensures in
    let few = sweep_few c.args.h.now p.k p.limit p.blocks c.vertices-vertices.ensures.bounds in
    let all = ap length made in
    omega arith

pub swept-requires-clause-lower : goal.swept-requires-clause-lower
swept-requires-clause-lower g c =
    let less = cheaper c.args.h.now c.args.task.now c.args.part.now c.sweep_with.new.self c.in_ok-sweep_with.ensures.after
    (λ settled. true≢false (sym c.if-not-branch.false ∙ c.in_ok-sweep_with.ensures.settled.1 settled)) in
    let before = c.requires.before in
    let after = c.cost_with-after.ensures.value in
    omega arith

pub overflow_sub-result : goal.overflow_sub-result
overflow_sub-result g c =
    let less = cheaper c.args.h.now c.args.task.now c.args.part.now c.sweep_with.new.self c.in_ok-sweep_with.ensures.after
    (λ settled. true≢false (sym c.if-not-branch.false ∙ c.in_ok-sweep_with.ensures.settled.1 settled)) in
    let before = c.requires.before in
    let after = c.cost_with-after.ensures.value in
    omega arith

pub returns-clause-ok : goal.returns-clause-ok
returns-clause-ok g c =
    let p = c.args.part.now in
    let made = c.in_ok-made.ensures ∙ c.in_ok-sweep_with.ensures.log ∙ ap (λ (ms : List Move). ms ++ sweep c.args.h.now p.k p.limit p.blocks) c.new-moves.ensures in
    sweeps c.args.h.now c.args.task.now p c.sweep_with.new.self c.in_ok-sweep_with.ensures.after
    (λ settled. true≢false (sym c.if-not-branch.false ∙ c.in_ok-sweep_with.ensures.settled.1 settled))
    c.in_ok-made.made c.args.before c.cost_with-after.result c.in_ok-swept.field-0 c.args.log.now c.add.new.self made c.requires.before
    c.cost_with-after.ensures.value c.in_ok-swept.ensures
    (c.in_ok-add.ensures.ok ∙ ap (λ (rs : List LoggedRound). c.args.log.now ++ rs) (c.in_ok-push.ensures.ok ∙
    ap (λ (rs : List LoggedRound). rs ++ c.in_ok-swept.field-0 ∷ [])
    c.new-rounds.ensures))

pub swept-requires-clause-small : goal.swept-requires-clause-small
swept-requires-clause-small g c =
    let less = cost-lt c.args.h.now c.args.part.now.blocks c.vertices-vertices.ensures.bounds in
    let before = c.requires.before in
    omega arith
