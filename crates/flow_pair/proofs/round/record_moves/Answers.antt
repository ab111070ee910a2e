use Rattle.std.proofs.Common.{◌<◌, ◌∙◌, length, All, Result, Ok, Err, IfOk, OnOk, sym, ap, subst, arith}
use Rattle.hg_defs.specs.declared.moves.Move.{Move}
use Rattle.hg_defs.specs.Hypergraph.{vertex_count, IsHypergraph}
use Rattle.hg_defs.specs.Cost.{cost}
use Rattle.hg_defs.specs.Replay.{replay}
use Rattle.flow_pair.specs.PairEnds.{reassigned}
use Rattle.flow_pair.proofs.BookLaws.{moves_saved, moves_lead, moves_no_dearer, moves_few, moves_within, moves_recorded}
use Rattle.flow_pair.proofs.ChangeLaws.{flow_replayed}
use Rattle.flow_pair.proofs.round.record_moves.Goals as goal

pub make_moves-requires : goal.make_moves-requires
make_moves-requires c =
    let h = c.args.h.now in
    let p = c.args.p.now in
    let q = c.args.blocks.now in
    let sound = subst IsHypergraph c.requires.belongs c.blocks-parted.ensures.parted.sound in
    subst (All (λ (m : Move). m.vertex < length q)) (sym (c.slice.ensures ∙ c.in_ok-made.ensures))
    (moves_within h p.k p.limit q c.args.a c.args.b c.args.before c.args.end.now c.args.moves.now sound c.requires.vertices c.requires.end c.requires.moves
    c.requires.before)

pub round_of-requires-clause-few : goal.round_of-requires-clause-few
round_of-requires-clause-few c =
    let h = c.args.h.now in
    let p = c.args.p.now in
    let q = c.args.blocks.now in
    let parted = c.blocks-parted.ensures.parted in
    let sound = subst IsHypergraph c.requires.belongs parted.sound in
    let few = moves_few h p.k p.limit q c.args.a c.args.b c.args.before c.args.end.now c.args.moves.now sound c.requires.vertices c.requires.end
    c.requires.moves c.requires.before in
    let most = parted.bounds.vertices in
    let same = ap vertex_count c.requires.belongs in
    let copied = ap length c.in_ok-made.ensures in
    omega arith

pub round_of-requires-clause-saved : goal.round_of-requires-clause-saved
round_of-requires-clause-saved c =
    let h = c.args.h.now in
    let p = c.args.p.now in
    let q = c.args.blocks.now in
    let end = c.args.end.now in
    let sound = subst IsHypergraph c.requires.belongs c.blocks-parted.ensures.parted.sound in
    let is = c.in_ok-made.ensures ∙ c.requires.moves in (
      cost h (reassigned q end.region end.blocks),
      moves_no_dearer h p.k p.limit q c.args.a c.args.b c.args.before end c.in_ok-made.made sound c.requires.vertices c.requires.end is c.requires.before,
      moves_saved h p.k p.limit q c.args.a c.args.b c.args.before end c.in_ok-made.made sound c.requires.vertices c.requires.end is c.requires.before,
    )

if_ok : {T E : Type 0} {A B : T → Type 0} (r : Result T E) → IfOk r A → ((t : T) → A t → B t) → IfOk r B
if_ok (Ok t) a f = f t a
if_ok (Err e) a f = tt

on_ok : {T E A : Type 0} (r : Result T E) → A → OnOk r A
on_ok (Ok t) a = a
on_ok (Err e) a = tt

pub returns-clause-round : goal.returns-clause-round
returns-clause-round c =
    let h = c.args.h.now in
    let p = c.args.p.now in
    let q = c.args.blocks.now in
    let sound = subst IsHypergraph c.requires.belongs c.blocks-parted.ensures.parted.sound in
    let is = c.in_ok-made.ensures ∙ c.requires.moves in
    if_ok c.round_of.result c.round_of.ensures
    (moves_recorded h p.k p.limit q c.args.a c.args.b c.args.before c.args.end.now c.in_ok-made.made sound c.requires.vertices c.requires.end is
    c.requires.before c.args.level)

pub returns-clause-assigned : goal.returns-clause-assigned
returns-clause-assigned c =
    let h = c.args.h.now in
    let p = c.args.p.now in
    let q = c.args.blocks.now in
    let sound = subst IsHypergraph c.requires.belongs c.blocks-parted.ensures.parted.sound in
    let is = c.in_ok-made.ensures ∙ c.requires.moves in
    on_ok c.round_of.result
    (c.make_moves.ensures ∙ ap (replay q) c.slice.ensures
    ∙ moves_lead h p.k p.limit q c.args.a c.args.b c.args.before c.args.end.now c.in_ok-made.made sound c.requires.vertices c.requires.end is
    c.requires.before)

pub returns-clause-replayed : goal.returns-clause-replayed
returns-clause-replayed c =
    let h = c.args.h.now in
    let p = c.args.p.now in
    let q = c.args.blocks.now in
    let sound = subst IsHypergraph c.requires.belongs c.blocks-parted.ensures.parted.sound in
    let is = c.in_ok-made.ensures ∙ c.requires.moves in
    if_ok c.round_of.result c.round_of.ensures
    (λ r s.
    let recorded = moves_recorded h p.k p.limit q c.args.a c.args.b c.args.before c.args.end.now c.in_ok-made.made sound c.requires.vertices c.requires.end
    is c.requires.before c.args.level r s in
    c.make_moves.ensures ∙ ap (replay q) (c.slice.ensures ∙ sym s.moves_are) ∙ sym (flow_replayed h p.k p.limit q r recorded.flow))
