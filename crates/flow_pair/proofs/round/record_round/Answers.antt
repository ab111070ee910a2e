use Rattle.std.proofs.Common.{◌<◌, ◌∙◌, All, Result, Ok, Err, IfOk, OnOk, sym, ap, ap₂, subst, arith}
use Rattle.std.specs.List.Sorted.{IsStrictlyIncreasing}
use Rattle.hg_defs.specs.Hypergraph.{Hyper, vertex_count, IsHypergraph}
use Rattle.hg_defs.specs.Partition.{IsPartition}
use Rattle.hg_defs.specs.Cost.{cost}
use Rattle.hg_defs.specs.Replay.{replay}
use Rattle.pin_plain.specs.Parted.{Parted}
use Rattle.round_log.specs.Rounds.{changes}
use Rattle.flow_pair.specs.PairEnds.{reassigned}
use Rattle.flow_pair.proofs.EndLaws.{end_rises, end_vertices, end_blocks}
use Rattle.flow_pair.proofs.BookLaws.{moves_saved, moves_no_dearer, moves_few, moves_recorded}
use Rattle.flow_pair.proofs.ChangeLaws.{flow_replayed}
use Rattle.flow_pair.proofs.round.record_round.Goals as goal

pub assign_region-requires-clause-rising : goal.assign_region-requires-clause-rising
assign_region-requires-clause-rising c =
    let p = c.args.p.now in
    subst IsStrictlyIncreasing (sym c.slice.ensures) (end_rises c.args.h.now p.k p.limit p.blocks c.args.a c.args.b c.args.end.now c.requires.end)

pub assign_region-requires-clause-vertices : goal.assign_region-requires-clause-vertices
assign_region-requires-clause-vertices c =
    let h = c.args.h.now in
    let p = c.args.p.now in
    let sound = subst IsHypergraph c.requires.belongs c.blocks-parted.ensures.parted.sound in
    subst (All (λ v. v < vertex_count h)) (sym c.slice.ensures) (end_vertices h p.k p.limit p.blocks c.args.a c.args.b c.args.end.now c.requires.end sound)

pub assign_region-requires-clause-blocks : goal.assign_region-requires-clause-blocks
assign_region-requires-clause-blocks c =
    let h = c.args.h.now in
    let p = c.args.p.now in
    let parted = c.blocks-parted.ensures.parted in
    let sound = subst IsHypergraph c.requires.belongs parted.sound in
    let whole = subst (λ (x : Hyper). IsPartition x p.k p.blocks) c.requires.belongs parted.partition in
    let low : c.args.a < p.k = (let a = c.requires.order in let b = c.requires.second in omega arith) in
    subst (All (λ b. b < p.k)) (sym c.slice-2.ensures)
    (end_blocks h p.k p.limit p.blocks c.args.a c.args.b c.args.end.now c.requires.end sound whole low c.requires.second)

pub round_of-requires-clause-few : goal.round_of-requires-clause-few
round_of-requires-clause-few c =
    let h = c.args.h.now in
    let p = c.args.p.now in
    let parted = c.blocks-parted.ensures.parted in
    let sound = subst IsHypergraph c.requires.belongs parted.sound in
    let long = parted.partition.vertices ∙ ap vertex_count c.requires.belongs in
    let is = c.in_ok-moves.ensures.moves ∙ ap₂ (λ xs bs. changes h p.blocks (reassigned p.blocks xs bs) xs) c.slice.ensures c.slice-2.ensures in
    let few = moves_few h p.k p.limit p.blocks c.args.a c.args.b c.args.before c.args.end.now c.in_ok-moves.moves sound long c.requires.end is
    c.requires.before in
    let most = parted.bounds.vertices in
    let same = ap vertex_count c.requires.belongs in
    omega arith

pub round_of-requires-clause-saved : goal.round_of-requires-clause-saved
round_of-requires-clause-saved c =
    let h = c.args.h.now in
    let p = c.args.p.now in
    let end = c.args.end.now in
    let parted = c.blocks-parted.ensures.parted in
    let sound = subst IsHypergraph c.requires.belongs parted.sound in
    let long = parted.partition.vertices ∙ ap vertex_count c.requires.belongs in
    let is = c.in_ok-moves.ensures.moves ∙ ap₂ (λ xs bs. changes h p.blocks (reassigned p.blocks xs bs) xs) c.slice.ensures c.slice-2.ensures in (
      cost h (reassigned p.blocks end.region end.blocks),
      moves_no_dearer h p.k p.limit p.blocks c.args.a c.args.b c.args.before end c.in_ok-moves.moves sound long c.requires.end is c.requires.before,
      moves_saved h p.k p.limit p.blocks c.args.a c.args.b c.args.before end c.in_ok-moves.moves sound long c.requires.end is c.requires.before,
    )

if_ok : {T E : Type 0} {A B : T → Type 0} (r : Result T E) → IfOk r A → ((t : T) → A t → B t) → IfOk r B
if_ok (Ok t) a f = f t a
if_ok (Err e) a f = tt

pub returns-clause-round : goal.returns-clause-round
returns-clause-round c =
    let h = c.args.h.now in
    let p = c.args.p.now in
    let parted = c.blocks-parted.ensures.parted in
    let sound = subst IsHypergraph c.requires.belongs parted.sound in
    let long = parted.partition.vertices ∙ ap vertex_count c.requires.belongs in
    let is = c.in_ok-moves.ensures.moves ∙ ap₂ (λ xs bs. changes h p.blocks (reassigned p.blocks xs bs) xs) c.slice.ensures c.slice-2.ensures in
    if_ok c.round_of.result c.round_of.ensures
    (moves_recorded h p.k p.limit p.blocks c.args.a c.args.b c.args.before c.args.end.now c.in_ok-moves.moves sound long c.requires.end is c.requires.before
    c.args.level)

pub returns-clause-partition : goal.returns-clause-partition
returns-clause-partition c =
    let h = c.args.h.now in
    let p = c.args.p.now in
    let parted = c.blocks-parted.ensures.parted in
    let sound = subst IsHypergraph c.requires.belongs parted.sound in
    let long = parted.partition.vertices ∙ ap vertex_count c.requires.belongs in
    let is = c.in_ok-moves.ensures.moves ∙ ap₂ (λ xs bs. changes h p.blocks (reassigned p.blocks xs bs) xs) c.slice.ensures c.slice-2.ensures in
    if_ok c.round_of.result c.round_of.ensures
    (λ r s.
    let recorded = moves_recorded h p.k p.limit p.blocks c.args.a c.args.b c.args.before c.args.end.now c.in_ok-moves.moves sound long c.requires.end is
    c.requires.before c.args.level r s in
    c.in_ok-moves.ensures.partition
    ∙ ap (λ x. record p { blocks = x }) (sym (flow_replayed h p.k p.limit p.blocks r recorded.flow ∙ ap (replay p.blocks) s.moves_are
    ∙ c.in_ok-moves.ensures.replayed)))

on_ok : {T E A : Type 0} (r : Result T E) → A → OnOk r A
on_ok (Ok t) a = a
on_ok (Err e) a = tt

pub returns-clause-assigned : goal.returns-clause-assigned
returns-clause-assigned c =
    on_ok c.round_of.result
    (ap (λ (x : Parted). x.blocks) c.in_ok-moves.ensures.partition ∙ ap₂ (reassigned c.args.p.now.blocks) c.slice.ensures c.slice-2.ensures)
