use Rattle.std.proofs.Common.{◌≡◌, ◌≢◌, ◌<◌, ◌∙◌, List, [], All, IsNone, refl, sym, ap, subst, arith, true≢false}
use Rattle.hg_defs.specs.declared.moves.Move.{Move}
use Rattle.hg_defs.specs.Hypergraph.{vertex_count}
use Rattle.hg_defs.specs.Partition.{Fits}
use Rattle.hg_defs.specs.Cost.{cost}
use Rattle.hg_defs.specs.Replay.{replay}
use Rattle.pin_plain.specs.Parted.{Parted}
use Rattle.round_log.specs.Rounds.{touching, after_round}
use Rattle.round_log.proofs.FlowLaws.{flow-no_dearer}
use Rattle.flow_pair.specs.CutNets.{AreCutLists}
use Rattle.flow_pair.proofs.ChangeLaws.{flow_replayed, flow_rearranged, flow_vertices}
use Rattle.flow_pair.proofs.PairLaws.{IsRearranged}
use Rattle.flow_pair.proofs.CutNetLaws.{lists_after}
use Rattle.flow_pair.proofs.TurnLaws.{turn_passed, turn_taken}
use Rattle.flow_pair.proofs.pass.Course.take_turn.Goals as goal

pub returns-in_default-clause-turn : goal.returns-in_default-clause-turn
returns-in_default-clause-turn c =
    let s = c.args.self.now in
    turn_passed c.args.h.now s.level c.args.a c.args.b s.part s.rounds.items c.requires.course.fits
    (c.in_ok-found.ensures.none.0 (subst IsNone (sym c.in_default.is) refl))

pub returns-clause-turn : goal.returns-clause-turn
returns-clause-turn c =
    let s = c.args.self.now in
    let some : touching c.args.h.now s.part.blocks c.args.a c.args.b ≢ [] =
    λ e. true≢false (subst IsNone c.in-Some.is (c.in_ok-found.ensures.none.1 e)) in
    turn_taken c.args.h.now s.level c.args.a c.args.b s.part c.record_round.new.p c.in_ok-round.round s.rounds.items c.push.new.self.items some
    c.in_ok-round.ensures.round c.in_ok-round.ensures.partition c.in_ok-push.ensures.items

pub add_nets_of-requires-clause-moves : goal.add_nets_of-requires-clause-moves
add_nets_of-requires-clause-moves c =
    let h = c.args.h.now in
    let p = c.args.self.now.part in
    subst (All (λ (m : Move). m.vertex < vertex_count h)) (sym c.slice.ensures)
    (flow_vertices h p.k p.limit p.blocks c.in_ok-round.round c.in_ok-round.ensures.round.flow)

pub add_nets_of-requires-clause-first : goal.add_nets_of-requires-clause-first
add_nets_of-requires-clause-first c =
    let count = c.requires.course.cut_is.count in
    let order = c.requires.order in
    let second = c.requires.second in
    omega arith

pub add_nets_of-requires-clause-second : goal.add_nets_of-requires-clause-second
add_nets_of-requires-clause-second c =
    let count = c.requires.course.cut_is.count in
    let second = c.requires.second in
    omega arith

pub returns-clause-course : goal.returns-clause-course
returns-clause-course c =
    let h = c.args.h.now in
    let p = c.args.self.now.part in
    let round = c.in_ok-round.round in
    let flow = c.in_ok-round.ensures.round.flow in
    let is = c.in_ok-round.ensures.partition in
    let blocks : c.record_round.new.p.blocks ≡ after_round p.blocks round = ap (λ (x : Parted). x.blocks) is in
    let less = flow-no_dearer h p.k p.limit p.blocks round flow in
    let moved = blocks ∙ flow_replayed h p.k p.limit p.blocks round flow in
    let replayed = subst (λ (ms : List Move). c.record_round.new.p.blocks ≡ replay p.blocks ms) (sym c.slice.ensures) moved in
    let recorded = c.in_ok-round.ensures.round in
    let rearranged = subst (λ q. IsRearranged p.blocks q c.args.a c.args.b) (sym blocks)
    (subst (IsRearranged p.blocks (after_round p.blocks round) c.args.a) recorded.second
    (subst (λ x. IsRearranged p.blocks (after_round p.blocks round) x round.second) recorded.first
    (flow_rearranged h p.k p.limit p.blocks round flow))) in
    let order = c.requires.order in
    let second = c.requires.second in
    record {
      belongs = ap (λ (x : Parted). x.hyper) is ∙ c.requires.course.belongs;
      fits = subst (λ (x : Parted). Fits h x.k x.limit x.blocks) (sym is) flow.fits;
      cost_is = flow.after ∙ flow.made ∙ ap (cost h) (sym blocks);
      small = let known = c.requires.course.cost_is in let low = c.requires.course.small in let before = flow.before in omega arith;
      cut_is = subst (λ (x : Parted). AreCutLists h x.k c.record_round.new.p.blocks c.add_nets_of.new.self) (sym is)
          (subst (AreCutLists h p.k c.record_round.new.p.blocks) (sym c.in_ok-add_nets_of.ensures)
          (lists_after h p.k p.blocks c.record_round.new.p.blocks c.args.a c.args.b c.slice.result.now c.args.self.now.cut c.requires.course.cut_is
          (omega (arith, order, second)) second (omega (arith, order)) rearranged replayed));
      solver_is = c.in_ok-found.ensures.hyper ∙ c.nets_between.ensures.hyper ∙ c.requires.course.solver_is;
    }

pub returns-clause-no_dearer : goal.returns-clause-no_dearer
returns-clause-no_dearer c =
    let p = c.args.self.now.part in
    let flow = c.in_ok-round.ensures.round.flow in
    let less = flow-no_dearer c.args.h.now p.k p.limit p.blocks c.in_ok-round.round flow in
    let before = flow.before in
    let known = c.requires.course.cost_is in
    omega arith
