use Rattle.std.proofs.Common.{rules, ◌≡◌, ℕ, ◌<◌, List, length, All, slice_index_or, IsPermutation, sym, ap, ap₂, ◌∙◌, subst}
use Rattle.hg_defs.specs.declared.moves.Move.{Move}
use Rattle.hg_defs.specs.Replay.{replay}
use Rattle.hg_defs.specs.Cost.{cost}
use Rattle.pin_plain.specs.Parted.{Parted}
use Rattle.hg_defs.specs.Hypergraph.{Hyper, vertex_count}
use Rattle.move_table.specs.Calls.{RacedRound, RacedPass}
use Rattle.move_table.specs.Closing.{all_moves, all_numbers, AreByNumber, IsKeptPass}
use Rattle.move_table.proofs.EndLaws.{IsLaidOut, closed_with, ended_as}
use Rattle.move_table.proofs.round.Round.close.Goals as goal
use Rattle.move_table.proofs.round.Round.close.Goals.{After-end_words}
use Rattle.move_table.proofs.round.Round.close.Given.{Over}

closes : (g : Over) (c : After-end_words g) → IsLaidOut c.self.inside.terms c.args.passes c.in-Ok.gathered.moves.items
closes g c =
    closed_with c.self.inside.terms c.self.inside.table.shared.key c.args.passes c.slice.result.now c.in-Ok.gathered.moves.items c.end_words.ensures
    c.self.invariant.same_key c.slice.ensures (c.requires.passes.all ∙ sym (ap (λ (r : RacedRound). r.terms.workers) c.self.view_is))
    c.requires.passes.numbers c.in-Ok.ensures.kept c.in-Ok.ensures.moves

pub replay_with-requires-clause-vertices : goal.replay_with-requires-clause-vertices
replay_with-requires-clause-vertices g c κs within =
    subst (λ (h : Hyper). All (λ (m : Move). m.vertex < vertex_count h) c.as_slice.result.now) (sym c.self.invariant.hyper)
    (subst (All (λ (m : Move). m.vertex < vertex_count c.self.inside.terms.part.hyper)) (sym c.as_slice.ensures.value)
    (closes g (goal.at.replay_with-requires-clause-vertices g c).After-end_words).vertices)

pub replay_with-requires-clause-blocks : goal.replay_with-requires-clause-blocks
replay_with-requires-clause-blocks g c κs within =
    let t = c.self.inside.terms in
    let given : Parted = c.into_partition-part.result in
    let same : given ≡ t.part = c.into_partition-part.ensures in
    subst (λ (p : Parted). All (λ (m : Move). m.to < p.k) c.as_slice.result.now) (sym same)
    (subst (All (λ (m : Move). m.to < t.part.k)) (sym c.as_slice.ensures.value)
    (closes g (goal.at.replay_with-requires-clause-blocks g c).After-end_words).blocks)

pub returns-clause-permuted : goal.returns-clause-permuted
returns-clause-permuted g c = subst (IsPermutation (all_moves c.args.passes)) (sym c.from_vec.ensures) (closes g (goal.at.returns-clause-permuted g c).After-end_words).permuted

pub returns-clause-moves : goal.returns-clause-moves
returns-clause-moves g c =
    subst (AreByNumber (all_numbers c.args.passes) (all_moves c.args.passes)) (sym c.from_vec.ensures)
    (closes g (goal.at.returns-clause-moves g c).After-end_words).laid

pub returns-clause-kept : goal.returns-clause-kept
returns-clause-kept g c =
    subst (λ (ps : List RacedPass). (i : ℕ) (p : RacedPass) → i < length ps → IsKeptPass (slice_index_or ps i p)) c.slice.ensures c.in-Ok.ensures.kept

pub invariant_of-result : goal.invariant_of-result
invariant_of-result g c =
    let t = c.self.inside.terms in
    let ps = c.args.passes in
    let out = c.in-Ok.gathered.moves.items in
    let given : Parted = c.into_partition-part.result in
    let same : given ≡ t.part = c.into_partition-part.ensures in
    let after : Parted → List Move → Parted = λ p ms. record p { blocks = replay p.blocks ms } in
    let made : c.replay_with.new.self ≡ after t.part out =
    c.replay_with.ensures ∙ ap (λ (p : Parted). after p c.as_slice.result.now) same ∙ ap (after t.part) c.as_slice.ensures.value in
    let opened : c.of-opening.result.value.blocks ≡ t.part.blocks = search rules in (
      ended_as t ps out c.of-opening.result.value.blocks c.replay_with.new.self c.from_vec.result c.from_vec-2.result
          (closes g (goal.at.invariant_of-result g c).After-end_words).ends opened made c.from_vec.ensures (search rules),
      c.self.invariant.priced ∙ sym (ap₂ cost (ap (λ (p : Parted). p.hyper) made) opened),
    )
