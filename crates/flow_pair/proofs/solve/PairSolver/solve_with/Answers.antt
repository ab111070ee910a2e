use Rattle.std.proofs.Common.{◌<◌, ◌∙◌, ℕ, All, length, map, slice_index_or, sym, ap, subst, arith, true≢false}
use Rattle.std.specs.List.Sorted.{IsStrictlyIncreasing}
use Rattle.std.proofs.lemmas.Bool.{eq-eqb}
use Rattle.hg_defs.specs.Hypergraph.{IsHypergraph, vertex_count, net_count, net_of}
use Rattle.round_log.proofs.RegionLaws.{region_rises}
use Rattle.flow_pair.proofs.EndLaws.{region_vertices}
use Rattle.flow_pair.proofs.NetLaws.{touching_none, inside_all, inside_listed, joined_few}
use Rattle.flow_pair.specs.declared.notes.Notes.{Notes}
use Rattle.flow_pair.specs.Notes.{IsNotedRun}
use Rattle.flow_pair.proofs.ShortArcLaws.{inner}
use Rattle.flow_pair.proofs.solve.PairSolver.solve_with.Goals as goal

pub open_region-requires-clause-rising : goal.open_region-requires-clause-rising
open_region-requires-clause-rising g c =
    let p = c.args.p.now in
    subst IsStrictlyIncreasing (sym (c.slice.ensures ∙ c.in_ok-region.ensures)) (region_rises c.args.h.now p.limit p.blocks c.args.a c.args.b)

pub open_region-requires-clause-vertices : goal.open_region-requires-clause-vertices
open_region-requires-clause-vertices g c =
    let p = c.args.p.now in
    let sound : IsHypergraph c.args.h.now = subst IsHypergraph c.requires.belongs c.blocks-blocks.ensures.parted.sound in
    subst (All (λ v. v < vertex_count c.args.h.now)) (sym (c.slice.ensures ∙ c.in_ok-region.ensures))
    (region_vertices c.args.h.now p.limit p.blocks c.args.a c.args.b sound)

pub of-pair-requires-clause-rising : goal.of-pair-requires-clause-rising
of-pair-requires-clause-rising g c =
    let p = c.args.p.now in
    subst IsStrictlyIncreasing (sym (c.slice-2.ensures ∙ c.in_ok-region.ensures)) (region_rises c.args.h.now p.limit p.blocks c.args.a c.args.b)

pub of-pair-requires-clause-vertices : goal.of-pair-requires-clause-vertices
of-pair-requires-clause-vertices g c =
    let p = c.args.p.now in
    let sound : IsHypergraph c.args.h.now = subst IsHypergraph c.requires.belongs c.blocks-blocks.ensures.parted.sound in
    subst (All (λ v. v < vertex_count c.args.h.now)) (sym (c.slice-2.ensures ∙ c.in_ok-region.ensures))
    (region_vertices c.args.h.now p.limit p.blocks c.args.a c.args.b sound)

pub note_runs-requires-clause-nets : goal.note_runs-requires-clause-nets
note_runs-requires-clause-nets g c κs within =
    let h = c.args.h.now in
    subst (λ x. All (λ e. e < net_count x) c.as_slice-inside.result.now) (sym c.of-pair.ensures.hyper)
    (subst (All (λ e. e < net_count h)) (sym (c.as_slice-inside.ensures.value ∙ c.in_ok-inside.ensures.nets)) (inside_all h c.slice.result.now))

pub note_runs-requires-clause-few : goal.note_runs-requires-clause-few
note_runs-requires-clause-few g c =
    let h = c.args.h.now in
    let inside = c.as_slice-inside.result.now in
    let region = c.slice.result.now in
    let is = c.as_slice-inside.ensures.value ∙ c.in_ok-inside.ensures.nets in
    let few = joined_few h (inner h c.args.p.now.blocks c.args.a c.args.b region) inside (ap (map (net_of h)) is ∙ inside_listed h region) in
    let most = c.blocks-blocks.ensures.parted.bounds.nets in
    let same = ap net_count c.requires.belongs in
    omega arith

pub solve_region-requires-clause-noted : goal.solve_region-requires-clause-noted
solve_region-requires-clause-noted g c =
    let s = c.of-pair.result in
    let runs = c.note_runs.new.runs in
    subst (λ n. (i : ℕ) (d : Notes) → i < n → IsNotedRun s.h.now s.blocks.now s.first s.second s.region.now c.as_slice-inside.result.now n i
    (slice_index_or runs i d)) (sym c.note_runs.ensures.count) c.note_runs.ensures.noted

pub returns-clause-none : goal.returns-clause-none
returns-clause-none g c =
    let nets = c.args.nets.now in (
      λ e. absurd (true≢false e),
      λ e. absurd (true≢false (sym (eq-eqb (length nets) 0 (ap length (c.requires.nets ∙ touching_none c.args.h.now c.args.p.now.blocks c.args.a c.args.b e)))
          ∙ (sym c.is_empty.ensures ∙ c.if-is_empty.false))),
    )
