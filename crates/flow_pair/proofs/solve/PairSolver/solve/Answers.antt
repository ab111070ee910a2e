use Rattle.std.proofs.Common.{◌≡◌, ◌<◌, ◌∙◌, All, length, refl, sym, ap, subst, arith, take, true≢false}
use Rattle.std.specs.List.Sorted.{IsStrictlyIncreasing}
use Rattle.std.proofs.lemmas.Bool.{eqb-true, eq-eqb}
use Rattle.std.proofs.lemmas.List.{nil_from_length, length-take-le}
use Rattle.hg_defs.specs.Hypergraph.{IsHypergraph, vertex_count, net_count}
use Rattle.round_log.proofs.RegionLaws.{region_rises}
use Rattle.flow_pair.proofs.EndLaws.{region_vertices}
use Rattle.flow_pair.proofs.NetLaws.{touching_some, touching_none, inside_all}
use Rattle.flow_pair.proofs.NoteLaws.{noted-alone}
use Rattle.flow_pair.proofs.solve.PairSolver.solve.Goals as goal

pub open_region-requires-clause-rising : goal.open_region-requires-clause-rising
open_region-requires-clause-rising c =
    let p = c.args.p.now in
    subst IsStrictlyIncreasing (sym (c.slice.ensures ∙ c.in_ok-region.ensures)) (region_rises c.args.h.now p.limit p.blocks c.args.a c.args.b)

pub open_region-requires-clause-vertices : goal.open_region-requires-clause-vertices
open_region-requires-clause-vertices c =
    let p = c.args.p.now in
    let sound : IsHypergraph c.args.h.now = subst IsHypergraph c.requires.belongs c.blocks-blocks.ensures.parted.sound in
    subst (All (λ v. v < vertex_count c.args.h.now)) (sym (c.slice.ensures ∙ c.in_ok-region.ensures))
    (region_vertices c.args.h.now p.limit p.blocks c.args.a c.args.b sound)

pub of-pair-requires-clause-rising : goal.of-pair-requires-clause-rising
of-pair-requires-clause-rising c =
    let p = c.args.p.now in
    subst IsStrictlyIncreasing (sym (c.slice-2.ensures ∙ c.in_ok-region.ensures)) (region_rises c.args.h.now p.limit p.blocks c.args.a c.args.b)

pub of-pair-requires-clause-vertices : goal.of-pair-requires-clause-vertices
of-pair-requires-clause-vertices c =
    let p = c.args.p.now in
    let sound : IsHypergraph c.args.h.now = subst IsHypergraph c.requires.belongs c.blocks-blocks.ensures.parted.sound in
    subst (All (λ v. v < vertex_count c.args.h.now)) (sym (c.slice-2.ensures ∙ c.in_ok-region.ensures))
    (region_vertices c.args.h.now p.limit p.blocks c.args.a c.args.b sound)

pub note-requires : goal.note-requires
note-requires c =
    let h = c.args.h.now in
    subst (λ x. All (λ e. e < net_count x) c.as_slice-inside.result.now) (sym c.of-pair.ensures.hyper)
    (subst (All (λ e. e < net_count h)) (sym (c.as_slice-inside.ensures.value ∙ c.in_ok-inside.ensures.nets)) (inside_all h c.slice.result.now))

pub solve_region-requires-clause-noted : goal.solve_region-requires-clause-noted
solve_region-requires-clause-noted c =
    let s = c.of-pair.result in
    let all = c.as_mut_slice.result.now in
    let one : length (take 1 all) ≡ 1 =
    length-take-le 1 all (let m = c.in_ok-make_runs.ensures in let e = c.as_mut_slice.ensures.len in omega arith) in
    λ i d l. noted-alone s.h.now s.blocks.now s.first s.second s.region.now c.as_slice-inside.result.now (take 1 all) c.note.new.self i d one c.note.ensures l

pub returns-then-is_empty-clause-none : goal.returns-then-is_empty-clause-none
returns-then-is_empty-clause-none c =
    let nets = c.args.nets.now in
    let none = nil_from_length nets (eqb-true (length nets) 0 (sym c.is_empty.ensures ∙ c.if-is_empty.true)) in (
      λ e. touching_some c.args.h.now c.args.p.now.blocks c.args.a c.args.b (sym c.requires.nets ∙ none),
      λ e. refl,
    )

pub returns-clause-none : goal.returns-clause-none
returns-clause-none c =
    let nets = c.args.nets.now in (
      λ e. absurd (true≢false e),
      λ e. absurd (true≢false (sym (eq-eqb (length nets) 0 (ap length (c.requires.nets ∙ touching_none c.args.h.now c.args.p.now.blocks c.args.a c.args.b e)))
          ∙ (sym c.is_empty.ensures ∙ c.if-is_empty.false))),
    )
