-- Each word reads as it must at the opening, where the books are in balance.
use Rattle.std.proofs.Common.{rules, ◌≡◌, ◌*◌, length, map, replicate, ap, ◌∙◌, subst, sym, arith}
use Rattle.hg_defs.specs.Hypergraph.{Hyper, vertices}
use Rattle.hg_defs.specs.Incidence.{nets_of}
use Rattle.move_core.specs.State.{Setup, State, setup_of}
use Rattle.move_core.specs.Balance.{IsSetup, IsShaped}
use Rattle.move_core.proofs.OpenLaws.{length-opened_counts, opened_shape}
use Rattle.move_core.proofs.OpenFacts.{spreads_all, opened_from}
use Rattle.move_core.proofs.ledger.Ledger.open.Goals as goal

pub spreads_of-requires : goal.spreads_of-requires
spreads_of-requires c =
    let n = c.nets.ensures.count in
    let o = c.in_ok-counts.ensures in
    ap length c.deref.ensures.value ∙ ap length o ∙ length-opened_counts (setup_of c.args.h.now c.args.k c.args.limit c.args.p.now)
    ∙ ap (λ m. m * c.args.k) (sym n)

pub invariant_of-result : goal.invariant_of-result
invariant_of-result c =
    let s : Setup = setup_of c.args.h.now c.args.k c.args.limit c.args.p.now in
    let p1 = c.in_ok-from_slice.ensures in
    let p2 = c.in_ok-from_slice-2.ensures in
    let v : c.in_ok-vec.field-0.items ≡ replicate c.vertices.result 0 = search rules in
    let n = c.vertices.ensures.count in
    let q = c.in_ok-spreads.ensures ∙ spreads_all s c.nets.result c.deref.result.now c.nets.ensures.count (c.deref.ensures.value ∙
    c.in_ok-counts.ensures) in
    let e = opened_from s c.args.passes c.of.result.value c.in_ok-from_slice.field-0.items c.in_ok-vec.field-0.items c.in_ok-from_slice-2.field-0.items
    c.in_ok-loads.loads.items c.in_ok-counts.counts.items c.in_ok-spreads.spreads.items c.in_ok-blank_passes.field-0.items c.of.ensures p1.items
    (v ∙ ap (λ m. replicate m 0) n) p2.items c.in_ok-loads.ensures c.in_ok-counts.ensures q c.in_ok-blank_passes.ensures in
    let ok : IsSetup s = record {
      graph = c.nets.ensures.sound;
      bounds = c.nets.ensures.bounds;
      blocks = omega arith;
      opening = c.requires.partition;
      fits = c.requires.fits;
    } in (
      c.in_ok-index.ensures ∙ ap (λ (z : Hyper). map (nets_of z) (vertices z)) (sym c.of.ensures),
      subst IsSetup (ap (λ (z : State). z.setup) (sym e))
          ok,
      subst IsShaped (sym e) (opened_shape s ok c.args.passes),
    )

pub returns-clause-state : goal.returns-clause-state
returns-clause-state c =
    let s : Setup = setup_of c.args.h.now c.args.k c.args.limit c.args.p.now in
    let p1 = c.in_ok-from_slice.ensures in
    let p2 = c.in_ok-from_slice-2.ensures in
    let v : c.in_ok-vec.field-0.items ≡ replicate c.vertices.result 0 = search rules in
    let n = c.vertices.ensures.count in
    let q = c.in_ok-spreads.ensures ∙ spreads_all s c.nets.result c.deref.result.now c.nets.ensures.count (c.deref.ensures.value ∙
    c.in_ok-counts.ensures) in
    let e = opened_from s c.args.passes c.of.result.value c.in_ok-from_slice.field-0.items c.in_ok-vec.field-0.items c.in_ok-from_slice-2.field-0.items
    c.in_ok-loads.loads.items c.in_ok-counts.counts.items c.in_ok-spreads.spreads.items c.in_ok-blank_passes.field-0.items c.of.ensures p1.items
    (v ∙ ap (λ m. replicate m 0) n) p2.items c.in_ok-loads.ensures c.in_ok-counts.ensures q c.in_ok-blank_passes.ensures in
    e
