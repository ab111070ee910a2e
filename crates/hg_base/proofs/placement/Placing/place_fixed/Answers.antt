-- One vertex more, placed in the block of its fix or passed over.
use Rattle.std.proofs.Common.{◌≡◌, ◌<◌, ◌+◌, ℕ, ap, sym, ◌∙◌, nat_le, true, false, arith, slice_index, slice_set}
use Rattle.std.proofs.lemmas.Bool.{eq-eqb, ne_eqb}
use Rattle.std.proofs.lemmas.List.{length-set}
use Rattle.hg_defs.specs.declared.objective.TheConstants.{FREE}
use Rattle.hg_defs.specs.Hypergraph.{is_free, vertex_count, fix_of, weight_of}
use Rattle.hg_defs.specs.LeastLoaded.{placed, first_overfilling}
use Rattle.hg_base.proofs.PlacingLaws.{put, fixed_from, fixed_from-fixed, fixed_from-free, fixed_from-end}
use Rattle.hg_base.proofs.PlacingLaws.{taken-fixed, overfills_now, overfills_later, placed_next}
use Rattle.hg_base.proofs.placement.Placing.place_fixed.Goals as goal
use Rattle.hg_base.proofs.placement.Placing.place_fixed.Goals.{else-fix-ne-FREE-via-then-fix-ne-FREE+else-not-place, else-fix-ne-FREE-via-else-fix-ne-FREE}

pub returns-then-not-place : goal.returns-then-not-place
returns-then-not-place c =
    let h = c.args.h.now in
    let l = c.args.limit in
    let s = c.loop-v.self in
    let v = c.loop-v.v in
    let b = c.fix-fix.result in
    let rest = fixed_from h (v + 1) in
    let inside : v < vertex_count h = omega (arith, c.loop-v-test.true, c.vertices-v-end.ensures.count) in
    let fixed : is_free h v ≡ false = ne_eqb (fix_of h v) FREE (λ q. c.if-fix-ne-FREE.true (c.fix-fix.ensures.value ∙ q)) in
    let past : nat_le (slice_index s.loads b + weight_of h v) l ≡ false =
    ap (λ (w : ℕ). nat_le (slice_index s.loads b + w) l) (sym c.vertex_weight.ensures.value) ∙ sym c.place.ensures.fits ∙ c.if-not-place.true in
    sym c.loop-v.invariant.3
    ∙ ap (first_overfilling h l s) (fixed_from-fixed h v inside fixed)
    ∙ overfills_now h l s v rest b (taken-fixed h l s v rest fixed ∙ sym c.fix-fix.ensures.value) past

pub loop-v-preserved : goal.loop-v-preserved
loop-v-preserved c =
    let h = c.args.h.now in
    let l = c.args.limit in
    let s = c.loop-v.self in
    let v = c.loop-v.v in
    let b = c.fix-fix.result in
    let rest = fixed_from h (v + 1) in
    let inside : v < vertex_count h = omega (arith, c.loop-v-test.true, c.vertices-v-end.ensures.count) in
    elim c.else-fix-ne-FREE.branch [
      | else-fix-ne-FREE-via-then-fix-ne-FREE+else-not-place w ↦
          (let fixed : is_free h v ≡ false = ne_eqb (fix_of h v) FREE (λ q. w.if-fix-ne-FREE.true (c.fix-fix.ensures.value ∙ q)) in
          let taken = taken-fixed h l s v rest fixed ∙ sym c.fix-fix.ensures.value in
          let within : nat_le (slice_index s.loads b + weight_of h v) l ≡ true =
          ap (λ (w : ℕ). nat_le (slice_index s.loads b + w) l) (sym w.vertex_weight.ensures.value) ∙ sym w.place.ensures.fits ∙ w.if-not-place.false in
          let state : c.else-fix-ne-FREE.self ≡ put h s v b =
          w.self-is ∙ w.if-not-place.ensures.placed
          ∙ ap (λ (w : ℕ). record { loads = slice_set s.loads b (slice_index s.loads b + w); blocks = slice_set s.blocks v b })
          w.vertex_weight.ensures.value in
          rw state (
            length-set s.blocks v b ∙ c.loop-v.invariant.0,
            length-set s.loads b (slice_index s.loads b + weight_of h v) ∙ c.loop-v.invariant.1,
            sym (ap (placed h s) (fixed_from-fixed h v inside fixed) ∙ placed_next h l s v rest b taken) ∙ c.loop-v.invariant.2,
            sym (ap (first_overfilling h l s) (fixed_from-fixed h v inside fixed) ∙ overfills_later h l s v rest b taken within) ∙ c.loop-v.invariant.3,
          ))
      | else-fix-ne-FREE-via-else-fix-ne-FREE w ↦
          (let free : is_free h v ≡ true = eq-eqb (fix_of h v) FREE (sym c.fix-fix.ensures.value ∙ w.if-fix-ne-FREE.false) in
          rw w.self-is (
            c.loop-v.invariant.0,
            c.loop-v.invariant.1,
            sym (ap (placed h s) (fixed_from-free h v inside free)) ∙ c.loop-v.invariant.2,
            sym (ap (first_overfilling h l s) (fixed_from-free h v inside free)) ∙ c.loop-v.invariant.3,
          ))
    ]

pub returns : goal.returns
returns c =
    let h = c.args.h.now in
    let end = fixed_from-end h c.loop-v.v (omega (arith, c.loop-v-test.false, c.vertices-v-end.ensures.count)) in (
      sym c.loop-v.invariant.3 ∙ ap (first_overfilling h c.args.limit c.loop-v.self) end,
      sym c.loop-v.invariant.2 ∙ ap (placed h c.loop-v.self) end,
    )
