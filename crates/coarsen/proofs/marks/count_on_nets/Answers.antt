-- A single vertex counts once on each of its nets.
use Rattle.std.proofs.Common.{◌≡◌, ℕ, ◌+◌, ◌∙◌, List, length, take, drop, replicate, slice_index, sym, ap, subst}
use Rattle.std.proofs.lemmas.List.{take_at}
use Rattle.hg_defs.specs.Incidence.{nets_of}
use Rattle.coarsen.specs.Marks.{AreCounted}
use Rattle.coarsen.proofs.CountLaws.{raised, counted_none, counted_skipped, counted_more}
use Rattle.coarsen.proofs.marks.count_on_nets.Goals as goal
use Rattle.coarsen.proofs.marks.count_on_nets.Goals.{then-single-v, else-single-v}

pub loop-v-init : goal.loop-v-init
loop-v-init c =
    counted_none c.args.h.now c.args.single.now c.in_ok-counts.counts.items
    (c.in_ok-counts.ensures.items_if_clones_equal (λ y e. e) ∙ ap (λ (n : ℕ). replicate n 0) c.nets.ensures.count)

pub loop-v-preserved : goal.loop-v-preserved
loop-v-preserved c =
    let h = c.args.h.now in
    let single = c.args.single.now in
    let v = c.loop-v.v in
    let counts = c.loop-v.counts.items in
    elim c.if-single-v.branch [
      | then-single-v w ↦
          let next = w.count_once_more.new.counts in
          let same = w.as_mut_slice.ensures.value in
          let long : length next ≡ c.loop-v.counts.len = w.count_once_more.auto.counts ∙ w.as_mut_slice.ensures.len in
          let items : c.if-single-v.counts.items ≡ next =
          ap (λ x. x.items) w.counts-is ∙ take_at next (drop (length next) counts) c.loop-v.counts.len long in
          let made : (e : ℕ) → slice_index next e ≡ raised (nets_of h v) counts e =
          subst (λ (xs : List ℕ). (e : ℕ) → slice_index next e ≡ raised (nets_of h v) xs e) same
          (subst (λ (ns : List ℕ). (e : ℕ) → slice_index next e ≡ raised ns w.as_mut_slice.result.now e) w.nets_of.ensures.value
          w.count_once_more.ensures) in
          subst (AreCounted h (take (v + 1) single)) (sym items)
          (counted_more h single v counts c.loop-v.invariant next c.vertices-v-end.ensures.sound w.if-single-v.true
          (w.count_once_more.auto.counts ∙ ap length same) made)
      | else-single-v w ↦
          subst (AreCounted h (take (v + 1) single)) (sym (ap (λ x. x.items) w.counts-is))
          (counted_skipped h single v counts c.loop-v.invariant w.if-single-v.false)
    ]
