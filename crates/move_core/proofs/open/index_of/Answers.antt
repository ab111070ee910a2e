-- A net more goes to the list of each of its pins.
use Rattle.std.proofs.Common.{◌≡◌, ◌<◌, [], ◌∷◌, length, length-append, length-set, get_or, slice_index, inl, inr, ap, ◌∙◌, subst, sym, arith}
use Rattle.std.proofs.lemmas.Bool.{cases_lt}
use Rattle.std.proofs.lemmas.List.{take_all, get_or_append_left, get_or_push}
use Rattle.std.proofs.lemmas.List.FromFn.{fill_by_all}
use Rattle.hg_defs.specs.Hypergraph.{vertex_count, net_count, net_of}
use Rattle.hg_defs.specs.Incidence.{nets_of}
use Rattle.move_core.specs.State.{times}
use Rattle.move_core.proofs.TimesLaws.{times_at}
use Rattle.move_core.proofs.NetLaws.{times_pin}
use Rattle.move_core.proofs.OpenFacts.{nets_below, nets_with, index_more, nets_below_more, nets_below_all}
use Rattle.move_core.proofs.open.index_of.Goals as goal

pub loop-preserved : goal.loop-preserved
loop-preserved c =
    let p = c.in_ok-push.ensures in
    let xs = c.loop.index.items in
    let w = c.loop.invariant.wide in
    record {
      wide = ap length p.items ∙ length-append xs (c.new.result ∷ []) ∙ (omega arith);
      each = λ u d l.
          ap (λ ys. get_or ys u d) p.items
          ∙ elim (cases_lt u c.loop.counter) [
            | inl k ↦ get_or_append_left xs (c.new.result ∷ []) d u (omega arith) ∙ c.loop.invariant.each u d k
            | inr k ↦ get_or_push xs c.new.result d u (omega arith) ∙ c.new.ensures
          ];
    }

pub loop-e-init : goal.loop-e-init
loop-e-init c =
    let n = c.vertices-end.ensures.count in
    let e = c.loop-test.false in
    let a = c.loop.auto.counter-end in
    let w = c.loop.invariant.wide in
    record { wide = omega arith; each = λ u d l. c.loop.invariant.each u d (omega arith) }

pub loop-v-preserved : goal.loop-v-preserved
loop-v-preserved c =
    let pins = (net_of c.args.h.now c.loop-e.e).pins in
    let lp = ap length c.pins-v-items.ensures.value in
    let le = c.nets-e-end.ensures.count in
    let lj : c.loop-v.v-index < length pins = omega arith in
    let ev = ap (λ xs. slice_index xs c.loop-v.v-index) c.pins-v-items.ensures.value in
    let lv = c.pins-v-items.ensures.below c.loop-v.v-index 0 c.loop-v-test.true in
    let has = subst (λ v. 0 < times v pins) (sym ev) (times_at pins c.loop-v.v-index 0 lj) in
    let once = times_pin c.args.h.now c.nets-e-end.ensures.sound (slice_index c.pins-v-items.result.now c.loop-v.v-index) c.loop-e.e (omega arith) has in
    let o = c.in_ok-push-2.ensures in
    record {
      wide = length-set c.loop-v.index.items (slice_index c.pins-v-items.result.now c.loop-v.v-index) c.push-in-loop-v.new.self ∙ c.loop-v.invariant.wide;
      each = index_more c.args.h.now c.loop-v.index.items c.loop-e.e (vertex_count c.args.h.now) c.loop-v.v-index
          (slice_index c.pins-v-items.result.now c.loop-v.v-index) pins c.index_mut.result.now c.push-in-loop-v.new.self c.loop-v.invariant.wide lj ev lv
          (omega arith) c.loop-v.invariant.each c.index_mut.ensures.value o.ok;
    }

pub loop-e-preserved : goal.loop-e-preserved
loop-e-preserved c =
    let pins = (net_of c.args.h.now c.loop-e.e).pins in
    let lp = ap length c.pins-v-items.ensures.value in
    record {
      wide = c.loop-v.invariant.wide;
      each = λ u d l.
          c.loop-v.invariant.each u d l
          ∙ ap (nets_with c.args.h.now u c.loop-e.e) (take_all c.loop-v.v-index pins (omega arith))
          ∙ nets_below_more c.args.h.now u c.loop-e.e;
    }

pub returns : goal.returns
returns c =
    let le = c.nets-e-end.ensures.count in
    let full : c.loop-e.e ≡ net_count c.args.h.now = omega arith in
    fill_by_all (nets_of c.args.h.now) c.loop-e.index.items (vertex_count c.args.h.now) [] c.loop-e.invariant.wide
    (λ u l. c.loop-e.invariant.each u [] l ∙ ap (nets_below c.args.h.now u) full ∙ nets_below_all c.args.h.now u)
