use Rattle.std.proofs.Common.{rules, ◌≡◌, ℕ, ◌+◌, ◌<◌, ◌+ℤ◌, List, length, slice_index, FitsSigned, sym, ap, ◌∙◌, subst}
use Rattle.std.specs.Int.{w64}
use mir.Val.{to_z}
use Rattle.hg_defs.specs.Incidence.{nets_of}
use Rattle.move_core.specs.declared.account.Owed.TheVariants.{Nothing}
use Rattle.move_table.proofs.CarryLaws.{on_the_way}
use Rattle.move_table.proofs.PassedLaws.{IsUnderWay, after_raise, one_more, gains_fit, as_bits, sum_fits, plus_none}
use Rattle.move_table.proofs.carry.carry_pins.Goals as goal

pub raise-booked-requires-clause-stage : goal.raise-booked-requires-clause-stage
raise-booked-requires-clause-stage c =
    let nets : c.nets_of-e-items.result.now ≡ nets_of c.args.round.now.terms.part.hyper c.args.grant.now.vertex = c.nets_of-e-items.ensures.value ∙
    ap (λ h. nets_of h c.args.grant.now.vertex) c.hyper.ensures.same in
    let way = c.loop-e.invariant.way in
    record {
      number = c.args.number;
      place = c.loop-e.e-index;
      booked = to_z w64 c.loop-e.booked-bits;
      stage = way.passed.stage ∙ ap (λ z. on_the_way c.args.grant.now c.args.number z c.loop-e.e-index Nothing (to_z w64 c.loop-e.booked-bits))
          (sym (plus_none c.loop-e.e-index));
      net = ap (λ (xs : List ℕ). slice_index xs c.loop-e.e-index) nets;
      within = subst (λ (xs : List ℕ). c.loop-e.e-index < length xs) nets c.loop-e-test.true;
    }

pub lower-booked-requires-clause-stage : goal.lower-booked-requires-clause-stage
lower-booked-requires-clause-stage c =
    let nets : c.nets_of-e-items.result.now ≡ nets_of c.args.round.now.terms.part.hyper c.args.grant.now.vertex = c.nets_of-e-items.ensures.value ∙
    ap (λ h. nets_of h c.args.grant.now.vertex) c.hyper.ensures.same in
    let way = c.loop-e.invariant.way in
    let net = ap (λ (xs : List ℕ). slice_index xs c.loop-e.e-index) nets in
    let raised = after_raise c.args.round.now.terms c.args.pass c.args.grant.now (slice_index c.nets_of-e-items.result.now c.loop-e.e-index)
    c.loop-e.seat.me.0
    c.raise-booked.new.seat.me.0 c.args.number c.loop-e.e-index (to_z w64 c.loop-e.booked-bits) c.raise-booked.result way.mover way.passed.stage net
    c.raise-booked.ensures.raised in
    record {
      number = c.args.number;
      place = c.loop-e.e-index;
      booked = to_z w64 c.loop-e.booked-bits +ℤ c.raise-booked.result;
      stage = raised.same_stage;
      net = net;
      within = subst (λ (xs : List ℕ). c.loop-e.e-index < length xs) nets c.loop-e-test.true;
    }

pub overflow_add-booked-in-loop-e : goal.overflow_add-booked-in-loop-e
overflow_add-booked-in-loop-e c =
    let nets : c.nets_of-e-items.result.now ≡ nets_of c.args.round.now.terms.part.hyper c.args.grant.now.vertex = c.nets_of-e-items.ensures.value ∙
    ap (λ h. nets_of h c.args.grant.now.vertex) c.hyper.ensures.same in
    let net = ap (λ (xs : List ℕ). slice_index xs c.loop-e.e-index) nets in
    let small : FitsSigned w64 (to_z w64 c.loop-e.booked-bits) = search rules in
    let fu : FitsSigned w64 c.raise-booked.result = search rules in
    let fd : FitsSigned w64 c.lower-booked.result = search rules in
    let fit = gains_fit c.args.round.now.terms c.args.pass c.args.grant.now c.args.number c.loop-e.e-index
    (slice_index c.nets_of-e-items.result.now c.loop-e.e-index) c.args.seat.now.me.0 c.loop-e.seat.me.0 c.raise-booked.new.seat.me.0
    c.lower-booked.new.seat.me.0 (to_z w64 c.loop-e.booked-bits) c.raise-booked.result c.lower-booked.result c.loop-e.invariant.way net small
    c.raise-booked.ensures.raised c.lower-booked.ensures.lowered in
    sum_fits (to_z w64 c.loop-e.booked-bits) c.raise-booked.result c.lower-booked.result fu fd fit.0 fit.1

pub loop-e-preserved : goal.loop-e-preserved
loop-e-preserved c =
    let nets : c.nets_of-e-items.result.now ≡ nets_of c.args.round.now.terms.part.hyper c.args.grant.now.vertex = c.nets_of-e-items.ensures.value ∙
    ap (λ h. nets_of h c.args.grant.now.vertex) c.hyper.ensures.same in
    let net = ap (λ (xs : List ℕ). slice_index xs c.loop-e.e-index) nets in
    let small : FitsSigned w64 (to_z w64 c.loop-e.booked-bits) = search rules in
    let fu : FitsSigned w64 c.raise-booked.result = search rules in
    let fd : FitsSigned w64 c.lower-booked.result = search rules in
    let e : ℕ = slice_index c.nets_of-e-items.result.now c.loop-e.e-index in
    let below = subst (λ (xs : List ℕ). c.loop-e.e-index < length xs) nets c.loop-e-test.true in
    let fit = gains_fit c.args.round.now.terms c.args.pass c.args.grant.now c.args.number c.loop-e.e-index e c.args.seat.now.me.0 c.loop-e.seat.me.0
    c.raise-booked.new.seat.me.0 c.lower-booked.new.seat.me.0 (to_z w64 c.loop-e.booked-bits) c.raise-booked.result c.lower-booked.result
    c.loop-e.invariant.way net small c.raise-booked.ensures.raised c.lower-booked.ensures.lowered in
    record {
      table = search rules;
      rest = search rules;
      way = subst (IsUnderWay c.args.round.now.terms c.args.pass c.args.grant.now c.args.number (c.loop-e.e-index + 1) c.args.seat.now.me.0
          c.lower-booked.new.seat.me.0)
          (sym (as_bits (to_z w64 c.loop-e.booked-bits) c.raise-booked.result c.lower-booked.result fu fd fit.0 fit.1))
          (one_more c.args.round.now.terms c.args.pass c.args.grant.now c.args.number c.loop-e.e-index e c.args.seat.now.me.0 c.loop-e.seat.me.0
          c.raise-booked.new.seat.me.0 c.lower-booked.new.seat.me.0 (to_z w64 c.loop-e.booked-bits) c.raise-booked.result c.lower-booked.result
          c.loop-e.invariant.way below net small c.raise-booked.ensures.raised c.lower-booked.ensures.lowered);
    }
