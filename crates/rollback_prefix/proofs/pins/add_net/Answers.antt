use Rattle.std.proofs.Common.{ap₂, ◌≤ℤ◌, ◌≡◌, ◌^◌, ◌*◌, ℕ, pos, ◌+ℤ◌, ◌-ℤ◌, List, length, get_or, arith, sym, ap, ◌∙◌, subst}
use Rattle.std.proofs.lemmas.Int.{ints}
use Rattle.hg_defs.specs.Hypergraph.{net_of}
use Rattle.hg_defs.specs.Cost.{price}
use Rattle.rollback_prefix.proofs.PinLaws.{counted-le}
use Rattle.rollback_prefix.proofs.StepLaws.{no_move}
use Rattle.rollback_prefix.proofs.KernelLaws.{replaying_next, replaying_last, still_old, signed_step, all_cleared, pin_left, pin_room, product_small}
use Rattle.rollback_prefix.proofs.pins.add_net.Goals as goal

pub overflow_mul-before : goal.overflow_mul-before
overflow_mul-before c =
    let few = counted-le c.loop-place.counts in
    let is = c.loop-place.invariant.touched_is in
    let small = product_small c.net_weight-weight.result c.price.result c.loop-place.touched (length c.args.counts.now) c.net_weight-weight.ensures.bound
    c.price.ensures.bound (omega arith) c.requires.replay.few in
    omega arith

pub shift_pin-touched-requires-clause-pin : goal.shift_pin-touched-requires-clause-pin
shift_pin-touched-requires-clause-pin c =
    pin_left c.args.h.now (length c.args.counts.now) c.args.blocks.now c.args.moves.now c.args.e c.requires.replay c.requires.net c.args.places.now
    c.requires.places
    c.loop-place.place-index c.loop-place.counts c.loop-place.touched c.args.gains.now c.loop-place.gains c.loop-place-test.true c.loop-place.invariant

pub shift_pin-touched-requires-clause-room : goal.shift_pin-touched-requires-clause-room
shift_pin-touched-requires-clause-room c =
    let at = c.requires.places.within c.loop-place.place-index 0 c.loop-place-test.true in
    let room = pin_room c.args.h.now (length c.args.counts.now) c.args.blocks.now c.args.moves.now c.args.e c.requires.replay c.requires.net
    c.args.places.now
    c.requires.places
    c.loop-place.place-index c.loop-place.counts c.loop-place.touched c.args.gains.now c.loop-place.gains
    (get_or c.args.moves.now (get_or c.args.places.now c.loop-place.place-index 0) no_move).to c.loop-place-test.true
    (c.requires.replay.steps.each (get_or c.args.places.now c.loop-place.place-index 0) no_move at).to c.loop-place.invariant in
    let few = c.pins-pins.ensures.few in
    let same = ap (λ (xs : List ℕ). length xs) c.pins-pins.ensures.value in
    omega arith

pub overflow_mul-after : goal.overflow_mul-after
overflow_mul-after c =
    let few = counted-le c.shift_pin-touched.new.counts in
    let is = c.shift_pin-touched.ensures.touched in
    let long = c.shift_pin-touched.auto.counts in
    let small = product_small c.net_weight-weight.result c.price-in-loop-place.result c.shift_pin-touched.result (length c.args.counts.now)
    c.net_weight-weight.ensures.bound c.price-in-loop-place.ensures.bound (omega arith) c.requires.replay.few in
    omega arith

pub overflow_cast-gains : goal.overflow_cast-gains
overflow_cast-gains c =
    let few = counted-le c.loop-place.counts in
    let is = c.loop-place.invariant.touched_is in
    let small = product_small c.net_weight-weight.result c.price.result c.loop-place.touched (length c.args.counts.now) c.net_weight-weight.ensures.bound
    c.price.ensures.bound (omega arith) c.requires.replay.few in
    omega (arith, ints)

pub overflow_cast-gains-in-loop-place : goal.overflow_cast-gains-in-loop-place
overflow_cast-gains-in-loop-place c =
    let few = counted-le c.shift_pin-touched.new.counts in
    let is = c.shift_pin-touched.ensures.touched in
    let long = c.shift_pin-touched.auto.counts in
    let small = product_small c.net_weight-weight.result c.price-in-loop-place.result c.shift_pin-touched.result (length c.args.counts.now)
    c.net_weight-weight.ensures.bound c.price-in-loop-place.ensures.bound (omega arith) c.requires.replay.few in
    omega (arith, ints)

pub overflow_sub-gains : goal.overflow_sub-gains
overflow_sub-gains c =
    let few = counted-le c.loop-place.counts in
    let is = c.loop-place.invariant.touched_is in
    let small = product_small c.net_weight-weight.result c.price.result c.loop-place.touched (length c.args.counts.now) c.net_weight-weight.ensures.bound
    c.price.ensures.bound (omega arith) c.requires.replay.few in
    let few2 = counted-le c.shift_pin-touched.new.counts in
    let is2 = c.shift_pin-touched.ensures.touched in
    let long = c.shift_pin-touched.auto.counts in
    let small2 = product_small c.net_weight-weight.result c.price-in-loop-place.result c.shift_pin-touched.result (length c.args.counts.now)
    c.net_weight-weight.ensures.bound c.price-in-loop-place.ensures.bound (omega arith) c.requires.replay.few in
    omega (arith, ints)

pub overflow_add-gains : goal.overflow_add-gains
overflow_add-gains c =
    let few = counted-le c.loop-place.counts in
    let is = c.loop-place.invariant.touched_is in
    let small = product_small c.net_weight-weight.result c.price.result c.loop-place.touched (length c.args.counts.now) c.net_weight-weight.ensures.bound
    c.price.ensures.bound (omega arith) c.requires.replay.few in
    let few2 = counted-le c.shift_pin-touched.new.counts in
    let is2 = c.shift_pin-touched.ensures.touched in
    let long = c.shift_pin-touched.auto.counts in
    let small2 = product_small c.net_weight-weight.result c.price-in-loop-place.result c.shift_pin-touched.result (length c.args.counts.now)
    c.net_weight-weight.ensures.bound c.price-in-loop-place.ensures.bound (omega arith) c.requires.replay.few in
    let here = c.requires.places.within c.loop-place.place-index 0 c.loop-place-test.true in
    let old = still_old c.args.h.now (length c.args.counts.now) c.args.blocks.now c.args.moves.now c.args.e c.requires.replay c.requires.net
    c.args.places.now
    c.requires.places
    c.loop-place.place-index c.loop-place.counts c.loop-place.touched c.args.gains.now c.loop-place.gains c.loop-place-test.true c.loop-place.invariant in
    let bounds = c.requires.small (get_or c.args.places.now c.loop-place.place-index 0) (omega arith) in
    let low : (pos 0 -ℤ pos (2 ^ 60)) ≤ℤ get_or c.loop-place.gains (get_or c.args.places.now c.loop-place.place-index 0) (pos 0) =
    subst (λ z. (pos 0 -ℤ pos (2 ^ 60)) ≤ℤ z) (sym old) bounds.0 in
    let high : get_or c.loop-place.gains (get_or c.args.places.now c.loop-place.place-index 0) (pos 0) ≤ℤ pos (2 ^ 60) = subst (λ z. z ≤ℤ pos (2 ^ 60))
    (sym old) bounds.1 in
    omega (arith, ints)

pub loop-place-preserved : goal.loop-place-preserved
loop-place-preserved c =
    let few = counted-le c.loop-place.counts in
    let is = c.loop-place.invariant.touched_is in
    let small = product_small c.net_weight-weight.result c.price.result c.loop-place.touched (length c.args.counts.now) c.net_weight-weight.ensures.bound
    c.price.ensures.bound (omega arith) c.requires.replay.few in
    let few2 = counted-le c.shift_pin-touched.new.counts in
    let is2 = c.shift_pin-touched.ensures.touched in
    let long = c.shift_pin-touched.auto.counts in
    let small2 = product_small c.net_weight-weight.result c.price-in-loop-place.result c.shift_pin-touched.result (length c.args.counts.now)
    c.net_weight-weight.ensures.bound c.price-in-loop-place.ensures.bound (omega arith) c.requires.replay.few in
    let here = c.requires.places.within c.loop-place.place-index 0 c.loop-place-test.true in
    let old = still_old c.args.h.now (length c.args.counts.now) c.args.blocks.now c.args.moves.now c.args.e c.requires.replay c.requires.net
    c.args.places.now
    c.requires.places
    c.loop-place.place-index c.loop-place.counts c.loop-place.touched c.args.gains.now c.loop-place.gains c.loop-place-test.true c.loop-place.invariant in
    let bounds = c.requires.small (get_or c.args.places.now c.loop-place.place-index 0) (omega arith) in
    let low : (pos 0 -ℤ pos (2 ^ 60)) ≤ℤ get_or c.loop-place.gains (get_or c.args.places.now c.loop-place.place-index 0) (pos 0) =
    subst (λ z. (pos 0 -ℤ pos (2 ^ 60)) ≤ℤ z) (sym old) bounds.0 in
    let high : get_or c.loop-place.gains (get_or c.args.places.now c.loop-place.place-index 0) (pos 0) ≤ℤ pos (2 ^ 60) = subst (λ z. z ≤ℤ pos (2 ^ 60))
    (sym old) bounds.1 in
    let gain = signed_step (get_or c.loop-place.gains (get_or c.args.places.now c.loop-place.place-index 0) (pos 0))
    (c.net_weight-weight.result * c.price.result) (c.net_weight-weight.result * c.price-in-loop-place.result) low high small small2 in
    let before : c.net_weight-weight.result * c.price.result ≡ (net_of c.args.h.now c.args.e).weight * price c.args.h.now.objective c.loop-place.touched =
    ap₂ (λ x y. x * y) c.net_weight-weight.ensures.value (c.price.ensures.value ∙ ap (λ o. price o c.loop-place.touched) c.objective-objective.ensures) in
    let after : c.net_weight-weight.result * c.price-in-loop-place.result ≡ (net_of c.args.h.now c.args.e).weight * price c.args.h.now.objective
    c.shift_pin-touched.result =
    ap₂ (λ x y. x * y) c.net_weight-weight.ensures.value (c.price-in-loop-place.ensures.value ∙ ap (λ o. price o c.shift_pin-touched.result)
    c.objective-objective.ensures) in
    replaying_next c.args.h.now (length c.args.counts.now) c.args.blocks.now c.args.moves.now c.args.e c.requires.replay c.requires.net c.args.places.now
    c.requires.places
    c.loop-place.place-index c.loop-place.counts c.shift_pin-touched.new.counts c.loop-place.touched c.shift_pin-touched.result c.args.gains.now
    c.loop-place.gains _ c.loop-place-test.true c.loop-place.invariant
    c.shift_pin-touched.ensures.counts c.shift_pin-touched.ensures.touched
    (gain ∙ ap₂ (λ x y. get_or c.loop-place.gains (get_or c.args.places.now c.loop-place.place-index 0) (pos 0) +ℤ (pos x -ℤ pos y)) before after)

pub returns-clause-zeros : goal.returns-clause-zeros
returns-clause-zeros c =
    all_cleared c.args.h.now (length c.args.counts.now) c.args.blocks.now c.args.moves.now c.args.e c.requires.replay c.requires.net c.args.places.now
    c.requires.places
    c.loop-place.place-index c.loop-place.counts c.clear_blocks.new.counts c.clear_targets.new.counts c.loop-place.touched c.args.gains.now
    c.loop-place.gains
    c.loop-place.invariant (omega arith)
    (λ i l. subst (λ (xs : List ℕ). get_or c.clear_blocks.new.counts (get_or c.args.blocks.now (get_or xs i 0) 0) 0 ≡ 0) c.pins-pins.ensures.value
    (c.clear_blocks.ensures.zeros i (let same = ap (λ (xs : List ℕ). length xs) c.pins-pins.ensures.value in omega arith)))
    c.clear_blocks.ensures.others c.clear_targets.ensures.zeros c.clear_targets.ensures.others

pub returns-clause-gains : goal.returns-clause-gains
returns-clause-gains c =
    replaying_last c.args.h.now (length c.args.counts.now) c.args.blocks.now c.args.moves.now c.args.e c.requires.replay c.requires.net c.args.places.now
    c.requires.places
    c.loop-place.place-index c.loop-place.counts c.loop-place.touched c.args.gains.now c.loop-place.gains (omega arith) (omega arith) c.loop-place.invariant
