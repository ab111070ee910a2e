use Rattle.std.proofs.Common.{List, [], take, subst, sym, ap, ◌∙◌, arith, ℕ, ◌+◌}
use Rattle.std.proofs.lemmas.List.{take_all}
use Rattle.rollback_prefix.proofs.PlaceLaws.{AreFound, found_none, found_same, found_more, found_sorted}
use Rattle.rollback_prefix.proofs.pins.find_places.Goals as goal
use Rattle.rollback_prefix.proofs.pins.find_places.Goals.{then-place-gt0+in_ok-push, else-place-gt0}

pub loop-v-init : goal.loop-v-init
loop-v-init c = subst (λ (xs : List ℕ). AreFound [] c.args.order.now xs) (sym c.clear.ensures.items) (found_none c.args.order.now)

pub returns : goal.returns
returns c =
    let whole = take_all c.loop-v.v-index c.args.pins.now c.loop-v-test.false in
    let all = subst (λ (xs : List ℕ). AreFound xs c.args.order.now c.loop-v.places.items) whole c.loop-v.invariant in
    found_sorted c.args.pins.now c.args.order.now c.loop-v.places.items c.sort_unstable.new.self.items all c.sort_unstable.ensures.permutation
    c.sort_unstable.ensures.sorted

pub loop-v-preserved : goal.loop-v-preserved
loop-v-preserved c =
    elim c.if-place-gt0.branch [
      | then-place-gt0+in_ok-push w ↦
          subst (λ (xs : List ℕ). AreFound (take (c.loop-v.v-index + 1) c.args.pins.now) c.args.order.now xs)
          (sym (ap (λ v. v.items) w.places-is ∙ w.in_ok-push.ensures.items))
          (found_more c.args.pins.now c.args.order.now c.loop-v.places.items c.loop-v.v-index c.loop-v-test.true c.requires.rising c.requires.once
          w.if-place-gt0.true c.loop-v.invariant)
      | else-place-gt0 w ↦
          subst (λ (xs : List ℕ). AreFound (take (c.loop-v.v-index + 1) c.args.pins.now) c.args.order.now xs)
          (sym (ap (λ v. v.items) w.places-is))
          (found_same c.args.pins.now c.args.order.now c.loop-v.places.items c.loop-v.v-index c.loop-v-test.true c.requires.rising c.requires.once
          (omega arith) c.loop-v.invariant)
    ]
