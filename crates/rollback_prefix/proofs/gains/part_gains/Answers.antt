use Rattle.std.proofs.Common.{◌≡◌, ◌+◌, ◌*◌, ◌+ℤ◌, ℕ, ℤ, pos, List, take, length, get_or, arith, sym, ap, ◌∙◌, subst}
use Rattle.hg_defs.specs.Hypergraph.{vertex_count, net_of}
use Rattle.hg_defs.proofs.SumLaws.{total-take-le}
use Rattle.rollback_prefix.specs.Gains.{AreTouchedOf, AreSavings, AreSmall, saved_by_net}
use Rattle.rollback_prefix.specs.Pins.{AreZeros, ArePinMoves}
use Rattle.rollback_prefix.proofs.SavingLaws.{savings_more, savings_small, savings_whole, listed_small, written}
use Rattle.rollback_prefix.proofs.StepLaws.{order_once, pin_moves}
use Rattle.rollback_prefix.proofs.gains.part_gains.Goals as goal

pub find_places-requires-clause-once : goal.find_places-requires-clause-once
find_places-requires-clause-once c = order_once (vertex_count c.args.h.now) c.args.moves.now c.args.order.now c.requires.order

pub add_net-requires-clause-places : goal.add_net-requires-clause-places
add_net-requires-clause-places c =
    subst (λ (xs : List ℕ). ArePinMoves xs c.args.moves.now c.as_slice.result.now) c.pins.ensures.value
    (subst (λ (xs : List ℕ). ArePinMoves c.pins.result.now c.args.moves.now xs) (sym c.as_slice.ensures.value)
    (pin_moves (vertex_count c.args.h.now) c.pins.result.now c.args.moves.now c.args.order.now c.find_places.new.places.items c.requires.order
    c.in_ok-find_places.ensures))

pub add_net-requires-clause-small : goal.add_net-requires-clause-small
add_net-requires-clause-small c =
    let nets : List ℕ = c.as_slice-e-items.result.now in
    let touched = subst (AreTouchedOf c.args.h.now c.args.moves.now c.args.first c.args.end) (sym c.as_slice-e-items.ensures.value) c.in_ok-nets.ensures in
    subst AreSmall (sym c.as_mut_slice-in-loop-e.ensures.value)
    (savings_small c.args.h.now c.args.before.now c.args.moves.now (take c.loop-e.e-index nets) c.loop-e.gains.items c.loop-e.invariant.gains
    (let a = total-take-le (λ e. (net_of c.args.h.now e).weight * length (net_of c.args.h.now e).pins) nets c.loop-e.e-index in
    let d = listed_small c.args.h.now nets c.requires.replay.bounds touched.below touched.once in omega arith))

pub loop-e-preserved : goal.loop-e-preserved
loop-e-preserved c =
    let long_gains : length c.add_net.new.gains ≡ c.loop-e.gains.len = omega arith in
    let long_counts : length c.add_net.new.counts ≡ c.loop-e.counts.len = omega arith in
    let gains_are = written c.loop-e.gains.len c.add_net.new.gains c.loop-e.gains.items long_gains in
    let counts_are = written c.loop-e.counts.len c.add_net.new.counts c.loop-e.counts.items long_counts in
    record {
      gains =
          subst (λ (xs : List ℤ). AreSavings c.args.h.now c.args.before.now c.args.moves.now (take (c.loop-e.e-index + 1) c.as_slice-e-items.result.now) xs)
          (sym gains_are)
          (savings_more c.args.h.now c.args.before.now c.args.moves.now c.as_slice-e-items.result.now c.loop-e.e-index c.loop-e.gains.items c.add_net.new.gains
          c.loop-e-test.true c.loop-e.invariant.gains
          (let s = c.loop-e.invariant.gains.size in omega arith)
          (λ i m. c.add_net.ensures.gains i m ∙ ap (λ (xs : List ℤ). get_or xs i (pos 0) +ℤ saved_by_net c.args.h.now c.args.before.now c.args.moves.now
          (get_or c.as_slice-e-items.result.now c.loop-e.e-index 0) i) c.as_mut_slice-in-loop-e.ensures.value));
      zeros = subst AreZeros (sym counts_are) c.add_net.ensures.zeros;
      size = ap length counts_are ∙ long_counts ∙ (let s = c.loop-e.invariant.size in omega arith);
    }

pub returns : goal.returns
returns c =
    let nets : List ℕ = c.as_slice-e-items.result.now in
    record {
      nets = nets;
      touched = subst (AreTouchedOf c.args.h.now c.args.moves.now c.args.first c.args.end) (sym c.as_slice-e-items.ensures.value) c.in_ok-nets.ensures;
      savings = savings_whole c.args.h.now c.args.before.now c.args.moves.now nets c.loop-e.e-index c.loop-e.gains.items c.loop-e-test.false
          c.loop-e.invariant.gains;
    }
