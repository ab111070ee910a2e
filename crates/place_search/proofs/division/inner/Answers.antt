-- What is inside of a net is no more than the net.
use Rattle.std.proofs.Common.{ℕ, ◌+◌, ◌<◌, List, length, ap, arith, subst, sym}
use Rattle.hg_defs.specs.Hypergraph.{Hyper, net_count}
use Rattle.place_search.proofs.InnerLaws.{IsInner, HasRoom, inner_kept, inner_grown, inner_room}
use Rattle.place_search.proofs.division.inner.Goals as goal
use Rattle.place_search.proofs.division.inner.Goals.{then-len-few+in_ok-push_net, else-len-few}

-- the facts before the net is added
room :
    (c : goal.After-as_slice)
    → HasRoom c.args.h.now c.loop-e.flat c.loop-e.e c.args.count
    (let l : c.loop-e.e < net_count c.args.h.now = omega (arith, c.loop-e-test.true, c.nets-e-end.ensures.count) in l) c.loop-e.invariant
    c.net_weight.result (length c.as_slice.result.now)
room c =
    inner_room c.args.h.now c.loop-e.flat c.loop-e.e c.args.count (omega (arith, c.loop-e-test.true, c.nets-e-end.ensures.count)) c.loop-e.invariant
    c.net_weight.result (length c.as_slice.result.now) c.vertices-vertices.ensures.bounds c.net_weight.ensures.value
    (let few = c.in_ok-number_pins.ensures.few in let same = ap (λ (xs : List ℕ). length xs) c.as_slice.ensures.value in omega arith)

pub push_net-requires-clause-all_pins : goal.push_net-requires-clause-all_pins
push_net-requires-clause-all_pins c = (room c).pins

pub push_net-requires-clause-net_weight : goal.push_net-requires-clause-net_weight
push_net-requires-clause-net_weight c = (room c).net_weight

pub push_net-requires-clause-pin_weight : goal.push_net-requires-clause-pin_weight
push_net-requires-clause-pin_weight c = (room c).pin_weight

pub loop-e-preserved : goal.loop-e-preserved
loop-e-preserved c =
    let h = c.args.h.now in
    let here : c.loop-e.e < net_count h = omega (arith, c.loop-e-test.true, c.nets-e-end.ensures.count) in
    elim c.if-len-few.branch [
      | then-len-few+in_ok-push_net w ↦
          (let few = c.in_ok-number_pins.ensures.few in
          let same = ap (λ (xs : List ℕ). length xs) w.as_slice.ensures.value in
          subst (λ (g : Hyper). IsInner h g (c.loop-e.e + 1) c.args.count) (sym w.flat-is)
          (inner_grown h c.loop-e.flat c.loop-e.e c.args.count here c.loop-e.invariant w.push_net.new.self w.net_weight.result
          (length w.as_slice.result.now)
          w.in_ok-push_net.ensures.sizes w.net_weight.ensures.value (omega arith)))
      | else-len-few w ↦
          subst (λ (g : Hyper). IsInner h g (c.loop-e.e + 1) c.args.count) (sym w.flat-is)
          (inner_kept h c.loop-e.flat c.loop-e.e c.args.count here c.loop-e.invariant)
    ]
