-- Each key, one after the other.
use Rattle.std.proofs.Common.{ℕ, ◌+◌, true≢false, List, []}
use Rattle.std.proofs.Common.{◌∷◌, ◌++◌, get_or, sym, ap, ◌∙◌, subst, arith}
use Rattle.hg_defs.specs.Hypergraph.{Net, net_of}
use Rattle.contract_nets.specs.Keys.{Key}
use Rattle.contract_nets.proofs.MergeLaws.{pins, IsMerging, IsMerging-start, IsMerging-end, IsMerging-more, IsMerging-finished, few_pins, weight_fits}
use Rattle.contract_nets.proofs.MergeLaws.{AreEndsUpto, AreEndsUpto-start, AreEndsUpto-more, AreEnds-all}
use Rattle.contract_nets.proofs.merging.merge_keys.Goals as goal
use Rattle.contract_nets.proofs.merging.merge_keys.Goals.{then-end+in_ok-push-2, else-end}

pub loop-i-init : goal.loop-i-init
loop-i-init c =
    let nets = c.args.nets.now in
    let keys = c.args.keys.now in (
      subst (λ (made : List Net). IsMerging nets keys 0 made 0) (sym c.requires.no_nets) (IsMerging-start nets keys),
      subst (AreEndsUpto nets keys 0) (sym c.requires.no_ends) (AreEndsUpto-start nets keys),
    )

pub overflow_add-weight : goal.overflow_add-weight
overflow_add-weight c =
    let most = weight_fits c.args.nets.now c.args.keys.now c.loop-i.i c.loop-i.list c.loop-i.weight c.loop-i.invariant.0 c.loop-i-test.true
    c.requires.limits in
    let value = c.net_weight-weight.ensures.value in
    omega arith

pub push-requires-then-end : goal.push-requires-then-end
push-requires-then-end c =
    rw c.pins.ensures.value
    (few_pins c.args.nets.now c.args.keys.now c.loop-i.i c.loop-i.list c.loop-i.weight c.loop-i.invariant.0 c.loop-i-test.true
    (c.ends_net-end.ensures.0 c.if-end.true) c.requires.limits)

pub loop-i-preserved : goal.loop-i-preserved
loop-i-preserved c =
    let nets = c.args.nets.now in
    let keys = c.args.keys.now in
    let i = c.loop-i.i in
    let joined = c.if-end in
    let key : Key = get_or keys i (0, 0) in
    let m = c.loop-i.invariant.0 in (
      elim joined.branch [
        | then-end+in_ok-push-2 w ↦
            subst (λ (x : ℕ). IsMerging nets keys (i + 1) joined.list x) (sym w.weight-is)
            (subst (λ (made : List Net). IsMerging nets keys (i + 1) made 0)
            (sym (w.list-is ∙ w.in_ok-push-2.ensures.ok
            ∙ ap (λ (ps : List ℕ). c.loop-i.list ++ record { weight = c.loop-i.weight + c.net_weight-weight.result; pins = ps } ∷ []) w.pins.ensures.value
            ∙ ap (λ (x : ℕ). c.loop-i.list ++ record { weight = c.loop-i.weight + x; pins = pins nets key } ∷ []) c.net_weight-weight.ensures.value))
            (IsMerging-finished nets keys i c.loop-i.list c.loop-i.weight m c.loop-i-test.true (c.ends_net-end.ensures.0 w.if-end.true)))
        | else-end w ↦
            subst (λ (x : ℕ). IsMerging nets keys (i + 1) joined.list x)
            (sym (w.weight-is ∙ ap (λ (x : ℕ). c.loop-i.weight + x) c.net_weight-weight.ensures.value))
            (subst (λ (made : List Net). IsMerging nets keys (i + 1) made (c.loop-i.weight + (net_of nets key.1).weight)) (sym w.list-is)
            (IsMerging-more nets keys i c.loop-i.list c.loop-i.weight m c.loop-i-test.true
            (λ end. true≢false (sym (c.ends_net-end.ensures.1 end) ∙ w.if-end.false))))
      ],
      subst (AreEndsUpto nets keys (i + 1)) (sym c.in_ok-push.ensures.items)
          (AreEndsUpto-more nets keys i c.loop-i.ends.items c.ends_net-end.result c.loop-i.invariant.1 c.ends_net-end.ensures),
    )

pub returns-clause-nets : goal.returns-clause-nets
returns-clause-nets c = IsMerging-end c.args.nets.now c.args.keys.now c.loop-i.i c.loop-i.list c.loop-i.weight c.loop-i.invariant.0 c.loop-i-test.false

pub returns-clause-ends : goal.returns-clause-ends
returns-clause-ends c = AreEnds-all c.args.nets.now c.args.keys.now c.loop-i.i c.loop-i.ends.items c.loop-i.invariant.1 (omega arith)
