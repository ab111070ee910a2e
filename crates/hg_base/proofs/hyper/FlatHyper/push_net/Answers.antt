-- One net more at the end of the arrays.
use Rattle.std.proofs.Common.{◌≡◌, ◌+◌, ◌++◌, [], ◌∷◌, length, nat_cmp, ap, ◌∙◌, arith}
use Rattle.std.proofs.lemmas.List.{length-append}
use Rattle.hg_defs.specs.Sorting.{set_of}
use Rattle.hg_defs.proofs.SortLaws.{length-set_of-le}
use Rattle.hg_base.proofs.PushLaws.{nets_at_push, IsLaidOut_push, IsKept_push, GrowsBy_push}
use Rattle.hg_base.proofs.hyper.FlatHyper.push_net.Goals as goal

pub overflow_cast-len : goal.overflow_cast-len
overflow_cast-len c =
    let short = length-set_of-le nat_cmp c.args.pins.now in
    let pins = ap length c.in_ok-append_set.ensures.ok in
    let sum = length-append c.self.inside.pins.items (set_of nat_cmp c.args.pins.now) in
    let before = c.self.invariant.1.all_pins in
    let bound = rw (← c.self.view_is) at c.requires.all_pins in
    omega arith

pub invariant_of-self-2 : goal.invariant_of-self-2
invariant_of-self-2 c =
    let h = c.self.inside in
    let set = set_of nat_cmp c.args.pins.now in
    let starts = c.in_ok-push.ensures.items ∙ ap (λ xs. xs ++ c.len.result ∷ []) c.in_ok-reserve-2.ensures.items in
    let weights = c.in_ok-push-2.ensures.items ∙ ap (λ xs. xs ++ c.args.weight ∷ []) c.in_ok-reserve.ensures.items in
    let pins = c.in_ok-append_set.ensures.ok in
    let sum = length-append h.pins.items set in
    let end : c.len.result ≡ length h.pins.items + length set = (let l = ap length pins in omega arith) in
    let laid = c.self.invariant.0 in
    let nets = nets_at_push h.starts.items h.net_weights.items h.pins.items set c.args.weight c.len.result laid end in
    rw (starts, weights, pins, nets, sum) (
      IsLaidOut_push h.starts.items h.net_weights.items h.pins.items set c.args.weight c.len.result laid end,
      IsKept_push _ c.args.weight c.args.pins.now (length h.pins.items) h.total c.self.invariant.1
          (rw (← c.self.view_is) at c.requires.vertices) (rw (← c.self.view_is) at c.requires.nets) (rw (← c.self.view_is) at c.requires.all_pins)
          (rw (← c.self.view_is) at c.requires.net_weight) (rw (← c.self.view_is) at c.requires.pin_weight),
    )

pub returns-clause-ok : goal.returns-clause-ok
returns-clause-ok c =
    let h = c.self.inside in
    let set = set_of nat_cmp c.args.pins.now in
    let starts = c.in_ok-push.ensures.items ∙ ap (λ xs. xs ++ c.len.result ∷ []) c.in_ok-reserve-2.ensures.items in
    let weights = c.in_ok-push-2.ensures.items ∙ ap (λ xs. xs ++ c.args.weight ∷ []) c.in_ok-reserve.ensures.items in
    let pins = c.in_ok-append_set.ensures.ok in
    let sum = length-append h.pins.items set in
    let end : c.len.result ≡ length h.pins.items + length set = (let l = ap length pins in omega arith) in
    let nets = nets_at_push h.starts.items h.net_weights.items h.pins.items set c.args.weight c.len.result c.self.invariant.0 end in
    rw (← c.self.view_is, starts, weights, pins, nets)

pub returns-clause-sizes : goal.returns-clause-sizes
returns-clause-sizes c = rw (returns-clause-ok c) (GrowsBy_push c.args.self.now c.args.weight c.args.pins.now)
