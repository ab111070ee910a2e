-- The arrays of more nets at the end of the arrays.
use Rattle.std.proofs.Common.{◌≡◌, ◌+◌, ◌-◌, ◌++◌, length, map, take, drop, sym, ap, ◌∙◌, arith}
use Rattle.std.proofs.lemmas.List.{length-append, length-drop, take_all}
use Rattle.hg_defs.specs.Hypergraph.{Hyper, pin_count}
use Rattle.hg_base.specs.Flat.{nets_at}
use Rattle.hg_base.proofs.AppendLaws.{all_pins, raised_within, nets_at-append, IsLaidOut-append, IsKept-append}
use Rattle.hg_base.proofs.hyper.FlatHyper.push_nets.Goals as goal

pub append_raised-requires : goal.append_raised-requires
append_raised-requires c =
    let h = c.self.inside in
    let ts = c.args.starts.now in
    let n = length-drop 1 ts in
    let at : c.len.result ≡ length h.pins.items = omega (arith, c.len.ensures, c.in_ok-reserve-2.ensures.len) in
    raised_within c.args.self.now.nets ts c.args.weights.now c.args.pins.now (take (length ts - 1) (drop 1 ts)) c.len.result c.requires.flat
    (take_all (length ts - 1) (drop 1 ts) (omega arith))
    (ap (λ (x : Hyper). pin_count x) (sym c.self.view_is) ∙ c.self.invariant.1.all_pins ∙ sym at) c.requires.limits.pins

pub invariant_of-self-2 : goal.invariant_of-self-2
invariant_of-self-2 c =
    let h = c.self.inside in
    let ts = c.args.starts.now in
    let ms = c.args.weights.now in
    let qs = c.args.pins.now in
    let n = length-drop 1 ts in
    let at : c.len.result ≡ length h.pins.items = omega (arith, c.len.ensures, c.in_ok-reserve-2.ensures.len) in
    let tail = take_all (length ts - 1) (drop 1 ts) (omega arith) in
    let starts = c.in_ok-append_raised.ensures.ok ∙ ap (λ xs. h.starts.items ++ map (λ n. n + c.len.result) xs) tail in
    let weights = c.in_ok-extend_from_slice.ensures.items ∙ ap (λ xs. xs ++ ms) c.in_ok-reserve.ensures.items in
    let pins = c.in_ok-extend_from_slice-2.ensures.items ∙ ap (λ xs. xs ++ qs) c.in_ok-reserve-2.ensures.items in
    let laid = c.self.invariant.0 in
    let nets = nets_at-append h.starts.items h.net_weights.items h.pins.items laid ts ms qs c.requires.flat c.len.result at in
    let sum = length-append h.pins.items qs in
    rw (starts, weights, pins, nets, sum) (
      IsLaidOut-append h.starts.items h.net_weights.items h.pins.items laid ts ms qs c.requires.flat c.len.result at,
      IsKept-append _ (nets_at ts ms qs) (length h.pins.items) (length qs) h.total c.self.invariant.1 (rw (← c.self.view_is) at c.requires.nets)
          (rw (← c.self.view_is) at c.requires.limits) (all_pins ts ms qs c.requires.flat),
    )

pub returns-clause-ok : goal.returns-clause-ok
returns-clause-ok c =
    let h = c.self.inside in
    let ts = c.args.starts.now in
    let ms = c.args.weights.now in
    let qs = c.args.pins.now in
    let n = length-drop 1 ts in
    let at : c.len.result ≡ length h.pins.items = omega (arith, c.len.ensures, c.in_ok-reserve-2.ensures.len) in
    let tail = take_all (length ts - 1) (drop 1 ts) (omega arith) in
    let starts = c.in_ok-append_raised.ensures.ok ∙ ap (λ xs. h.starts.items ++ map (λ n. n + c.len.result) xs) tail in
    let weights = c.in_ok-extend_from_slice.ensures.items ∙ ap (λ xs. xs ++ ms) c.in_ok-reserve.ensures.items in
    let pins = c.in_ok-extend_from_slice-2.ensures.items ∙ ap (λ xs. xs ++ qs) c.in_ok-reserve-2.ensures.items in
    let nets = nets_at-append h.starts.items h.net_weights.items h.pins.items c.self.invariant.0 ts ms qs c.requires.flat c.len.result at in
    rw (← c.self.view_is, starts, weights, pins, nets)
