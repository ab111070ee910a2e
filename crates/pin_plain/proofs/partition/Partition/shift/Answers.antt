use Rattle.std.proofs.Common.{◌≡◌, ◌≢◌, ◌<◌, ◌∙◌, ℕ, List, slice_index, sym, ap, subst, arith}
use Rattle.hg_defs.specs.Hypergraph.{Hyper, vertex_count, net_count, weight_of}
use Rattle.hg_defs.specs.Partition.{block_of}
use Rattle.hg_defs.specs.Moves.{moved}
use Rattle.hg_defs.proofs.SumLaws.{weight_in-le}
use Rattle.pin_plain.specs.Parted.{Parted, IsLoaded, loads_after}
use Rattle.pin_plain.specs.Counts.{HoldsCounts, HaveSpreads, counts_of}
use Rattle.pin_plain.proofs.LoadLaws.{weight_moved, weight_within, kept_shifted}
use Rattle.pin_plain.proofs.partition.Partition.shift.Goals as goal

pub move_weight-requires-clause-held : goal.move_weight-requires-clause-held
move_weight-requires-clause-held c =
    let h = c.self.inside.hyper.value in
    let p = c.self.inside.blocks in
    let hyper : h ≡ c.args.h.now = ap (λ (x : Parted). x.hyper) c.self.view_is ∙ c.requires.belongs in
    let vertex : c.args.v < vertex_count h = subst (λ (x : Hyper). c.args.v < vertex_count x) (sym hyper) c.requires.vertex in
    let whole = c.self.invariant.parted.partition in
    let long = whole.vertices in
    let from : slice_index c.slice.result.now c.args.v ≡ block_of p c.args.v = ap (λ (xs : List ℕ). slice_index xs c.args.v) c.slice.ensures in
    let other : c.args.to ≢ block_of p c.args.v = λ e. c.if-from-to.false (from ∙ sym e) in
    let within = weight_within h c.self.inside.k p c.self.inside.loads.items c.args.v c.args.to c.self.invariant.loaded long vertex
    (whole.blocks c.args.v 0 (omega arith)) other in
    let weight : c.vertex_weight.result ≡ weight_of h c.args.v = c.vertex_weight.ensures.value ∙ ap (λ (x : Hyper). weight_of x c.args.v) (sym hyper) in
    let loads = ap (λ (xs : List ℕ). slice_index xs (slice_index c.slice.result.now c.args.v)) c.as_mut_slice-2.ensures.value ∙
    ap (slice_index c.self.inside.loads.items) from in
    omega arith

pub move_weight-requires-clause-room : goal.move_weight-requires-clause-room
move_weight-requires-clause-room c =
    let h = c.self.inside.hyper.value in
    let ks = ap (λ (x : Parted). x.k) c.self.view_is in
    let low = c.requires.block in
    let known = c.self.invariant.loaded.each c.args.to (omega arith) in
    let part = weight_in-le h.weights c.self.inside.blocks c.args.to in
    let bound = c.self.invariant.parted.bounds.weight in
    let one = c.vertex_weight.ensures.bound in
    let loads = ap (λ (xs : List ℕ). slice_index xs c.args.to) c.as_mut_slice-2.ensures.value in
    omega arith

pub invariant_of-self : goal.invariant_of-self
invariant_of-self c =
    let h = c.self.inside.hyper.value in
    let k = c.self.inside.k in
    let p = c.self.inside.blocks in
    let v = c.args.v in
    let to = c.args.to in
    let hyper : h ≡ c.args.h.now = ap (λ (x : Parted). x.hyper) c.self.view_is ∙ c.requires.belongs in
    let ks = ap (λ (x : Parted). x.k) c.self.view_is in
    let vertex : v < vertex_count h = subst (λ (x : Hyper). v < vertex_count x) (sym hyper) c.requires.vertex in
    let whole = c.self.invariant.parted.partition in
    let long = whole.vertices in
    let from : slice_index c.slice.result.now v ≡ block_of p v = ap (λ (xs : List ℕ). slice_index xs v) c.slice.ensures in
    let other : to ≢ block_of p v = λ e. c.if-from-to.false (from ∙ sym e) in
    let low : to < k = let b = c.requires.block in omega arith in
    let weight : c.vertex_weight.result ≡ weight_of h v = c.vertex_weight.ensures.value ∙ ap (λ (x : Hyper). weight_of x v) (sym hyper) in
    let after =
    c.move_weight.ensures
    ∙ ap (λ (xs : List ℕ). loads_after xs (slice_index c.slice.result.now v) to c.vertex_weight.result) c.as_mut_slice-2.ensures.value
    ∙ ap (λ (b : ℕ). loads_after c.self.inside.loads.items b to c.vertex_weight.result) from
    ∙ ap (loads_after c.self.inside.loads.items (block_of p v) to) weight in
    let loaded = subst (IsLoaded h k (moved p v to)) (sym after) (weight_moved h k p c.self.inside.loads.items v to c.self.invariant.loaded long vertex
    (whole.blocks v 0 (omega arith)) low other) in
    let counted =
    subst (λ (x : Hyper). HoldsCounts x k c.move_pin.new.words (counts_of x (moved p v to))) (sym hyper)
    (subst (λ (xs : List ℕ). HoldsCounts c.args.h.now k c.move_pin.new.words (counts_of c.args.h.now (moved xs v to))) c.slice-2.ensures
    c.move_pin.ensures.counted) in
    let spreads =
    subst (λ (x : Hyper). HaveSpreads x k (moved p v to) (net_count x) c.move_pin.new.words) (sym hyper)
    (subst (λ (xs : List ℕ). HaveSpreads c.args.h.now k (moved xs v to) (net_count c.args.h.now) c.move_pin.new.words) c.slice-2.ensures
    c.move_pin.ensures.spreads) in
    kept_shifted h k p c.set.new.self c.self.inside.loads.items c.self.inside.starts.items c.self.inside.widths.items c.self.inside.words.items v to
    c.self.inside.loads.len c.self.inside.words.len
    c.move_weight.new.loads _ c.move_pin.new.words _ c.self.invariant low c.set.ensures loaded counted spreads (omega arith) (omega arith) (omega arith)
