-- The blocks with pins of one net more.
use Rattle.std.proofs.Common.{◌≡◌, ◌+◌, ℕ, [], ◌∷◌, ◌++◌, map, slice_index, ap, ◌∙◌, sym, arith}
use Rattle.std.specs.List.{range_with_len}
use Rattle.std.proofs.lemmas.List.FromFn.{map-range_with_len_more}
use Rattle.move_core.specs.State.{count_place, present_below}
use Rattle.move_core.proofs.open.spreads_of.Goals as goal

pub loop-e-preserved : goal.loop-e-preserved
loop-e-preserved c =
    let f : ℕ → ℕ = λ e. 64 + present_below (λ b. slice_index c.args.counts.now (count_place c.args.k e b)) c.args.k in
    let o = c.in_ok-push.ensures in
    let t = c.loop-b-test.false in
    let a = c.loop-b.auto.b-end in
    let full : c.loop-b.b ≡ c.args.k = omega arith in
    let more = map-range_with_len_more f 0 c.loop-e.e c.loop-e.e (omega arith) in
    o.items
    ∙ ap (λ xs. xs ++ c.loop-b.spread ∷ []) c.loop-e.invariant
    ∙ ap (λ x. map f (range_with_len 0 c.loop-e.e) ++ x ∷ []) (c.loop-b.invariant.spread
    ∙ ap (λ n. 64 + present_below (λ b. slice_index c.args.counts.now (count_place c.args.k c.loop-e.e b)) n) full)
    ∙ sym more
