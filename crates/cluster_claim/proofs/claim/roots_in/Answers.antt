-- The mark of one vertex more.
use Rattle.std.proofs.Common.{ℕ, [], ◌∷◌, ◌++◌, map, slice_index, ap, ◌∙◌, sym, arith}
use Rattle.std.specs.List.{range_with_len}
use Rattle.std.specs.Slots.{slots_items}
use Rattle.std.proofs.lemmas.List.FromFn.{map-range_with_len_more}
use Rattle.cluster_core.specs.Roots.{root_in}
use Rattle.cluster_claim.proofs.SeatLaws.{at_get}
use Rattle.cluster_claim.proofs.claim.roots_in.Goals as goal

pub root_at-requires : goal.root_at-requires
root_at-requires c =
    let e = at_get (slots_items c.args.closed.now.words) c.vertices.v c.word-mark.result 0 c.word-mark.ensures in
    let b = c.requires.below c.vertices.v c.vertices-test.true in
    omega arith

pub vertices-preserved : goal.vertices-preserved
vertices-preserved c =
    let f : ℕ → ℕ = λ v. root_in (slice_index (slots_items c.args.closed.now.words) v) v in
    let e = at_get (slots_items c.args.closed.now.words) c.vertices.v c.word-mark.result 0 c.word-mark.ensures in
    c.in_ok-push.ensures.items
    ∙ ap (λ xs. xs ++ c.root_at.result ∷ []) c.vertices.invariant
    ∙ ap (λ x. map f (range_with_len 0 c.vertices.v) ++ x ∷ []) (c.root_at.ensures ∙ ap (λ m. root_in m c.vertices.v) (sym e))
    ∙ sym (map-range_with_len_more f 0 c.vertices.v c.vertices.v (omega arith))
