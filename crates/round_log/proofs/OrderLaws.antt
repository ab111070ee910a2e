-- One more move in an order of moves.
use Rattle.std.proofs.Common.{subst, ◌≡◌, ◌≢◌, ℕ, ◌+◌, ◌<◌, List, [], ◌∷◌, ◌++◌, length, take, slice_index_or, All}
use Rattle.std.proofs.Common.{AllPairs, slice_set, arith, sym, ◌∙◌, length-append, get_or-set_other}
use Rattle.std.proofs.lemmas.List.{take_more, get_or_append_left, get_or-take, length-take}
use Rattle.std.proofs.Math.Seq.{get_or-append_seam}
use Rattle.std.proofs.lemmas.Grind.{common_steps}
use Rattle.hg_defs.specs.declared.moves.Move.{Move}
use Rattle.round_log.specs.Rounds.{IsOrder}

pub order_of_push : (n : ℕ) (moves : List Move) (order : List ℕ) (m : Move) → m.vertex < n → All (λ a. a.vertex ≢ m.vertex) moves → IsOrder n moves order
    → IsOrder n (moves ++ m ∷ []) (slice_set order m.vertex (length moves + 1))
order_of_push n moves order m low apart before = record {
  vertices = grind (arith, common_steps);
  moved = λ i d h. grind (arith, common_steps, before.moved i d, apart i d, length-append);
  others = λ v h other.
      let last : m.vertex ≢ v = λ e. other (length moves) m (rw length-append (omega arith)) (rw get_or-append_seam e) in
      let rest : All (λ a. a.vertex ≢ v) moves =
      λ i d low. subst (λ (a : Move). a.vertex ≢ v) (get_or_append_left moves (m ∷ []) d i low) (other i d (rw length-append (omega arith))) in
      get_or-set_other order m.vertex v (length moves + 1) 0 (λ e. last (sym e)) ∙ before.others v h rest;
}

-- the same over a list of moves, one by one; d stands for a move past its end
pub order_of_more : (n : ℕ) (moves : List Move) (order : List ℕ) (i : ℕ) (d : Move) → i < length moves → All (λ m. m.vertex < n) moves
    → AllPairs (λ a b. a.vertex ≢ b.vertex) moves → IsOrder n (take i moves) order → IsOrder n (take (i + 1) moves)
    (slice_set order (slice_index_or moves i d).vertex (i + 1))
order_of_more n moves order i d here low apart before =
    let long : length (take i moves) ≡ i = rw length-take (omega arith) in
    let apart' : All (λ a. a.vertex ≢ (slice_index_or moves i d).vertex) (take i moves) =
    λ j e h. rw (get_or-take i moves j e (omega (arith, h, long))) (subst (λ (x : Move). (slice_index_or moves j e).vertex ≢ x.vertex)
    (same moves i e d here)
    (apart j i e (omega (arith, h, long)) here)) in
    rw (take_more moves i d here)
    (subst
    (λ (k : ℕ). IsOrder n (take i moves ++ slice_index_or moves i d ∷ []) (slice_set order (slice_index_or moves i d).vertex (k + 1)))
    long
    (order_of_push n (take i moves) order (slice_index_or moves i d) (low i d here) apart' before))
  where
    same : (xs : List Move) (j : ℕ) (d e : Move) → j < length xs → slice_index_or xs j d ≡ slice_index_or xs j e
    same xs j d e h = grind (arith, common_steps)
