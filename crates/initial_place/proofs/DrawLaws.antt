-- Laws of the words that are drawn, and of the orders by them.
use Rattle.std.proofs.Common.{◌≡◌, ℕ, zero, suc, ◌+◌, ◌<◌, ◌≤◌, List, [], ◌∷◌, ◌++◌, length, take, drop, map, filter, IsPermutation}
use Rattle.std.proofs.Common.{IsSorted, true, false, cond, refl, sym, ap, subst, ◌∙◌, arith, slice_index, add-one}
use Rattle.std.proofs.lemmas.List.{append-nil, map_push, map-id, take_all}
use Rattle.std.proofs.lemmas.List.Elements.{filter_more}
use Rattle.std.proofs.lemmas.List.FromFn.{length-range_with_len, get_or-range_with_len}
use Rattle.std.proofs.lemmas.List.Sorted.{IsPermutation-map}
use Rattle.std.proofs.Math.Seq.{take-append_seam}
use Rattle.rand_pcg.specs.Lcg.{Lcg}
use Rattle.rand_pcg.specs.Pcg.{pcg32}
use Rattle.hg_defs.specs.Hypergraph.{Hyper, vertex_count, vertices, is_free}
use Rattle.hg_defs.specs.Placement.{generator, words, drawn_order}
use Rattle.hg_defs.specs.PlacementLaws.{ListsFree}
use Rattle.hg_defs.specs.Sorting.{sorted, lower_first}
use Rattle.hg_defs.proofs.SortLaws.{sort_is, sorted_permutation, lower_first_total, lower_first_exact}
use Rattle.hg_base.proofs.RankLaws.{free_below}
use Rattle.initial_place.specs.Drawn.{draw_of, draws_of}

-- the generator after some words
unfoldable pub after : ℕ → Lcg → Lcg
after zero g = g
after (suc n) g = (pcg32 (after n g)).1

after_first : (n : ℕ) (g : Lcg) → after n (pcg32 g).1 ≡ after (suc n) g
unfolding after
after_first zero g = refl
after_first (suc n) g = ap (λ x. (pcg32 x).1) (after_first n g)

pub after-zero : (g : Lcg) → after 0 g ≡ g
unfolding after
after-zero g = refl

pub after_next : (n : ℕ) (g : Lcg) → after (n + 1) g ≡ (pcg32 (after n g)).1
unfolding after
after_next n g = ap (λ m. after m g) (add-one n)

-- the word at place v
pub word_at : (n v : ℕ) (g : Lcg) → v < n → slice_index (words n g) v ≡ (pcg32 (after v g)).0
unfolding after
word_at zero v g low = absurd (omega arith)
word_at (suc n) zero g low = refl
word_at (suc n) (suc v) g low = word_at n v (pcg32 g).1 (omega arith) ∙ ap (λ x. (pcg32 x).0) (after_first v g)

module _ (h : Hyper) (seed stream v : ℕ) (inside : v < vertex_count h) where
  drawn_words : List ℕ
  drawn_words = words (vertex_count h) (generator seed stream)

  free_more : free_below h (v + 1) ≡ free_below h v ++ cond (is_free h v) (v ∷ []) []
  free_more =
      let n = length-range_with_len 0 (vertex_count h) in
      filter_more (is_free h) (vertices h) v 0 (omega arith)
      ∙ ap (λ u. free_below h v ++ cond (is_free h u) (u ∷ []) []) (get_or-range_with_len 0 (vertex_count h) v 0 inside ∙ omega arith)

-- the pairs of the free vertices below v
abbrev pub draws_below : Hyper → ℕ → ℕ → ℕ → List (ℕ × ℕ)
draws_below h seed stream v = map (draw_of (words (vertex_count h) (generator seed stream))) (free_below h v)

pub draws_more : (h : Hyper) (seed stream v word : ℕ) → v < vertex_count h → is_free h v ≡ true → word ≡ (pcg32 (after v (generator seed stream))).0
    → draws_below h seed stream (v + 1) ≡ draws_below h seed stream v ++ (word, v) ∷ []
draws_more h seed stream v word inside free is =
    let drawn = words (vertex_count h) (generator seed stream) in
    ap (map (draw_of drawn)) (free_more h seed stream v inside ∙ ap (λ t. free_below h v ++ cond t (v ∷ []) []) free)
    ∙ map_push (draw_of drawn) (free_below h v) v
    ∙ ap (λ (w : ℕ). draws_below h seed stream v ++ (w, v) ∷ []) (word_at (vertex_count h) v (generator seed stream) inside ∙ sym is)

pub draws_same : (h : Hyper) (seed stream v : ℕ) → v < vertex_count h → is_free h v ≡ false → draws_below h seed stream (v + 1) ≡ draws_below h seed stream
    v
draws_same h seed stream v inside fixed =
    ap (map (draw_of (words (vertex_count h) (generator seed stream))))
    (free_more h seed stream v inside ∙ ap (λ t. free_below h v ++ cond t (v ∷ []) []) fixed ∙ append-nil (free_below h v))

pub draws_all : (h : Hyper) (seed stream v : ℕ) → vertex_count h ≤ v → draws_below h seed stream v ≡ draws_of h seed stream
draws_all h seed stream v high =
    let n = length-range_with_len 0 (vertex_count h) in
    ap (λ us. map (draw_of (words (vertex_count h) (generator seed stream))) (filter (is_free h) us)) (take_all v (vertices h) (omega arith))

-- sorted pairs give the order
pub order_of_draws : (h : Hyper) (seed stream : ℕ) (ds : List (ℕ × ℕ)) → IsPermutation (draws_of h seed stream) ds → IsSorted lower_first ds
    → map (λ (a : ℕ × ℕ). a.1) ds ≡ drawn_order h seed stream
order_of_draws h seed stream ds p s = ap (map (λ (a : ℕ × ℕ). a.1)) (sort_is lower_first_total lower_first_exact (draws_of h seed stream) ds p s)

map-map : {A B C : Type 0} (f : B → C) (g : A → B) (xs : List A) → map f (map g xs) ≡ map (λ x. f (g x)) xs
map-map f g [] = refl
map-map f g (x ∷ xs) = ap (λ ys. f (g x) ∷ ys) (map-map f g xs)

-- the order has each free vertex once
pub drawn_order-lists_free : (h : Hyper) (seed stream : ℕ) → ListsFree h (drawn_order h seed stream)
drawn_order-lists_free h seed stream =
    let free = filter (is_free h) (vertices h) in
    let drawn = words (vertex_count h) (generator seed stream) in
    subst (λ vs. IsPermutation vs (drawn_order h seed stream)) (map-map (λ (a : ℕ × ℕ). a.1) (draw_of drawn) free ∙ map-id free)
    (IsPermutation-map (λ (a : ℕ × ℕ). a.1) (draws_of h seed stream) (sorted lower_first (draws_of h seed stream))
    (sorted_permutation lower_first (draws_of h seed stream)))

-- pairs that were written back through a slice of all of them
pub written_back : (n : ℕ) (new old : List (ℕ × ℕ)) → length new ≡ n → take n (new ++ drop (length new) old) ≡ new
written_back n new old e = subst (λ (m : ℕ). take m (new ++ drop (length new) old) ≡ new) e (take-append_seam new (drop (length new) old))
