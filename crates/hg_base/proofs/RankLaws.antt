-- Laws of the free vertices by falling weight.
use Rattle.std.proofs.Common.{◌≡◌, ℕ, ◌+◌, ◌<◌, ◌≤◌, true, false, cond, List, [], ◌∷◌, ◌++◌, take, map, filter, All, subst}
use Rattle.std.proofs.Common.{IsPermutation, IsSorted, Ordering, Equal, refl, sym, ap, ◌∙◌, arith}
use Rattle.std.specs.declared.cmp.Reverse.{Reverse}
use Rattle.std.proofs.lemmas.List.{append-nil, map_push, map-id, get_or-map, length-map, take_all}
use Rattle.std.proofs.lemmas.List.Elements.{filter_more}
use Rattle.std.proofs.lemmas.List.FromFn.{length-range_with_len, get_or-range_with_len}
use Rattle.std.specs.Cmp.{IsTotalOrder}
use Rattle.std.proofs.lemmas.Cmp.{on_total}
use Rattle.hg_defs.specs.Sorting.{sorted}
use Rattle.hg_defs.specs.LeastLoaded.{heavier_first, heaviest_first}
use Rattle.hg_base.specs.Placing.{rank_of}
use Rattle.hg_defs.proofs.SortLaws.{sort_is, map-sorted, heavier_first_total, heavier_first_exact}
use Rattle.hg_defs.specs.Hypergraph.{Hyper, vertex_count, vertices, is_free}

-- the free ones of the vertices below v
abbrev pub free_below : Hyper → ℕ → List ℕ
free_below h v = filter (is_free h) (take v (vertices h))

module _ (h : Hyper) (v : ℕ) (inside : v < vertex_count h) where
  free_below_more : free_below h (v + 1) ≡ free_below h v ++ cond (is_free h v) (v ∷ []) []
  free_below_more =
      let n = length-range_with_len 0 (vertex_count h) in
      filter_more (is_free h) (vertices h) v 0 (omega arith)
      ∙ ap (λ u. free_below h v ++ cond (is_free h u) (u ∷ []) []) (get_or-range_with_len 0 (vertex_count h) v 0 inside ∙ omega arith)

  pub ranks_more : is_free h v ≡ true → map (rank_of h) (free_below h (v + 1)) ≡ map (rank_of h) (free_below h v) ++ rank_of h v ∷ []
  ranks_more e =
      ap (map (rank_of h)) (free_below_more ∙ ap (λ t. free_below h v ++ cond t (v ∷ []) []) e)
      ∙ map_push (rank_of h) (free_below h v) v

  pub ranks_same : is_free h v ≡ false → map (rank_of h) (free_below h (v + 1)) ≡ map (rank_of h) (free_below h v)
  ranks_same e =
      ap (map (rank_of h)) (free_below_more ∙ ap (λ t. free_below h v ++ cond t (v ∷ []) []) e ∙ append-nil (free_below h v))

pub ranks_all : (h : Hyper) (v : ℕ) → vertex_count h ≤ v → map (rank_of h) (free_below h v) ≡ map (rank_of h) (filter (is_free h) (vertices h))
ranks_all h v l =
    let n = length-range_with_len 0 (vertex_count h) in
    ap (λ us. map (rank_of h) (filter (is_free h) us)) (take_all v (vertices h) (omega arith))

-- the pair that the definition sorts
abbrev pair_of : Reverse ℕ × ℕ → ℕ × ℕ
pair_of r = (r.0.0, r.1)

-- the order of ranks
abbrev pub rank_cmp : Reverse ℕ × ℕ → Reverse ℕ × ℕ → Ordering
rank_cmp r s = heavier_first (pair_of r) (pair_of s)

rank_cmp_total : IsTotalOrder rank_cmp
rank_cmp_total = on_total pair_of heavier_first_total

rank_cmp_exact : (r s : Reverse ℕ × ℕ) → rank_cmp r s ≡ Equal → r ≡ s
rank_cmp_exact r s e =
    let back : ℕ × ℕ → Reverse ℕ × ℕ = λ a. (record { 0 = a.0 }, a.1) in
    ap back (heavier_first_exact (pair_of r) (pair_of s) e)

map-map : {A B C : Type 0} (f : B → C) (g : A → B) (xs : List A) → map f (map g xs) ≡ map (λ x. f (g x)) xs
map-map f g [] = refl
map-map f g (x ∷ xs) = ap (λ ys. f (g x) ∷ ys) (map-map f g xs)

-- sorted ranks give the heaviest first
pub sorted_ranks : (h : Hyper) (rs : List (Reverse ℕ × ℕ)) → IsPermutation (map (rank_of h) (filter (is_free h) (vertices h))) rs → IsSorted rank_cmp rs →
    map (λ r. r.1) rs ≡ heaviest_first h
sorted_ranks h rs p s =
    let free = filter (is_free h) (vertices h) in
    let ranks = map (rank_of h) free in
    ap (map (λ (r : Reverse ℕ × ℕ). r.1)) (sort_is rank_cmp_total rank_cmp_exact ranks rs p s)
    ∙ sym (map-map (λ (a : ℕ × ℕ). a.1) pair_of (sorted rank_cmp ranks))
    ∙ ap (map (λ (a : ℕ × ℕ). a.1)) (map-sorted rank_cmp heavier_first pair_of (λ x y. refl) ranks ∙ ap (sorted heavier_first)
    (map-map pair_of (rank_of h) free))

-- the vertices of ranks are those that were ranked
pub vertices_of_ranks : (h : Hyper) (order : List ℕ) → map (λ (r : Reverse ℕ × ℕ). r.1) (map (rank_of h) order) ≡ order
vertices_of_ranks h order = map-map (λ (r : Reverse ℕ × ℕ). r.1) (rank_of h) order ∙ map-id order

-- what is true of the vertices of ranks
pub All-vertices : (P : ℕ → Type 0) (ranks : List (Reverse ℕ × ℕ)) → All P (map (λ (r : Reverse ℕ × ℕ). r.1) ranks) → All (λ (r : Reverse ℕ × ℕ). P r.1)
    ranks
All-vertices P ranks all k d l =
    let same = length-map ranks (λ (r : Reverse ℕ × ℕ). r.1) in
    subst P (get_or-map (λ (r : Reverse ℕ × ℕ). r.1) ranks k d d.1 l) (all k d.1 (omega arith))
