-- Laws of numbers that are sorted by pairs of a key and the number itself.
use Rattle.std.proofs.Common.{◌≡◌, ◌≢◌, ◌⊎◌, inl, inr, ℕ, ◌<◌, false, nat_eq, List, [], ◌∷◌, map, length, get_or, All, AllPairs, IsPermutation, refl}
use Rattle.std.proofs.Common.{sym, ap, subst, subst₂, ◌∙◌, arith, true≢false, Ordering, Less, Equal, Greater, is_lt, nat_cmp}
use Rattle.std.specs.List.{IsDistinct}
use Rattle.std.specs.Cmp.{IsTotalOrder}
use Rattle.std.specs.Ordering.{ordering_reverse, ordering_then, MatchOrdering}
use Rattle.std.proofs.lemmas.Bool.{eqb-false}
use Rattle.std.proofs.lemmas.Bool.Decides.{Decides-eqb}
use Rattle.std.proofs.lemmas.Cmp.{nat_eq_equiv, ranked}
use Rattle.std.proofs.lemmas.List.{length-map, get_or-map}
use Rattle.std.proofs.lemmas.List.Elements.{All-map}
use Rattle.std.proofs.lemmas.List.Sorted.{All-permutation, IsPermutation-map, sorted_far, ranks_by}
use Rattle.std.proofs.lemmas.Map.Made.{IsDistinct-from_AllPairs}
use Rattle.std.proofs.lemmas.Map.Keys.{IsDistinct-IsPermutation, apart_from_distinct}
use Rattle.hg_defs.specs.Sorting.{sorted, lower_first}
use Rattle.hg_defs.specs.LeastLoaded.{heavier_first}
use Rattle.hg_defs.proofs.SortLaws.{sorted_permutation, IsSorted-sorted}

seconds : (f : ℕ → ℕ) (vs : List ℕ) → map (λ (a : ℕ × ℕ). a.1) (map (λ v. (f v, v)) vs) ≡ vs
seconds f [] = refl
seconds f (v ∷ vs) = ap (λ us. v ∷ us) (seconds f vs)

not_below : (r : Ordering) → is_lt (ordering_reverse r) ≡ false → (r ≡ Equal → ⊥) → r ≡ Less
not_below Less e n = refl
not_below Equal e n = absurd (n refl)
not_below Greater e n = absurd (true≢false e)

module _ (R : ℕ × ℕ → ℕ × ℕ → Ordering) (f : ℕ → ℕ) (vs : List ℕ) where
  abbrev keys : List (ℕ × ℕ)
  keys = map (λ v. (f v, v)) vs

  abbrev pub by_key : List ℕ
  by_key = map (λ (a : ℕ × ℕ). a.1) (sorted R (map (λ v. (f v, v)) vs))

  pub by_key-permutation : IsPermutation vs by_key
  by_key-permutation =
      subst (λ us. IsPermutation us by_key) (seconds f vs)
      (IsPermutation-map (λ (a : ℕ × ℕ). a.1) keys (sorted R keys) (sorted_permutation R keys))

  pub by_key-distinct : AllPairs (λ u v. u ≢ v) vs → IsDistinct nat_eq by_key
  by_key-distinct apart = IsDistinct-IsPermutation nat_eq nat_eq_equiv.symm vs by_key by_key-permutation (IsDistinct-from_AllPairs Decides-eqb vs apart)

module _ {R : ℕ × ℕ → ℕ × ℕ → Ordering} (o : IsTotalOrder R) (exact : (a b : ℕ × ℕ) → R a b ≡ Equal → a ≡ b) (f : ℕ → ℕ) (vs : List ℕ) where
  -- distinct numbers stand in the order of their pairs
  pub by_key-pairs : AllPairs (λ u v. u ≢ v) vs → AllPairs (λ u v. R (f u, u) (f v, v) ≡ Less) (by_key R f vs)
  by_key-pairs apart i j d l m = subst₂ (λ a b. R a b ≡ Less) (pair i in_i) (pair j in_j) less
    where
      start : List (ℕ × ℕ)
      start = map (λ v. (f v, v)) vs

      ps : List (ℕ × ℕ)
      ps = sorted R (map (λ v. (f v, v)) vs)

      e : ℕ × ℕ
      e = (0, 0)

      long : length (by_key R f vs) ≡ length ps
      long = length-map ps (λ (a : ℕ × ℕ). a.1)

      in_i : i < length ps
      in_i = let n = long in omega arith

      in_j : j < length ps
      in_j = let n = long in omega arith

      second : (c : ℕ) → c < length ps → get_or (by_key R f vs) c d ≡ (get_or ps c e).1
      second c n = get_or-map (λ (a : ℕ × ℕ). a.1) ps c e d n

      keyed : All (λ (a : ℕ × ℕ). a ≡ (f a.1, a.1)) ps
      keyed =
          All-permutation (λ (a : ℕ × ℕ). a ≡ (f a.1, a.1)) start ps (sorted_permutation R start)
          (All-map (λ (a : ℕ × ℕ). a ≡ (f a.1, a.1)) (λ v. (f v, v)) vs (λ c d n. refl))

      pair : (c : ℕ) → c < length ps → get_or ps c e ≡ (f (get_or (by_key R f vs) c d), get_or (by_key R f vs) c d)
      pair c n = keyed c e n ∙ ap (λ (v : ℕ). (f v, v)) (sym (second c n))

      far : is_lt (R (get_or ps j e) (get_or ps i e)) ≡ false
      far = sorted_far (λ x y. is_lt (R x y)) (ranks_by o (λ (a : ℕ × ℕ). a)) ps (IsSorted-sorted o start) i j e (omega arith) in_j

      differ : R (get_or ps i e) (get_or ps j e) ≡ Equal → ⊥
      differ q = eqb-false (get_or (by_key R f vs) i d) (get_or (by_key R f vs) j d) (apart_from_distinct nat_eq (by_key R f vs) i j d
          (by_key-distinct R f vs apart) l m)
          (second i in_i ∙ ap (λ (a : ℕ × ℕ). a.1) (exact (get_or ps i e) (get_or ps j e) q) ∙ sym (second j in_j))

      less : R (get_or ps i e) (get_or ps j e) ≡ Less
      less = not_below (R (get_or ps i e) (get_or ps j e)) (ap is_lt (sym (o.antisymm (get_or ps j e) (get_or ps i e))) ∙ far) differ

pub heavier_goes_first : (a b : ℕ × ℕ) → heavier_first a b ≡ Less → (b.0 < a.0) ⊎ ((a.0 ≡ b.0) × (a.1 < b.1))
heavier_goes_first a b e = by (nat_cmp b.0 a.0) (nat_cmp a.1 b.1) (ranked b.0 a.0 (nat_cmp b.0 a.0) refl) (ranked a.1 b.1 (nat_cmp a.1 b.1) refl) e
  where
    by : (r s : Ordering) → MatchOrdering r (b.0 < a.0) (b.0 ≡ a.0) (a.0 < b.0) → MatchOrdering s (a.1 < b.1) (a.1 ≡ b.1) (b.1 < a.1) →
        ordering_then r s ≡ Less → (b.0 < a.0) ⊎ ((a.0 ≡ b.0) × (a.1 < b.1))
    by Less s x y f = inl x
    by Equal Less x y f = inr (sym x, y)
    by Equal Equal x y f = absurd (true≢false (sym (ap is_lt f)))
    by Equal Greater x y f = absurd (true≢false (sym (ap is_lt f)))
    by Greater s x y f = absurd (true≢false (sym (ap is_lt f)))

pub lower_goes_first : (a b : ℕ × ℕ) → lower_first a b ≡ Less → (a.0 < b.0) ⊎ ((a.0 ≡ b.0) × (a.1 < b.1))
lower_goes_first a b e = by (nat_cmp a.0 b.0) (nat_cmp a.1 b.1) (ranked a.0 b.0 (nat_cmp a.0 b.0) refl) (ranked a.1 b.1 (nat_cmp a.1 b.1) refl) e
  where
    by : (r s : Ordering) → MatchOrdering r (a.0 < b.0) (a.0 ≡ b.0) (b.0 < a.0) → MatchOrdering s (a.1 < b.1) (a.1 ≡ b.1) (b.1 < a.1) →
        ordering_then r s ≡ Less → (a.0 < b.0) ⊎ ((a.0 ≡ b.0) × (a.1 < b.1))
    by Less s x y f = inl x
    by Equal Less x y f = inr (x, y)
    by Equal Equal x y f = absurd (true≢false (sym (ap is_lt f)))
    by Equal Greater x y f = absurd (true≢false (sym (ap is_lt f)))
    by Greater s x y f = absurd (true≢false (sym (ap is_lt f)))
