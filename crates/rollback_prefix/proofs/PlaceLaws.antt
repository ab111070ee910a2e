-- Laws of the places of the moves that move a pin: found pin by pin, and then sorted.
use Rattle.std.proofs.Common.{◌≡◌, ◌≢◌, ℕ, ◌+◌, ◌-◌, ◌<◌, ◌⊎◌, inl, inr, List, [], ◌∷◌, ◌++◌, take, length, get_or, AllPairs}
use Rattle.std.proofs.Common.{Contains, IsPermutation, sym, ap, subst, arith, nat_eq, nat_cmp, length-take}
use Rattle.std.proofs.lemmas.List.{take_more, get_or-take, get_or_default}
use Rattle.std.proofs.lemmas.List.Elements.{Contains-get_or, Contains-push, Contains-push_cases, Contains-append_left}
use Rattle.std.proofs.lemmas.List.Quantifiers.{all_pairs_push}
use Rattle.std.proofs.lemmas.List.Sorted.{Contains-permutation, IsNonDecreasingBy-from_sort, IsPermutation-sym}
use Rattle.std.proofs.lemmas.List.Kept.{AllPairs-from_increasing}
use Rattle.std.proofs.lemmas.Map.Keys.{IsDistinct-IsPermutation}
use Rattle.std.proofs.lemmas.Map.Made.{IsDistinct-from_AllPairs, AllPairs-from_IsDistinct}
use Rattle.std.proofs.lemmas.Bool.Decides.{Decides-eqb}
use Rattle.std.proofs.lemmas.Cmp.{nat_eq_equiv}
use Rattle.std.specs.List.Sorted.{IsStrictlyIncreasing, IsSorted}
use Rattle.rollback_prefix.specs.Pins.{ArePlacesAt}

-- the places that stand, raised by one, at the pins, each once and in any order
pub record AreFound (pins order places : List ℕ) : Type 0 where
  pub once : AllPairs (λ i j. i ≢ j) places
  pub each : (i : ℕ) → Contains places i → (v : ℕ) × Contains pins v × (get_or order v 0 ≡ i + 1)
  pub all : (v i : ℕ) → Contains pins v → get_or order v 0 ≡ i + 1 → Contains places i

pub permuted_back : (xs ys : List ℕ) (x : ℕ) → IsPermutation xs ys → Contains ys x → Contains xs x
permuted_back xs ys x h c = Contains-permutation ys xs x (IsPermutation-sym xs ys h) c

pub found_none : (order : List ℕ) → AreFound [] order []
found_none order = record {
  once = λ i j d l m. absurd (omega arith);
  each = λ i c. absurd (let l = c.1 in omega arith);
  all = λ v i c e. absurd (let l = c.1 in omega arith);
}

module _ (pins order places : List ℕ) (i : ℕ) (here : i < length pins) (rising : IsStrictlyIncreasing pins) (one : (u v : ℕ) → 0 < get_or order u 0 →
    get_or order u 0 ≡ get_or order v 0 → u ≡ v) where
  grown : take (i + 1) pins ≡ take i pins ++ get_or pins i 0 ∷ []
  grown = take_more pins i 0 here

  -- a pin that doesn't move
  pub found_same : get_or order (get_or pins i 0) 0 ≡ 0 → AreFound (take i pins) order places → AreFound (take (i + 1) pins) order places
  found_same e f = record {
    once = f.once;
    each = λ j c. let r = f.each j c in (
      r.0,
      subst (λ xs. Contains xs r.0) (sym grown) (Contains-append_left (take i pins) (get_or pins i 0 ∷ []) r.0 r.1),
      r.2,
    );
    all = λ v j c q. by v j q (Contains-push_cases (take i pins) (get_or pins i 0) v (subst (λ xs. Contains xs v) grown c));
  }
    where
      by : (v j : ℕ) → get_or order v 0 ≡ j + 1 → Contains (take i pins) v ⊎ (get_or pins i 0 ≡ v) → Contains places j
      by v j q (inl c) = f.all v j c q
      by v j q (inr s) = absurd (let t = ap (λ x. get_or order x 0) s in omega arith)

  -- a pin that moves
  pub found_more : 0 < get_or order (get_or pins i 0) 0 → AreFound (take i pins) order places
      → AreFound (take (i + 1) pins) order (places ++ (get_or order (get_or pins i 0) 0 - 1) ∷ [])
  found_more p f = record {
    once = all_pairs_push (λ a b. a ≢ b) places (get_or order (get_or pins i 0) 0 - 1) f.once
        (λ k d l. new (get_or places k d) (Contains-get_or places k d l));
    each = λ j c. each j (Contains-push_cases places (get_or order (get_or pins i 0) 0 - 1) j c);
    all = λ v j c q. all v j q (Contains-push_cases (take i pins) (get_or pins i 0) v (subst (λ xs. Contains xs v) grown c));
  }
    where
      new : (j : ℕ) → Contains places j → j ≢ get_or order (get_or pins i 0) 0 - 1
      new j c e =
          let r = f.each j c in
          let same = one r.0 (get_or pins i 0) (let q = r.2 in omega arith) (let q = r.2 in omega arith) in
          let k = r.1.0 in
          let low = r.1.1 in
          let cut = length-take i pins in
          let at = get_or-take i pins k r.0 (omega arith) in
          let is = r.1.2 in
          let less = AllPairs-from_increasing pins rising k i r.0 (omega arith) here in
          let any = get_or_default pins i r.0 0 here in
          omega arith

      each : (j : ℕ) → Contains places j ⊎ (get_or order (get_or pins i 0) 0 - 1 ≡ j) → (v : ℕ) × Contains (take (i + 1) pins) v ×
          (get_or order v 0 ≡ j + 1)
      each j (inl c) = let r = f.each j c in (
        r.0,
        subst (λ xs. Contains xs r.0) (sym grown) (Contains-append_left (take i pins) (get_or pins i 0 ∷ []) r.0
            r.1),
        r.2,
      )
      each j (inr e) = (
        get_or pins i 0,
        subst (λ xs. Contains xs (get_or pins i 0)) (sym grown) (Contains-push (take i pins) (get_or pins i 0)),
        omega arith,
      )

      all : (v j : ℕ) → get_or order v 0 ≡ j + 1 → Contains (take i pins) v ⊎ (get_or pins i 0 ≡ v) →
          Contains (places ++ (get_or order (get_or pins i 0) 0 - 1) ∷ []) j
      all v j q (inl c) = Contains-append_left places ((get_or order (get_or pins i 0) 0 - 1) ∷ []) j (f.all v j c q)
      all v j q (inr s) =
          let t = ap (λ x. get_or order x 0) s in
          let e : get_or order (get_or pins i 0) 0 - 1 ≡ j = omega arith in
          subst (λ x. Contains (places ++ (get_or order (get_or pins i 0) 0 - 1) ∷ []) x) e (Contains-push places (get_or order (get_or pins i 0) 0 - 1))

-- sorted
pub found_sorted : (pins order xs ys : List ℕ) → AreFound pins order xs → IsPermutation xs ys → IsSorted nat_cmp ys → ArePlacesAt pins order ys
found_sorted pins order xs ys f h s = record {
  rising = λ k l.
      let le = IsNonDecreasingBy-from_sort (λ (x : ℕ). x) ys s k (k + 1) 0 (omega arith) l in
      let ne = apart k (k + 1) 0 (omega arith) l in
      omega arith;
  each = λ i c. f.each i (permuted_back xs ys i h c);
  all = λ v i c e. Contains-permutation xs ys i h (f.all v i c e);
}
  where
    apart : AllPairs (λ i j. i ≢ j) ys
    apart = AllPairs-from_IsDistinct Decides-eqb ys (IsDistinct-IsPermutation nat_eq nat_eq_equiv.symm xs ys h
        (IsDistinct-from_AllPairs Decides-eqb xs f.once))
