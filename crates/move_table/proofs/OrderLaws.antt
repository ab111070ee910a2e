-- Items laid out by numbers, each number once, are the same items in another order.
use Rattle.std.proofs.Common.{◌≡◌, ◌≢◌, ℕ, suc, ◌+◌, ◌-◌, ◌<◌, ◌≤◌, inl, inr, List, [], ◌∷◌, map, length, get_or, slice_index}
use Rattle.std.proofs.Common.{nat_lt, if◌then◌else◌, IsPermutation, sym, ap, ◌∙◌, subst, arith}
use Rattle.std.specs.List.{remove}
use Rattle.std.proofs.lemmas.Bool.{cases_lt, lt-ltb, le-ltb}
use Rattle.std.proofs.lemmas.List.{length-map, get_or-map}
use Rattle.std.proofs.lemmas.List.Edits.{length-remove, get_or-remove_below, get_or-remove_above}
use Rattle.std.proofs.lemmas.List.Sorted.{IsPermutation-refl, IsPermutation-sym, IsPermutation-cons, IsPermutation-trans, IsPermutation-remove}

-- a number once another one is taken away: those above it fall by one
abbrev fallen : ℕ → ℕ → ℕ
fallen a x = if nat_lt a x then x - 1 else x

fallen_above : (a x : ℕ) → a < x → fallen a x ≡ x - 1
fallen_above a x l = ap (λ z. if z then x - 1 else x) (lt-ltb a x l)

fallen_below : (a x : ℕ) → x ≤ a → fallen a x ≡ x
fallen_below a x l = ap (λ z. if z then x - 1 else x) (le-ltb a x l)

fallen_apart : (a x y : ℕ) → x ≢ a → y ≢ a → x ≢ y → fallen a x ≢ fallen a y
fallen_apart a x y p q n e =
    elim (cases_lt a x) [
      | inl l ↦
          let f = fallen_above a x l in
          elim (cases_lt a y) [
            | inl m ↦ let g = fallen_above a y m in n (omega arith)
            | inr m ↦ let g = fallen_below a y m in q (omega arith)
          ]
      | inr l ↦
          let f = fallen_below a x l in
          elim (cases_lt a y) [
            | inl m ↦ let g = fallen_above a y m in p (omega arith)
            | inr m ↦ let g = fallen_below a y m in n (omega arith)
          ]
    ]

under : (x a : ℕ) → x ≤ a → x ≢ a → x < a
under x a l n = elim (cases_lt x a) [ inl q ↦ q | inr q ↦ absurd (n (omega arith)) ]

fallen_small : (a x n : ℕ) → a < suc n → x < suc n → x ≢ a → fallen a x < n
fallen_small a x n l m o =
    elim (cases_lt a x) [
      | inl q ↦ let f = fallen_above a x q in omega arith
      | inr q ↦ let f = fallen_below a x q in let u = under x a q o in omega arith
    ]

module _ {A : Type 0} where
  fallen_place : (a x : ℕ) (out : List A) (d : A) → a < length out → x ≢ a → get_or (remove out a) (fallen a x) d ≡ get_or out x d
  fallen_place a x out d l o =
      elim (cases_lt a x) [
        | inl q ↦
            let next : x - 1 + 1 ≡ x = omega arith in
            ap (λ i. get_or (remove out a) i d) (fallen_above a x q) ∙ get_or-remove_above out a d (x - 1) (omega arith) l ∙ ap (λ i. get_or out i d) next
        | inr q ↦ ap (λ i. get_or (remove out a) i d) (fallen_below a x q) ∙ get_or-remove_below out a d x (under x a q o) l
      ]

  -- so many items, which stand at the places that numbers tell, each place once
  pub record AreAt (numbers : List ℕ) (items out : List A) : Type 0 where
    pub numbered : length numbers ≡ length items
    pub all : length out ≡ length items
    pub below : (k : ℕ) → k < length items → slice_index numbers k < length items
    pub apart : (j k : ℕ) → j < length items → k < length items → j ≢ k → slice_index numbers j ≢ slice_index numbers k
    pub places : (k : ℕ) (d : A) → k < length items → get_or out (slice_index numbers k) d ≡ get_or items k d

  -- the first item and its place are taken away
  rest_at : (a : ℕ) (numbers : List ℕ) (m : A) (items out : List A) → AreAt (a ∷ numbers) (m ∷ items) out →
      AreAt (map (fallen a) numbers) items (remove out a)
  rest_at a numbers m items out h =
      let wide = length-map numbers (fallen a) in
      let same = h.numbered in
      let all = h.all in
      let first : a < suc (length items) = h.below 0 (omega arith) in
      let inside : a < length out = omega arith in
      let less = length-remove out a inside in
      let other : (k : ℕ) → k < length items → slice_index numbers k ≢ a =
      λ k l. h.apart (suc k) 0 (omega arith) (omega arith) (λ z. absurd (omega arith)) in
      let falls : (k : ℕ) → k < length items → slice_index (map (fallen a) numbers) k ≡ fallen a (slice_index numbers k) =
      λ k l. get_or-map (fallen a) numbers k 0 0 (omega arith) in
      record {
        numbered = omega arith;
        all = omega arith;
        below = λ k l.
            subst (λ n. n < length items) (sym (falls k l))
            (fallen_small a (slice_index numbers k) (length items) first (h.below (suc k) (omega arith)) (other k l));
        apart = λ j k l r n e.
            fallen_apart a (slice_index numbers j) (slice_index numbers k) (other j l) (other k r)
            (h.apart (suc j) (suc k) (omega arith) (omega arith) (λ z. n (omega arith)))
            (sym (falls j l) ∙ e ∙ falls k r);
        places = λ k d l.
            ap (λ n. get_or (remove out a) n d) (falls k l) ∙ fallen_place a (slice_index numbers k) out d inside (other k l) ∙
            h.places (suc k) d (omega arith);
      }

  pub permuted : (numbers : List ℕ) (items out : List A) → AreAt numbers items out → IsPermutation items out
  permuted numbers [] [] h = IsPermutation-refl []
  permuted numbers [] (x ∷ out) h = let all = h.all in absurd (omega arith)
  permuted [] (m ∷ items) out h = let same = h.numbered in absurd (omega arith)
  permuted (a ∷ numbers) (m ∷ items) out h =
      let all = h.all in
      let first : a < suc (length items) = h.below 0 (omega arith) in
      let taken = IsPermutation-remove out a m (omega arith) (sym (h.places 0 m (omega arith))) in
      IsPermutation-trans (m ∷ items) (m ∷ remove out a) out
      (IsPermutation-cons m items (remove out a) (permuted (map (fallen a) numbers) items (remove out a) (rest_at a numbers m items out h)))
      (IsPermutation-sym out (m ∷ remove out a) taken)
