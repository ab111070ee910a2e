-- Laws of sums: over a list, over the numbers below a bound, and of the weights of a block.
use Rattle.std.proofs.Common.{◌⊎◌, inl, inr, ◌-◌, ◌≤ℤ◌, length-set, get_or-set_same, get_or-set_other}
use Rattle.std.proofs.Common.{add-zero, add-suc, ◌≡◌, ℕ, zero, suc, ◌+◌, ◌*◌, ◌<◌, ◌≤◌}
use Rattle.std.proofs.Common.{◌≢◌, Bool, true, false, cond, if◌then◌else◌, nat_eq, List, [], ◌∷◌, ◌++◌, map}
use Rattle.std.proofs.Common.{filter, length, get_or, take, drop, set, replicate}
use Rattle.std.proofs.Common.{slice_index, slice_set, ℤ, pos, ◌+ℤ◌, ◌-ℤ◌, All, IsPermutation, refl, sym, ap, ◌∙◌, subst, arith, add-one, sum_by}
use Rattle.std.proofs.lemmas.List.{drop_more}
use Rattle.std.proofs.lemmas.List.Sums.{sum_by-cons}
use Rattle.std.proofs.lemmas.List.Sorted.{sum_by-IsPermutation}
use Rattle.std.proofs.lemmas.List.Elements.{All-head, All-tail}
use Rattle.std.proofs.lemmas.List.Sorted.{IsPermutation-keeps}
use Rattle.std.specs.List.{swap}
use Rattle.std.proofs.lemmas.Bool.{cases_lt, cases_eq, eqb-true, eqb-false, eq-eqb, ne_eqb}
use Rattle.std.proofs.lemmas.Int.{ints}
use Rattle.std.specs.List.{range_with_len}
use Rattle.hg_defs.specs.Sums.{total, total_z, sum_below}
use Rattle.hg_defs.specs.Partition.{weight_in}

-- ---- over a list

module _ {A : Type 0} (f : A → ℕ) where
  pub total-append : (xs ys : List A) → total f (xs ++ ys) ≡ total f xs + total f ys
  total-append [] ys = omega arith
  total-append (x ∷ xs) ys = let e = total-append xs ys in omega arith

  pub total_push : (xs : List A) (y : A) → total f (xs ++ y ∷ []) ≡ total f xs + f y
  total_push xs y = let e = total-append xs (y ∷ []) in omega arith

  pub total-map : {B : Type 0} (g : B → A) (xs : List B) → total f (map g xs) ≡ total (λ x. f (g x)) xs
  total-map g [] = refl
  total-map g (x ∷ xs) = let e = total-map g xs in omega arith

  -- one element changed
  pub total-set : (xs : List A) (i : ℕ) (y d : A) → i < length xs → total f (set xs i y) + f (get_or xs i d) ≡ total f xs + f y
  total-set [] i y d h = absurd (omega arith)
  total-set (x ∷ xs) zero y d h = omega arith
  total-set (x ∷ xs) (suc i) y d h = let e = total-set xs i y d (omega arith) in omega arith

  pub total-take-drop : (xs : List A) (i : ℕ) → total f (take i xs) + total f (drop i xs) ≡ total f xs
  total-take-drop xs zero = omega arith
  total-take-drop [] (suc i) = refl
  total-take-drop (x ∷ xs) (suc i) = let e = total-take-drop xs i in omega arith

  pub total-drop_more : (xs : List A) (i : ℕ) (d : A) → i < length xs → total f (drop i xs) ≡ f (get_or xs i d) + total f (drop (i + 1) xs)
  total-drop_more xs i d h = ap (total f) (drop_more xs i d h)

  pub total-take_more : (xs : List A) (i : ℕ) (d : A) → i < length xs → total f (take (i + 1) xs) ≡ total f (take i xs) + f (get_or xs i d)
  total-take_more xs i d h =
      let a = total-take-drop xs i in
      let b = total-take-drop xs (i + 1) in
      let c = total-drop_more xs i d h in
      omega arith

  pub total-take-le : (xs : List A) (i : ℕ) → total f (take i xs) ≤ total f xs
  total-take-le xs i = let e = total-take-drop xs i in omega arith

  -- an element, and what comes before it and the element, are within the total
  pub total_at-le : (xs : List A) (i : ℕ) (d : A) → i < length xs → f (get_or xs i d) ≤ total f xs
  total_at-le xs i d h =
      let a = total-take-drop xs i in
      let c = total-drop_more xs i d h in
      omega arith

  pub total_more-le : (xs : List A) (i : ℕ) (d : A) → i < length xs → total f (take i xs) + f (get_or xs i d) ≤ total f xs
  total_more-le xs i d h =
      let a = total-take-drop xs i in
      let c = total-drop_more xs i d h in
      omega arith

  pub total-replicate : (n : ℕ) (x : A) → total f (replicate n x) ≡ n * f x
  total-replicate zero x = omega arith
  total-replicate (suc n) x = let e = total-replicate n x in omega arith

  pub total-sum_by : (xs : List A) → total f xs ≡ sum_by f xs
  total-sum_by [] = refl
  total-sum_by (x ∷ xs) = ap (λ n. f x + n) (total-sum_by xs) ∙ sym (sum_by-cons f x xs)

  -- the order of the elements doesn't count
  pub total-permutation : (xs ys : List A) → IsPermutation xs ys → total f ys ≡ total f xs
  total-permutation xs ys h = total-sum_by ys ∙ sum_by-IsPermutation f xs ys h ∙ sym (total-sum_by xs)

  pub total-filter : (p : A → Bool) (xs : List A) → total f (filter p xs) ≡ total (λ x. if p x then f x else 0) xs
  total-filter p [] = refl
  total-filter p (x ∷ xs) = by (p x) (total-filter p xs)
    where
      by : (b : Bool) → total f (filter p xs) ≡ total (λ x. if p x then f x else 0) xs → total f (cond b (x ∷ filter p xs) (filter p xs)) ≡
          (if b then f x else 0) + total (λ x. if p x then f x else 0) xs
      by true e = omega arith
      by false e = omega arith

  pub total-zero : (xs : List A) → All (λ x. f x ≡ 0) xs → total f xs ≡ 0
  total-zero [] h = refl
  total-zero (x ∷ xs) h =
      let a = All-head (λ x. f x ≡ 0) x xs h in
      let e = total-zero xs (All-tail (λ x. f x ≡ 0) x xs h) in
      omega arith

  pub total-zero_each : (xs : List A) → total f xs ≡ 0 → All (λ x. f x ≡ 0) xs
  total-zero_each xs e k d h = let a = total_at-le xs k d h in omega arith

module _ {A : Type 0} (f g : A → ℕ) where
  pub total-same : (xs : List A) → All (λ x. f x ≡ g x) xs → total f xs ≡ total g xs
  total-same [] h = refl
  total-same (x ∷ xs) h =
      let a = All-head (λ x. f x ≡ g x) x xs h in
      let e = total-same xs (All-tail (λ x. f x ≡ g x) x xs h) in
      omega arith

  pub total-same_each : ((x : A) → f x ≡ g x) → (xs : List A) → total f xs ≡ total g xs
  total-same_each h xs = total-same xs (λ k d l. h (get_or xs k d))

  pub total-le : (xs : List A) → All (λ x. f x ≤ g x) xs → total f xs ≤ total g xs
  total-le [] h = omega arith
  total-le (x ∷ xs) h =
      let a = All-head (λ x. f x ≤ g x) x xs h in
      let e = total-le xs (All-tail (λ x. f x ≤ g x) x xs h) in
      omega arith

  pub total-add : (xs : List A) → total (λ x. f x + g x) xs ≡ total f xs + total g xs
  total-add [] = refl
  total-add (x ∷ xs) = let e = total-add xs in omega arith

module _ {A : Type 0} (c : ℕ) (f : A → ℕ) where
  pub total-scale : (xs : List A) → total (λ x. c * f x) xs ≡ c * total f xs
  total-scale [] = omega arith
  total-scale (x ∷ xs) = let e = total-scale xs in omega arith

  pub total-scale_right : (xs : List A) → total (λ x. f x * c) xs ≡ total f xs * c
  total-scale_right [] = omega arith
  total-scale_right (x ∷ xs) = let e = total-scale_right xs in omega arith

pub total-constant : {A : Type 0} (c : ℕ) (xs : List A) → total (λ x. c) xs ≡ length xs * c
total-constant c [] = omega arith
total-constant c (x ∷ xs) = let e = total-constant c xs in omega arith

pub total-ones : {A : Type 0} (xs : List A) → total (λ x. 1) xs ≡ length xs
total-ones [] = refl
total-ones (x ∷ xs) = let e = total-ones xs in omega arith

-- two sums change places
pub total-swap : {A B : Type 0} (f : A → B → ℕ) (xs : List A) (ys : List B) → total (λ x. total (f x) ys) xs ≡ total (λ y. total (λ x. f x y) xs) ys
total-swap f [] ys = sym (total-zero (λ y. 0) ys (λ k d l. refl))
total-swap f (x ∷ xs) ys = ap (λ n. total (f x) ys + n) (total-swap f xs ys) ∙ sym (total-add (f x) (λ y. total (λ x. f x y) xs) ys)

-- ---- over the numbers below a bound

module _ (f : ℕ → ℕ) where
  pub sum_below_more : (n : ℕ) → sum_below f (n + 1) ≡ sum_below f n + f n
  sum_below_more n = ap (sum_below f) (add-one n)

  pub sum_below_first : (n : ℕ) → sum_below f (suc n) ≡ f 0 + sum_below (λ i. f (suc i)) n
  sum_below_first zero = omega arith
  sum_below_first (suc n) = let e = sum_below_first n in omega arith

  pub sum_below_at-le : (n i : ℕ) → i < n → f i ≤ sum_below f n
  sum_below_at-le zero i h = absurd (omega arith)
  sum_below_at-le (suc n) i h = grind (arith, sum_below_at-le n i)

  pub sum_below-zero : (n : ℕ) → ((i : ℕ) → i < n → f i ≡ 0) → sum_below f n ≡ 0
  sum_below-zero zero h = refl
  sum_below-zero (suc n) h =
      let e = sum_below-zero n (λ i l. h i (omega arith)) in
      let a = h n (omega arith) in
      omega arith

  pub sum_below-zero_each : (n : ℕ) → sum_below f n ≡ 0 → (i : ℕ) → i < n → f i ≡ 0
  sum_below-zero_each n e i h = let a = sum_below_at-le n i h in omega arith

module _ (f g : ℕ → ℕ) where
  pub sum_below-same : (n : ℕ) → ((i : ℕ) → i < n → f i ≡ g i) → sum_below f n ≡ sum_below g n
  sum_below-same zero h = refl
  sum_below-same (suc n) h =
      let e = sum_below-same n (λ i l. h i (omega arith)) in
      let a = h n (omega arith) in
      omega arith

  pub sum_below-le : (n : ℕ) → ((i : ℕ) → i < n → f i ≤ g i) → sum_below f n ≤ sum_below g n
  sum_below-le zero h = omega arith
  sum_below-le (suc n) h =
      let e = sum_below-le n (λ i l. h i (omega arith)) in
      let a = h n (omega arith) in
      omega arith

  pub sum_below-add : (n : ℕ) → sum_below (λ i. f i + g i) n ≡ sum_below f n + sum_below g n
  sum_below-add zero = refl
  sum_below-add (suc n) = let e = sum_below-add n in omega arith

  -- the two differ in one term
  pub sum_below-change : (n i : ℕ) → i < n → ((j : ℕ) → j < n → j ≢ i → f j ≡ g j) → sum_below f n + g i ≡ sum_below g n + f i
  sum_below-change zero i l h = absurd (omega arith)
  sum_below-change (suc n) i l h = by (nat_eq i n) refl (λ k. sum_below-change n i k (λ j m q. h j (omega arith) q))
    where
      by : (b : Bool) → nat_eq i n ≡ b → (i < n → sum_below f n + g i ≡ sum_below g n + f i) → sum_below f (suc n) + g i ≡ sum_below g (suc n) + f i
      by true e r =
          let same = eqb-true i n e in
          let before = sum_below-same n (λ j k. h j (omega arith) (λ q. absurd (omega arith))) in
          subst (λ m. (sum_below f n + f n) + g m ≡ (sum_below g n + g n) + f m) (sym same) (omega arith)
      by false e r =
          let other = eqb-false i n e in
          let k : i < n = grind arith in
          let before = r k in
          let here = h n (omega arith) (λ q. other (sym q)) in
          omega arith

pub sum_below-scale : (c : ℕ) (f : ℕ → ℕ) (n : ℕ) → sum_below (λ i. c * f i) n ≡ c * sum_below f n
sum_below-scale c f zero = omega arith
sum_below-scale c f (suc n) = let e = sum_below-scale c f n in omega arith

pub sum_below-constant : (c n : ℕ) → sum_below (λ i. c) n ≡ n * c
sum_below-constant c zero = omega arith
sum_below-constant c (suc n) = let e = sum_below-constant c n in omega arith

-- only one term counts
pub sum_below-only : (f : ℕ → ℕ) (n i : ℕ) → i < n → ((j : ℕ) → j < n → j ≢ i → f j ≡ 0) → sum_below f n ≡ f i
sum_below-only f n i l h =
    let a = sum_below-change f (λ j. 0) n i l h in
    let b = sum_below-zero (λ j. 0) n (λ j k. refl) in
    omega arith

pub sum_below-swap : (f : ℕ → ℕ → ℕ) (n m : ℕ) → sum_below (λ i. sum_below (f i) m) n ≡ sum_below (λ j. sum_below (λ i. f i j) n) m
sum_below-swap f zero m = sym (sum_below-zero (λ j. 0) m (λ i l. refl))
sum_below-swap f (suc n) m =
    let e = sum_below-swap f n m in
    let a = sum_below-add (λ j. sum_below (λ i. f i j) n) (f n) m in
    omega arith

pub sum_below-total : {A : Type 0} (f : ℕ → A → ℕ) (n : ℕ) (xs : List A) → sum_below (λ i. total (f i) xs) n ≡ total (λ x. sum_below (λ i. f i x) n) xs
sum_below-total f n [] = sum_below-zero (λ i. 0) n (λ i l. refl)
sum_below-total f n (x ∷ xs) =
    let e = sum_below-total f n xs in
    let a = sum_below-add (λ i. f i x) (λ i. total (f i) xs) n in
    omega arith

pub total-range_from : (f : ℕ → ℕ) (a n : ℕ) → total f (range_with_len a n) ≡ sum_below (λ i. f (a + i)) n
total-range_from f a zero = refl
total-range_from f a (suc n) =
    let e = total-range_from f (a + 1) n in
    let b = sum_below_first (λ i. f (a + i)) n in
    let c = sum_below-same (λ i. f (a + 1 + i)) (λ i. f (a + suc i)) n (λ i l. ap f (omega arith)) in
    let z : f (a + 0) ≡ f a = ap f (omega arith) in
    omega arith

pub total-range : (f : ℕ → ℕ) (n : ℕ) → total f (range_with_len 0 n) ≡ sum_below f n
total-range f n = total-range_from f 0 n ∙ sum_below-same (λ i. f (0 + i)) f n (λ i l. ap f (omega arith))

pub total-by_index : {A : Type 0} (f : A → ℕ) (d : A) (xs : List A) → total f xs ≡ sum_below (λ i. f (get_or xs i d)) (length xs)
total-by_index f d [] = refl
total-by_index f d (x ∷ xs) =
    let e = total-by_index f d xs in
    let a = sum_below_first (λ i. f (get_or (x ∷ xs) i d)) (length xs) in
    omega arith

-- ---- signed sums

module _ {A : Type 0} (f : A → ℤ) where
  pub total_z-append : (xs ys : List A) → total_z f (xs ++ ys) ≡ total_z f xs +ℤ total_z f ys
  total_z-append [] ys = omega (arith, ints)
  total_z-append (x ∷ xs) ys = let e = total_z-append xs ys in omega (arith, ints)

  pub total_z_push : (xs : List A) (y : A) → total_z f (xs ++ y ∷ []) ≡ total_z f xs +ℤ f y
  total_z_push xs y = let e = total_z-append xs (y ∷ []) in omega (arith, ints)

  pub total_z-map : {B : Type 0} (g : B → A) (xs : List B) → total_z f (map g xs) ≡ total_z (λ x. f (g x)) xs
  total_z-map g [] = refl
  total_z-map g (x ∷ xs) = ap (λ n. f (g x) +ℤ n) (total_z-map g xs)

  pub total_z-set : (xs : List A) (i : ℕ) (y d : A) → i < length xs → total_z f (set xs i y) +ℤ f (get_or xs i d) ≡ total_z f xs +ℤ f y
  total_z-set [] i y d h = absurd (omega arith)
  total_z-set (x ∷ xs) zero y d h = omega (arith, ints)
  total_z-set (x ∷ xs) (suc i) y d h = let e = total_z-set xs i y d (omega arith) in omega (arith, ints)

  pub total_z-take-drop : (xs : List A) (i : ℕ) → total_z f (take i xs) +ℤ total_z f (drop i xs) ≡ total_z f xs
  total_z-take-drop xs zero = omega (arith, ints)
  total_z-take-drop [] (suc i) = refl
  total_z-take-drop (x ∷ xs) (suc i) = let e = total_z-take-drop xs i in omega (arith, ints)

  pub total_z-drop_more : (xs : List A) (i : ℕ) (d : A) → i < length xs → total_z f (drop i xs) ≡ f (get_or xs i d) +ℤ total_z f (drop (i + 1) xs)
  total_z-drop_more xs i d h = ap (total_z f) (drop_more xs i d h)

  pub total_z-take_more : (xs : List A) (i : ℕ) (d : A) → i < length xs → total_z f (take (i + 1) xs) ≡ total_z f (take i xs) +ℤ f (get_or xs i d)
  total_z-take_more xs i d h =
      let a = total_z-take-drop xs i in
      let b = total_z-take-drop xs (i + 1) in
      let c = total_z-drop_more xs i d h in
      omega (arith, ints)

module _ {A : Type 0} (f g : A → ℤ) where
  pub total_z-same : (xs : List A) → All (λ x. f x ≡ g x) xs → total_z f xs ≡ total_z g xs
  total_z-same [] h = refl
  total_z-same (x ∷ xs) h =
      let a = All-head (λ x. f x ≡ g x) x xs h in
      let e = total_z-same xs (All-tail (λ x. f x ≡ g x) x xs h) in
      omega (arith, ints)

  pub total_z-add : (xs : List A) → total_z (λ x. f x +ℤ g x) xs ≡ total_z f xs +ℤ total_z g xs
  total_z-add [] = refl
  total_z-add (x ∷ xs) = let e = total_z-add xs in omega (arith, ints)

  pub total_z-sub : (xs : List A) → total_z (λ x. f x -ℤ g x) xs ≡ total_z f xs -ℤ total_z g xs
  total_z-sub [] = refl
  total_z-sub (x ∷ xs) = let e = total_z-sub xs in omega (arith, ints)

pub total_z-pos : {A : Type 0} (f : A → ℕ) (xs : List A) → total_z (λ x. pos (f x)) xs ≡ pos (total f xs)
total_z-pos f [] = refl
total_z-pos f (x ∷ xs) = let e = total_z-pos f xs in omega (arith, ints)

-- the difference of two sums is the sum of the differences
pub total_z-difference : {A : Type 0} (f g : A → ℕ) (xs : List A) → total_z (λ x. pos (f x) -ℤ pos (g x)) xs ≡ pos (total f xs) -ℤ pos (total g xs)
total_z-difference f g [] = refl
total_z-difference f g (x ∷ xs) = let e = total_z-difference f g xs in omega (arith, ints)

pub total_z-zero : {A : Type 0} (f : A → ℤ) (xs : List A) → All (λ x. f x ≡ pos 0) xs → total_z f xs ≡ pos 0
total_z-zero f [] h = refl
total_z-zero f (x ∷ xs) h =
    let a = All-head (λ x. f x ≡ pos 0) x xs h in
    let e = total_z-zero f xs (All-tail (λ x. f x ≡ pos 0) x xs h) in
    omega (arith, ints)

-- ---- the weight of a block

-- what a weight adds to block b if it stands in block x
abbrev pub weight_if : ℕ → ℕ → ℕ → ℕ
weight_if x b w = if nat_eq x b then w else 0

pub weight_if-same : (x b w : ℕ) → x ≡ b → weight_if x b w ≡ w
weight_if-same x b w e = ap (λ t. if t then w else 0) (eq-eqb x b e)

pub weight_if-other : (x b w : ℕ) → x ≢ b → weight_if x b w ≡ 0
weight_if-other x b w e = ap (λ t. if t then w else 0) (ne_eqb x b e)

pub weight_if-le : (x b w : ℕ) → weight_if x b w ≤ w
weight_if-le x b w = by (nat_eq x b)
  where
    by : (t : Bool) → (if t then w else 0) ≤ w
    by true = omega arith
    by false = omega arith

pub sum_below-weight_if : (x w k : ℕ) → x < k → sum_below (λ b. weight_if x b w) k ≡ w
sum_below-weight_if x w k h = sum_below-only (λ b. weight_if x b w) k x h (λ j l q. weight_if-other x j w (λ e. q (sym e))) ∙ weight_if-same x x w refl

-- one block changed
pub weight_in-set : (ws p : List ℕ) (v b c : ℕ) → v < length ws → v < length p → weight_in ws (slice_set p v b) c + weight_if (slice_index p v) c
    (slice_index ws v) ≡ weight_in ws p c + weight_if b c (slice_index ws v)
weight_in-set [] p v b c l m = absurd (omega arith)
weight_in-set (w ∷ ws) [] v b c l m = absurd (omega arith)
weight_in-set (w ∷ ws) (x ∷ p) zero b c l m = omega arith
weight_in-set (w ∷ ws) (x ∷ p) (suc v) b c l m = let e = weight_in-set ws p v b c (omega arith) (omega arith) in omega arith

-- the new block gains the weight, the old one loses it, the others stay
pub weight_in-set_new : (ws p : List ℕ) (v b : ℕ) → v < length ws → v < length p → b ≢ slice_index p v → weight_in ws (slice_set p v b) b ≡ weight_in ws p
    b +
    slice_index ws v
weight_in-set_new ws p v b l m q =
    let e = weight_in-set ws p v b b l m in
    let x = weight_if-other (slice_index p v) b (slice_index ws v) (λ r. q (sym r)) in
    let y = weight_if-same b b (slice_index ws v) refl in
    omega arith

pub weight_in-set_old : (ws p : List ℕ) (v b a : ℕ) → v < length ws → v < length p → a ≡ slice_index p v → b ≢ a → weight_in ws (slice_set p v b) a +
    slice_index ws v ≡ weight_in ws p a
weight_in-set_old ws p v b a l m r q =
    let e = weight_in-set ws p v b a l m in
    let x = weight_if-same (slice_index p v) a (slice_index ws v) (sym r) in
    let y = weight_if-other b a (slice_index ws v) q in
    omega arith

pub weight_in-set_other : (ws p : List ℕ) (v b c : ℕ) → v < length ws → v < length p → c ≢ slice_index p v → c ≢ b → weight_in ws (slice_set p v b) c ≡
    weight_in ws p c
weight_in-set_other ws p v b c l m q r =
    let e = weight_in-set ws p v b c l m in
    let x = weight_if-other (slice_index p v) c (slice_index ws v) (λ s. q (sym s)) in
    let y = weight_if-other b c (slice_index ws v) (λ s. r (sym s)) in
    omega arith

-- a list grown by one at its end
pub weight_in_push : (ws p : List ℕ) (w x b : ℕ) → length ws ≡ length p → weight_in (ws ++ w ∷ []) (p ++ x ∷ []) b ≡ weight_in ws p b + weight_if x b w
weight_in_push [] [] w x b e = omega arith
weight_in_push [] (y ∷ p) w x b e = absurd (omega arith)
weight_in_push (v ∷ ws) [] w x b e = absurd (omega arith)
weight_in_push (v ∷ ws) (y ∷ p) w x b e = let r = weight_in_push ws p w x b (omega arith) in omega arith

weight_in-take_suc : (ws p : List ℕ) (v b : ℕ) → v < length ws → v < length p → weight_in (take (suc v) ws) (take (suc v) p) b ≡ weight_in (take v ws)
    (take v p) b + weight_if (slice_index p v) b (slice_index ws v)
weight_in-take_suc [] p v b l m = absurd (omega arith)
weight_in-take_suc (w ∷ ws) [] v b l m = absurd (omega arith)
weight_in-take_suc (w ∷ ws) (x ∷ p) zero b l m = omega arith
weight_in-take_suc (w ∷ ws) (x ∷ p) (suc v) b l m = let e = weight_in-take_suc ws p v b (omega arith) (omega arith) in omega arith

pub weight_in-take_more : (ws p : List ℕ) (v b : ℕ) → v < length ws → v < length p → weight_in (take (v + 1) ws) (take (v + 1) p) b ≡ weight_in (take v ws)
    (take v p) b + weight_if (slice_index p v) b (slice_index ws v)
weight_in-take_more ws p v b l m = rw add-one (weight_in-take_suc ws p v b l m)

-- the loads of all blocks are the whole weight
pub weight_in-blocks : (ws p : List ℕ) (k : ℕ) → length ws ≤ length p → All (λ b. b < k) p → sum_below (weight_in ws p) k ≡ total (λ w. w) ws
weight_in-blocks [] p k l h = sum_below-zero (weight_in [] p) k (λ i m. refl)
weight_in-blocks (w ∷ ws) [] k l h = absurd (omega arith)
weight_in-blocks (w ∷ ws) (x ∷ p) k l h =
    let e = weight_in-blocks ws p k (omega arith) (All-tail (λ b. b < k) x p h) in
    let a = sum_below-add (λ b. weight_if x b w) (weight_in ws p) k in
    let s = sum_below-weight_if x w k (All-head (λ b. b < k) x p h) in
    omega arith

pub weight_in-le : (ws p : List ℕ) (b : ℕ) → weight_in ws p b ≤ total (λ w. w) ws
weight_in-le [] p b = omega arith
weight_in-le (w ∷ ws) [] b = omega arith
weight_in-le (w ∷ ws) (x ∷ p) b = let e = weight_in-le ws p b in let a = weight_if-le x b w in omega arith

-- a load by the numbers of the vertices
pub weight_in-by_index : (ws p : List ℕ) (b : ℕ) → length ws ≤ length p → weight_in ws p b ≡ sum_below
    (λ v. weight_if (slice_index p v) b (slice_index ws v))
    (length ws)
weight_in-by_index [] p b l = refl
weight_in-by_index (w ∷ ws) [] b l = absurd (omega arith)
weight_in-by_index (w ∷ ws) (x ∷ p) b l =
    let e = weight_in-by_index ws p b (omega arith) in
    let a = sum_below_first (λ v. weight_if (slice_index (x ∷ p) v) b (slice_index (w ∷ ws) v)) (length ws) in
    omega arith

-- no vertex stands in the block
pub weight_in-none : (ws p : List ℕ) (b : ℕ) → All (λ x. x ≢ b) p → weight_in ws p b ≡ 0
weight_in-none [] p b h = refl
weight_in-none (w ∷ ws) [] b h = refl
weight_in-none (w ∷ ws) (x ∷ p) b h =
    let e = weight_in-none ws p b (All-tail (λ x. x ≢ b) x p h) in
    let a = weight_if-other x b w (All-head (λ x. x ≢ b) x p h) in
    omega arith

-- the loads of the first k blocks are within the whole weight
pub weight_in-blocks-le : (ws p : List ℕ) (k : ℕ) → sum_below (weight_in ws p) k ≤ total (λ w. w) ws
weight_in-blocks-le [] p k = let e = sum_below-zero (weight_in [] p) k (λ i m. refl) in omega arith
weight_in-blocks-le (w ∷ ws) [] k = let e = sum_below-zero (weight_in (w ∷ ws) []) k (λ i m. refl) in omega arith
weight_in-blocks-le (w ∷ ws) (x ∷ p) k =
    let e = weight_in-blocks-le ws p k in
    let a = sum_below-add (λ b. weight_if x b w) (weight_in ws p) k in
    by (cases_lt x k) e a
  where
    by : (x < k) ⊎ (k ≤ x) → sum_below (weight_in ws p) k ≤ total (λ w. w) ws → sum_below (weight_in (w ∷ ws) (x ∷ p)) k ≡ sum_below (λ b. weight_if x b w)
        k +
        sum_below (weight_in ws p) k → sum_below (weight_in (w ∷ ws) (x ∷ p)) k ≤ w + total (λ w. w) ws
    by (inl l) e a = let s = sum_below-weight_if x w k l in omega arith
    by (inr l) e a = let s = sum_below-zero (λ b. weight_if x b w) k (λ b m. weight_if-other x b w (λ q. absurd (omega arith))) in omega arith

-- ---- more on sums below a bound

pub sum_below-split : (f : ℕ → ℕ) (m n : ℕ) → sum_below f (m + n) ≡ sum_below f m + sum_below (λ i. f (m + i)) n
sum_below-split f m zero = ap (sum_below f) (add-zero m) ∙ omega arith
sum_below-split f m (suc n) = let e = sum_below-split f m n in ap (sum_below f) (add-suc m n) ∙ omega arith

pub sum_below-le_more : (f : ℕ → ℕ) (m n : ℕ) → m ≤ n → sum_below f m ≤ sum_below f n
sum_below-le_more f m n l =
    let e = sum_below-split f m (n - m) in
    let t : m + (n - m) ≡ n = omega arith in
    let r = ap (sum_below f) t in
    omega arith

-- ---- sums by groups

-- the sums of the groups are the whole sum
pub total-groups : {A : Type 0} (f key : A → ℕ) (n : ℕ) (xs : List A) → All (λ x. key x < n) xs → sum_below (λ i. total (λ x. weight_if (key x) i (f x)) xs)
    n ≡ total f xs
total-groups f key n xs h =
    sum_below-total (λ i x. weight_if (key x) i (f x)) n xs
    ∙ total-same (λ x. sum_below (λ i. weight_if (key x) i (f x)) n) f xs (λ k d l. sum_below-weight_if (key (get_or xs k d)) (f (get_or xs k d)) n
    (h k d l))

-- ---- more on signed sums

pub total_z-permutation : {A : Type 0} (f : A → ℤ) (xs ys : List A) → IsPermutation xs ys → total_z f ys ≡ total_z f xs
total_z-permutation {A} f xs ys h = IsPermutation-keeps xs (λ l. total_z f l ≡ total_z f xs) refl step ys h
  where
    step : (l : List A) (i j : ℕ) → i < length l → j < length l → total_z f l ≡ total_z f xs → total_z f (swap l i j) ≡ total_z f xs
    step [] i j p q e = absurd (omega arith)
    step (d ∷ l) i j p q e = moved (cases_eq j i)
      where
        long : length (set (d ∷ l) i (get_or (d ∷ l) j d)) ≡ suc (length l)
        long = length-set (d ∷ l) i (get_or (d ∷ l) j d)

        moved : (j ≡ i) ⊎ (j ≡ i → ⊥) → total_z f (swap (d ∷ l) i j) ≡ total_z f xs
        moved c =
            let there : get_or (set (d ∷ l) i (get_or (d ∷ l) j d)) j d ≡ get_or (d ∷ l) j d = two c in
            let read = ap f there in
            let first = total_z-set f (d ∷ l) i (get_or (d ∷ l) j d) d p in
            let second = total_z-set f (set (d ∷ l) i (get_or (d ∷ l) j d)) j (get_or (d ∷ l) i d) d (let n = long in omega arith) in
            omega (arith, ints)
          where
            two : (j ≡ i) ⊎ (j ≡ i → ⊥) → get_or (set (d ∷ l) i (get_or (d ∷ l) j d)) j d ≡ get_or (d ∷ l) j d
            two (inl r) = ap (λ n. get_or (set (d ∷ l) i (get_or (d ∷ l) j d)) n d) r ∙ get_or-set_same (d ∷ l) i (get_or (d ∷ l) j d) d p
            two (inr r) = get_or-set_other (d ∷ l) i j (get_or (d ∷ l) j d) d r

pub total_z-le : {A : Type 0} (f g : A → ℤ) (xs : List A) → All (λ x. f x ≤ℤ g x) xs → total_z f xs ≤ℤ total_z g xs
total_z-le f g [] h = omega (arith, ints)
total_z-le f g (x ∷ xs) h =
    let a = All-head (λ y. f y ≤ℤ g y) x xs h in
    let e = total_z-le f g xs (All-tail (λ y. f y ≤ℤ g y) x xs h) in
    omega (arith, ints)

-- where the test fails nothing is added
pub total_z-filter : {A : Type 0} (f : A → ℤ) (test : A → Bool) (xs : List A) → All (λ x. test x ≡ false → f x ≡ pos 0) xs →
    total_z f (filter test xs) ≡ total_z f xs
total_z-filter f test [] h = refl
total_z-filter f test (x ∷ xs) h = by (test x) refl (total_z-filter f test xs (All-tail (λ y. test y ≡ false → f y ≡ pos 0) x xs h))
  where
    nothing : (y z w : ℤ) → y ≡ pos 0 → z ≡ w → z ≡ y +ℤ w
    nothing y z w e g = omega (arith, ints)

    by : (b : Bool) → test x ≡ b → total_z f (filter test xs) ≡ total_z f xs → total_z f (cond b (x ∷ filter test xs) (filter test xs)) ≡ f x +ℤ total_z f
        xs
    by true e r = ap (λ z. f x +ℤ z) r
    by false e r = nothing (f x) (total_z f (filter test xs)) (total_z f xs) (All-head (λ y. test y ≡ false → f y ≡ pos 0) x xs h e) r

abbrev pub value_if : ℕ → ℕ → ℤ → ℤ
value_if x i z = if nat_eq x i then z else pos 0

value_none : (n : ℕ) (x : ℕ) (z : ℤ) (a : ℕ) → x < a → total_z (λ i. value_if x i z) (range_with_len a n) ≡ pos 0
value_none zero x z a l = refl
value_none (suc n) x z a l =
    let e = value_none n x z (a + 1) (omega arith) in
    let q = ap (λ (t : Bool). if t then z else pos 0) (ne_eqb x a (λ r. absurd (omega arith))) in
    add_nothing (value_if x a z) (total_z (λ i. value_if x i z) (range_with_len (a + 1) n)) q e
  where
    add_nothing : (u w : ℤ) → u ≡ pos 0 → w ≡ pos 0 → u +ℤ w ≡ pos 0
    add_nothing u w e g = omega (arith, ints)

total_z-value_if : (n : ℕ) (x : ℕ) (z : ℤ) (a : ℕ) → a ≤ x → x < a + n → total_z (λ i. value_if x i z) (range_with_len a n) ≡ z
total_z-value_if zero x z a l m = absurd (omega arith)
total_z-value_if (suc n) x z a l m = by (cases_eq x a) (total_z-value_if n x z (a + 1))
  where
    one : (u w : ℤ) → u ≡ z → w ≡ pos 0 → u +ℤ w ≡ z
    one u w e g = omega (arith, ints)

    other : (u w : ℤ) → u ≡ pos 0 → w ≡ z → u +ℤ w ≡ z
    other u w e g = omega (arith, ints)

    by : (x ≡ a) ⊎ (x ≡ a → ⊥) → (a + 1 ≤ x → x < a + 1 + n → total_z (λ i. value_if x i z) (range_with_len (a + 1) n) ≡ z) → value_if x a z +ℤ total_z
        (λ i. value_if x i z) (range_with_len (a + 1) n) ≡ z
    by (inl e) r = one (value_if x a z) (total_z (λ i. value_if x i z) (range_with_len (a + 1) n))
        (ap (λ (t : Bool). if t then z else pos 0) (eq-eqb x a e))
        (value_none n x z (a + 1) (omega arith))
    by (inr q) r = other (value_if x a z) (total_z (λ i. value_if x i z) (range_with_len (a + 1) n))
        (ap (λ (t : Bool). if t then z else pos 0) (ne_eqb x a q))
        (r (grind arith) (omega arith))

pub total_z-swap : {A B : Type 0} (f : A → B → ℤ) (xs : List A) (ys : List B) → total_z (λ x. total_z (f x) ys) xs ≡ total_z (λ y. total_z (λ x. f x y) xs)
    ys
total_z-swap f [] ys = sym (total_z-zero (λ y. pos 0) ys (λ k d l. refl))
total_z-swap f (x ∷ xs) ys = ap (λ n. total_z (f x) ys +ℤ n) (total_z-swap f xs ys) ∙ sym (total_z-add (f x) (λ y. total_z (λ x. f x y) xs) ys)

pub total_z-groups : {A : Type 0} (f : A → ℤ) (key : A → ℕ) (n : ℕ) (xs : List A) → All (λ x. key x < n) xs →
    total_z (λ i. total_z (λ x. value_if (key x) i (f x)) xs) (range_with_len 0 n) ≡ total_z f xs
total_z-groups f key n xs h =
    total_z-swap (λ i x. value_if (key x) i (f x)) (range_with_len 0 n) xs
    ∙ total_z-same (λ x. total_z (λ i. value_if (key x) i (f x)) (range_with_len 0 n)) f xs
    (λ k d l. total_z-value_if n (key (get_or xs k d)) (f (get_or xs k d)) 0 (omega arith) (let m = h k d l in omega arith))
