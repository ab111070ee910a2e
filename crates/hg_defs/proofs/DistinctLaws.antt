-- Laws of the number of distinct entries of a list, and of the blocks that the pins of a net touch.
use Rattle.std.proofs.Common.{◌≡◌, ◌≢◌, ℕ, zero, suc, ◌+◌, ◌*◌, ◌<◌, ◌≤◌, ◌⊎◌, inl, inr, Bool, true, false, ◌||◌, cond}
use Rattle.std.proofs.Common.{if◌then◌else◌, nat_eq, nat_lt, List, [], ◌∷◌, map, length, get_or, slice_set, All, Contains, refl, sym}
use Rattle.std.proofs.Common.{ap, ap₂, ◌∙◌, subst, arith, nat_cmp, max, get_or-set_same, get_or-set_other}
use Rattle.std.proofs.lemmas.List.Elements.{All-nil, All-head, All-tail, All-cons, All-weaker, All-map, All-set}
use Rattle.std.proofs.lemmas.List.{length-map}
use Rattle.std.proofs.lemmas.Bool.{eqb-true, eqb-false, eq-eqb, ne_eqb, ltb-true, ltb-false, lt-ltb, false_from_ne_true}
use Rattle.std.proofs.lemmas.Bool.Decides.{Decides-eqb}
use Rattle.std.proofs.lemmas.Cmp.{nat_cmp_total, nat_eq_equiv}
use Rattle.std.proofs.lemmas.Map.Keys.{IsDistinct-from_sorted, IsDistinct-head, IsDistinct-tail, sorted_from_strictly_increasing}
use Rattle.std.proofs.lemmas.Map.Made.{distinct_count-le, length-from_keys, is_member-Decides, Contains-tail}
use Rattle.std.specs.List.{IsDistinct, AllByRecursion}
use Rattle.std.specs.List.Sorted.{IsStrictlySortedBy, IsStrictlyIncreasing}
use Rattle.std.specs.Ordering.{eq_by_cmp}
use Rattle.std.specs.Cmp.{unsigned_tied}
use Rattle.std.specs.Set.{is_member, unique_keys, distinct_count}
use Rattle.hg_defs.specs.Sums.{total, sum_below}
use Rattle.hg_defs.specs.Sorting.{set_of}
use Rattle.hg_defs.specs.Partition.{block_of}
use Rattle.hg_defs.specs.Pins.{pins_in, present}
use Rattle.hg_defs.specs.Cost.{connectivity}
use Rattle.hg_defs.proofs.SumLaws.{total-map, sum_below-same, sum_below-change, sum_below-zero, sum_below-add}
use Rattle.hg_defs.proofs.SumLaws.{sum_below-weight_if, weight_if, weight_if-same, weight_if-other, weight_if-le}
use Rattle.hg_defs.proofs.SortLaws.{Contains_head, Contains_later, Contains-cons_cases, Contains-nil}
use Rattle.hg_defs.proofs.SortLaws.{strict-set_of, is_member-set_of, set_of-same, nat_cmp_exact}

-- ---- members of a mapped list

pub Contains-map : {A B : Type 0} (f : A → B) (xs : List A) (x : A) → Contains xs x → Contains (map f xs) (f x)
Contains-map f [] x h = absurd (Contains-nil x h)
Contains-map f (y ∷ xs) x h = by (Contains-cons_cases y xs x h) (Contains-map f xs x)
  where
    by : (y ≡ x) ⊎ Contains xs x → (Contains xs x → Contains (map f xs) (f x)) → Contains (f y ∷ map f xs) (f x)
    by (inl e) r = subst (λ z. Contains (f y ∷ map f xs) (f z)) e (Contains_head (f y) (map f xs))
    by (inr c) r = Contains_later (f y) (map f xs) (f x) (r c)

pub Contains-from_map : {A B : Type 0} (f : A → B) (xs : List A) (y : B) → Contains (map f xs) y → (x : A) × Contains xs x × (f x ≡ y)
Contains-from_map f [] y h = absurd (Contains-nil y h)
Contains-from_map {A} f (x ∷ xs) y h = by (Contains-cons_cases (f x) (map f xs) y h) (Contains-from_map f xs y)
  where
    by : (f x ≡ y) ⊎ Contains (map f xs) y → (Contains (map f xs) y → (z : A) × Contains xs z × (f z ≡ y)) → (z : A) × Contains (x ∷ xs) z × (f z ≡ y)
    by (inl e) r = (x, Contains_head x xs, e)
    by (inr c) r = let s = r c in (s.0, Contains_later x xs s.0 s.1, s.2)

-- ---- how many entries differ

-- it is the size of the set
pub distinct_count-set_of : (xs : List ℕ) → distinct_count nat_eq xs ≡ length (set_of nat_cmp xs)
distinct_count-set_of xs =
    sym (length-from_keys nat_eq_equiv (set_of nat_cmp xs) xs
    (subst (λ (E : ℕ → ℕ → Bool). IsDistinct E (set_of nat_cmp xs)) same (IsDistinct-from_sorted nat_cmp (set_of nat_cmp xs)
    (strict-set_of nat_cmp_total xs)))
    (λ q. subst (λ (E : ℕ → ℕ → Bool). is_member E (set_of nat_cmp xs) q ≡ is_member E xs q) same (is_member-set_of nat_cmp_total xs q)))
  where
    same : eq_by_cmp nat_cmp ≡ nat_eq
    same = λ i x y. unsigned_tied x y i

-- it depends on the members alone
pub distinct_count-same : (xs ys : List ℕ) → ((q : ℕ) → Contains xs q → Contains ys q) → ((q : ℕ) → Contains ys q → Contains xs q) →
    distinct_count nat_eq xs ≡ distinct_count nat_eq ys
distinct_count-same xs ys f g = distinct_count-set_of xs ∙ ap length (set_of-same nat_cmp_total nat_cmp_exact xs ys f g) ∙ sym (distinct_count-set_of ys)

pub distinct_count-map_same : {A : Type 0} (f : A → ℕ) (xs ys : List A) → ((q : A) → Contains xs q → Contains ys q) →
    ((q : A) → Contains ys q → Contains xs q) → distinct_count nat_eq (map f xs) ≡ distinct_count nat_eq (map f ys)
distinct_count-map_same {A} f xs ys to from = distinct_count-same (map f xs) (map f ys) (pass xs ys to) (pass ys xs from)
  where
    pass : (us vs : List A) → ((q : A) → Contains us q → Contains vs q) → (b : ℕ) → Contains (map f us) b → Contains (map f vs) b
    pass us vs go b c = let s = Contains-from_map f us b c in subst (Contains (map f vs)) s.2 (Contains-map f vs s.0 (go s.0 s.1))

pub distinct_count-positive : (x : ℕ) (xs : List ℕ) → 0 < distinct_count nat_eq (x ∷ xs)
distinct_count-positive x [] = omega arith
distinct_count-positive x (y ∷ ys) = by (is_member nat_eq (y ∷ ys) x) (distinct_count-positive y ys)
  where
    by : (b : Bool) → 0 < distinct_count nat_eq (y ∷ ys) → 0 < length (cond b (unique_keys nat_eq (y ∷ ys)) (x ∷ unique_keys nat_eq (y ∷ ys)))
    by true h = h
    by false h = omega arith

-- no entry, and none alone
pub distinct_count-zero : (xs : List ℕ) → distinct_count nat_eq xs ≡ 0 → xs ≡ []
distinct_count-zero [] e = refl
distinct_count-zero (x ∷ xs) e = let h = distinct_count-positive x xs in absurd (omega arith)

-- ---- how often a number stands in a list

abbrev pub times_of : List ℕ → ℕ → ℕ
times_of xs b = total (λ x. weight_if x b 1) xs

pub member_times : (xs : List ℕ) (b : ℕ) → is_member nat_eq xs b ≡ nat_lt 0 (times_of xs b)
member_times [] b = refl
member_times (x ∷ xs) b = ap (λ t. t || is_member nat_eq xs b) (nat_eq_equiv.symm b x) ∙ by (nat_eq x b) (member_times xs b)
  where
    by : (t : Bool) → is_member nat_eq xs b ≡ nat_lt 0 (times_of xs b) → (t || is_member nat_eq xs b) ≡ nat_lt 0 ((if t then 1 else 0) + times_of xs b)
    by true e = sym (lt-ltb 0 (1 + times_of xs b) (omega arith))
    by false e = e ∙ ap (nat_lt 0) (omega arith)

pub times_of-absent : (xs : List ℕ) (b : ℕ) → (Contains xs b → ⊥) → times_of xs b ≡ 0
times_of-absent xs b h =
    let e = sym (member_times xs b) ∙ false_from_ne_true (is_member nat_eq xs b) (λ t. h ((is_member-Decides Decides-eqb xs b).0 t)) in
    let l = ltb-false 0 (times_of xs b) e in
    omega arith

pub times_of-positive : (xs : List ℕ) (b : ℕ) → Contains xs b → 0 < times_of xs b
times_of-positive xs b h = ltb-true 0 (times_of xs b) (sym (member_times xs b) ∙ (is_member-Decides Decides-eqb xs b).1 h)

pub Contains-from_times : (xs : List ℕ) (b : ℕ) → 0 < times_of xs b → Contains xs b
Contains-from_times xs b h = (is_member-Decides Decides-eqb xs b).0 (member_times xs b ∙ lt-ltb 0 (times_of xs b) h)

-- an element of a strictly rising list stands there once
pub times_of-once : (xs : List ℕ) (b : ℕ) → IsStrictlyIncreasing xs → Contains xs b → times_of xs b ≡ 1
times_of-once xs b h c = once xs (IsDistinct-from_strict xs (sorted_from_strictly_increasing xs h)) c
  where
    IsDistinct-from_strict : (ys : List ℕ) → IsStrictlySortedBy nat_cmp ys → IsDistinct nat_eq ys
    IsDistinct-from_strict ys k = subst (λ (E : ℕ → ℕ → Bool). IsDistinct E ys) (λ i x y. unsigned_tied x y i) (IsDistinct-from_sorted nat_cmp ys k)

    once : (ys : List ℕ) → IsDistinct nat_eq ys → Contains ys b → times_of ys b ≡ 1
    once [] k d = absurd (Contains-nil b d)
    once (y ∷ ys) k d = by (nat_eq y b) refl (once ys (IsDistinct-tail nat_eq y ys k))
      where
        none : (zs : List ℕ) → AllByRecursion (λ z. nat_eq y z ≡ false) zs → y ≡ b → times_of zs b ≡ 0
        none [] a e = refl
        none (z ∷ zs) a e =
            let f = weight_if-other z b 1 (λ g. eqb-false y z a.0 (e ∙ sym g)) in
            let r = none zs a.1 e in
            omega arith

        by : (t : Bool) → nat_eq y b ≡ t → (Contains ys b → times_of ys b ≡ 1) → (if t then 1 else 0) + times_of ys b ≡ 1
        by true e r = let n = none ys (IsDistinct-head nat_eq y ys k) (eqb-true y b e) in omega arith
        by false e r = let n = r (Contains-tail y ys b (eqb-false y b e) d) in omega arith

-- ---- the blocks with a pin

pub present-zero : (n : ℕ) → n ≡ 0 → present n ≡ 0
present-zero n e = ap present e

pub present-positive : (n : ℕ) → 0 < n → present n ≡ 1
present-positive n h = ap (λ t. if t then 1 else 0) (lt-ltb 0 n h)

pub present-le : (n : ℕ) → present n ≤ 1
present-le n = by (nat_lt 0 n)
  where
    by : (t : Bool) → (if t then 1 else 0) ≤ 1
    by true = omega arith
    by false = omega arith

-- the number of distinct entries is the number of those below k that stand in the list
pub distinct_count-sum : (k : ℕ) (xs : List ℕ) → All (λ b. b < k) xs → distinct_count nat_eq xs ≡ sum_below (λ b. present (times_of xs b)) k
distinct_count-sum k [] h = sym (sum_below-zero (λ b. present 0) k (λ i l. refl))
distinct_count-sum k (x ∷ xs) h = by (is_member nat_eq xs x) refl (distinct_count-sum k xs (All-tail (λ b. b < k) x xs h))
  where
    l : x < k
    l = All-head (λ b. b < k) x xs h

    other : (b : ℕ) → b ≢ x → present (times_of (x ∷ xs) b) ≡ present (times_of xs b)
    other b q = let z = weight_if-other x b 1 (λ e. q (sym e)) in ap present (omega arith)

    by : (t : Bool) → is_member nat_eq xs x ≡ t → distinct_count nat_eq xs ≡ sum_below (λ b. present (times_of xs b)) k →
        length (cond t (unique_keys nat_eq xs) (x ∷ unique_keys nat_eq xs)) ≡ sum_below (λ b. present (times_of (x ∷ xs) b)) k
    by true e r =
        let c = ltb-true 0 (times_of xs x) (sym (member_times xs x) ∙ e) in
        let s = sum_below-change (λ b. present (times_of (x ∷ xs) b)) (λ b. present (times_of xs b)) k x l (λ j m q. other j q) in
        let z = weight_if-same x x 1 refl in
        let a = present-positive (times_of (x ∷ xs) x) (omega arith) in
        let b = present-positive (times_of xs x) c in
        omega arith
    by false e r =
        let c = ltb-false 0 (times_of xs x) (sym (member_times xs x) ∙ e) in
        let s = sum_below-change (λ b. present (times_of (x ∷ xs) b)) (λ b. present (times_of xs b)) k x l (λ j m q. other j q) in
        let z = weight_if-same x x 1 refl in
        let a = present-positive (times_of (x ∷ xs) x) (omega arith) in
        let b = present-zero (times_of xs x) (omega arith) in
        omega arith

abbrev one_if : Bool → ℕ
one_if t = if t then 1 else 0

-- one count raised by one: a block is touched anew where its count was 0
pub present-raise : (f g : ℕ → ℕ) (k b : ℕ) → b < k → g b ≡ f b + 1 → ((c : ℕ) → c < k → c ≢ b → g c ≡ f c) → sum_below (λ c. present (g c)) k ≡ sum_below
    (λ c. present (f c)) k + weight_if (f b) 0 1
present-raise f g k b l e h =
    let s = sum_below-change (λ c. present (g c)) (λ c. present (f c)) k b l (λ j m q. ap present (h j m q)) in
    let a = present-positive (g b) (omega arith) in
    by (nat_eq (f b) 0) refl a s
  where
    by : (t : Bool) → nat_eq (f b) 0 ≡ t → present (g b) ≡ 1 → sum_below (λ c. present (g c)) k + present (f b) ≡ sum_below (λ c. present (f c)) k + present
        (g b) → sum_below (λ c. present (g c)) k ≡ sum_below (λ c. present (f c)) k + (if t then 1 else 0)
    by true r a s = let z = present-zero (f b) (eqb-true (f b) 0 r) in omega arith
    by false r a s = let n = eqb-false (f b) 0 r in let z = present-positive (f b) (grind arith) in omega arith

-- one count lowered by one: a block isn't touched any more where its count was 1
pub present-lower : (f g : ℕ → ℕ) (k a : ℕ) → a < k → g a + 1 ≡ f a → ((c : ℕ) → c < k → c ≢ a → g c ≡ f c) → sum_below (λ c. present (g c)) k + weight_if
    (f a) 1 1 ≡ sum_below (λ c. present (f c)) k
present-lower f g k a l e h =
    let r = present-raise g f k a l (sym e) (λ c m q. sym (h c m q)) in
    let same : weight_if (f a) 1 1 ≡ weight_if (g a) 0 1 = by (nat_eq (f a) 1) (nat_eq (g a) 0) refl refl in
    omega arith
  where
    by : (s t : Bool) → nat_eq (f a) 1 ≡ s → nat_eq (g a) 0 ≡ t → one_if s ≡ one_if t
    by true true p q = refl
    by true false p q = let x = eqb-true (f a) 1 p in absurd (eqb-false (g a) 0 q (omega arith))
    by false true p q = let x = eqb-true (g a) 0 q in absurd (eqb-false (f a) 1 p (omega arith))
    by false false p q = refl

-- ---- the blocks that the pins of a net touch

pub pins_in-times : (p pins : List ℕ) (b : ℕ) → times_of (map (block_of p) pins) b ≡ pins_in p pins b
pins_in-times p pins b = total-map (λ x. weight_if x b 1) (block_of p) pins

pub connectivity-sum : (k : ℕ) (p pins : List ℕ) → All (λ v. block_of p v < k) pins → connectivity p pins ≡ sum_below (λ b. present (pins_in p pins b)) k
connectivity-sum k p pins h =
    distinct_count-sum k (map (block_of p) pins) (All-map (λ b. b < k) (block_of p) pins h)
    ∙ sum_below-same (λ b. present (times_of (map (block_of p) pins) b)) (λ b. present (pins_in p pins b)) k (λ b l. ap present (pins_in-times p pins b))

pub connectivity-le : (p pins : List ℕ) → connectivity p pins ≤ length pins
connectivity-le p pins = let a = distinct_count-le nat_eq (map (block_of p) pins) in let b = length-map pins (block_of p) in omega arith

pub connectivity-positive : (p : List ℕ) (v : ℕ) (pins : List ℕ) → 0 < connectivity p (v ∷ pins)
connectivity-positive p v pins = distinct_count-positive (block_of p v) (map (block_of p) pins)

-- the pins' blocks are below k where those of all vertices are
pub blocks_of_pins : (k : ℕ) (p pins : List ℕ) → All (λ b. b < k) p → All (λ v. v < length p) pins → All (λ v. block_of p v < k) pins
blocks_of_pins k p pins h = All-weaker (λ v. v < length p) (λ v. block_of p v < k) (λ v l. h v 0 l) pins

pub pins_in-le : (p pins : List ℕ) (b : ℕ) → pins_in p pins b ≤ length pins
pins_in-le p [] b = omega arith
pins_in-le p (v ∷ pins) b = let a = weight_if-le (block_of p v) b 1 in let e = pins_in-le p pins b in omega arith

-- the pins of all blocks are all pins
pub pins_in-sum : (k : ℕ) (p pins : List ℕ) → All (λ v. block_of p v < k) pins → sum_below (pins_in p pins) k ≡ length pins
pins_in-sum k p [] h = sum_below-zero (pins_in p []) k (λ i l. refl)
pins_in-sum k p (v ∷ pins) h =
    let e = pins_in-sum k p pins (All-tail (λ u. block_of p u < k) v pins h) in
    let a = sum_below-add (λ b. weight_if (block_of p v) b 1) (pins_in p pins) k in
    let s = sum_below-weight_if (block_of p v) 1 k (All-head (λ u. block_of p u < k) v pins h) in
    omega arith

-- one vertex moved
pub pins_in-set : (p pins : List ℕ) (v b c : ℕ) → v < length p → pins_in (slice_set p v b) pins c + times_of pins v * weight_if (block_of p v) c 1 ≡
    pins_in p
    pins c + times_of pins v * weight_if b c 1
pins_in-set p [] v b c l = omega arith
pins_in-set p (u ∷ pins) v b c l = by (nat_eq u v) refl (pins_in-set p pins v b c l)
  where
    by : (t : Bool) → nat_eq u v ≡ t → pins_in (slice_set p v b) pins c + times_of pins v * weight_if (block_of p v) c 1 ≡ pins_in p pins c + times_of pins
        v *
        weight_if b c 1
        → pins_in (slice_set p v b) (u ∷ pins) c + ((if t then 1 else 0) + times_of pins v) * weight_if (block_of p v) c 1 ≡ pins_in p (u ∷ pins) c +
        ((if t then 1 else 0) + times_of pins v) * weight_if b c 1
    by true e r =
        let same = eqb-true u v e in
        let new : weight_if (block_of (slice_set p v b) u) c 1 ≡ weight_if b c 1 = ap (λ x. weight_if x c 1) (ap (block_of (slice_set p v b)) same ∙
        get_or-set_same p v b 0 l) in
        let old : weight_if (block_of p u) c 1 ≡ weight_if (block_of p v) c 1 = ap (λ x. weight_if (block_of p x) c 1) same in
        omega arith
    by false e r =
        let new : weight_if (block_of (slice_set p v b) u) c 1 ≡ weight_if (block_of p u) c 1 = ap (λ x. weight_if x c 1)
        (get_or-set_other p v u b 0 (eqb-false u v e)) in
        omega arith

max_of : List ℕ → ℕ
max_of [] = 0
max_of (x ∷ xs) = max x (max_of xs)

max_of-above : (xs : List ℕ) → All (λ x. x < suc (max_of xs)) xs
unfolding max_of
max_of-above [] = All-nil (λ x. x < suc (max_of []))
max_of-above (x ∷ xs) = All-cons (λ y. y < suc (max x (max_of xs))) x xs (omega arith)
    (All-weaker (λ y. y < suc (max_of xs)) (λ y. y < suc (max x (max_of xs))) (λ y l. omega arith) xs (max_of-above xs))

-- the block of a number past the list is 0
block_of_below : (k : ℕ) (p : List ℕ) → 0 < k → All (λ b. b < k) p → (v : ℕ) → block_of p v < k
block_of_below k [] z h v = z
block_of_below k (x ∷ p) z h zero = All-head (λ b. b < k) x p h
block_of_below k (x ∷ p) z h (suc v) = block_of_below k p z (All-tail (λ b. b < k) x p h) v

module _ (p pins : List ℕ) (v b : ℕ) (inside : v < length p) where
  -- where v is no pin, nothing changes
  pub pins_in-set_apart : (Contains pins v → ⊥) → (c : ℕ) → pins_in (slice_set p v b) pins c ≡ pins_in p pins c
  pins_in-set_apart h c =
      let t = times_of-absent pins v h in
      let e = subst (λ n. pins_in (slice_set p v b) pins c + n * weight_if (block_of p v) c 1 ≡ pins_in p pins c + n * weight_if b c 1) t
      (pins_in-set p pins v b c inside) in
      omega arith

  pub connectivity-set_apart : (Contains pins v → ⊥) → connectivity (slice_set p v b) pins ≡ connectivity p pins
  connectivity-set_apart h = ap (distinct_count nat_eq) (same pins h)
    where
      same : (us : List ℕ) → (Contains us v → ⊥) → map (block_of (slice_set p v b)) us ≡ map (block_of p) us
      same [] n = refl
      same (u ∷ us) n =
          ap₂ (λ (x : ℕ) (xs : List ℕ). x ∷ xs) (get_or-set_other p v u b 0 (λ e. n (subst (Contains (u ∷ us)) e (Contains_head u us))))
          (same us (λ c. n (Contains_later u us v c)))

  module _ (rising : IsStrictlyIncreasing pins) (pin : Contains pins v) where
    changed : (c : ℕ) → pins_in (slice_set p v b) pins c + weight_if (block_of p v) c 1 ≡ pins_in p pins c + weight_if b c 1
    changed c =
        let t = times_of-once pins v rising pin in
        let e = subst (λ n. pins_in (slice_set p v b) pins c + n * weight_if (block_of p v) c 1 ≡ pins_in p pins c + n * weight_if b c 1) t
        (pins_in-set p pins v b c inside) in
        omega arith

    -- the old block loses a pin, the new one gains it, the others keep theirs
    pub pins_in-set_old : b ≢ block_of p v → pins_in (slice_set p v b) pins (block_of p v) + 1 ≡ pins_in p pins (block_of p v)
    pins_in-set_old q =
        let e = changed (block_of p v) in
        let x = weight_if-same (block_of p v) (block_of p v) 1 refl in
        let y = weight_if-other b (block_of p v) 1 q in
        omega arith

    pub pins_in-set_new : b ≢ block_of p v → pins_in (slice_set p v b) pins b ≡ pins_in p pins b + 1
    pins_in-set_new q =
        let e = changed b in
        let x = weight_if-other (block_of p v) b 1 (λ r. q (sym r)) in
        let y = weight_if-same b b 1 refl in
        omega arith

    pub pins_in-set_other : (c : ℕ) → c ≢ block_of p v → c ≢ b → pins_in (slice_set p v b) pins c ≡ pins_in p pins c
    pins_in-set_other c q r =
        let e = changed c in
        let x = weight_if-other (block_of p v) c 1 (λ s. q (sym s)) in
        let y = weight_if-other b c 1 (λ s. r (sym s)) in
        omega arith

    -- the last pin that leaves a block lowers the connectivity by one, the first that comes to a block raises it by one
    pub connectivity-set : b ≢ block_of p v → connectivity (slice_set p v b) pins + weight_if (pins_in p pins (block_of p v)) 1 1 ≡ connectivity p pins +
        weight_if (pins_in p pins b) 0 1
    connectivity-set q =
        let high = max_of-above (b ∷ p) in
        let low = All-tail (λ c. c < suc (max_of (b ∷ p))) b p high in
        let to = All-head (λ c. c < suc (max_of (b ∷ p))) b p high in
        counted (suc (max_of (b ∷ p))) (omega arith) low to
      where
        counted : (k : ℕ) → 0 < k → All (λ c. c < k) p → b < k → connectivity (slice_set p v b) pins + weight_if (pins_in p pins (block_of p v)) 1 1 ≡
            connectivity p pins + weight_if (pins_in p pins b) 0 1
        counted k z low to =
            let before = connectivity-sum k p pins (λ i d l. block_of_below k p z low (get_or pins i d)) in
            let after = connectivity-sum k (slice_set p v b) pins (λ i d l. block_of_below k (slice_set p v b) z (All-set (λ c. c < k) p v b to low)
            (get_or pins i d)) in
            let lowered = present-lower (pins_in p pins) between k (block_of p v) (block_of_below k p z low v) left kept in
            let raised = present-raise between (pins_in (slice_set p v b) pins) k b to joined_to others in
            let count : between b ≡ pins_in p pins b = at_new in
            let same = ap (λ n. weight_if n 0 1) count in
            omega arith
          where
            -- the counts after v left its block, and before it came to the new one
            between : ℕ → ℕ
            between c = if nat_eq c b then pins_in p pins b else pins_in (slice_set p v b) pins c

            at_new : between b ≡ pins_in p pins b
            at_new = ap (λ (t : Bool). if t then pins_in p pins b else pins_in (slice_set p v b) pins b) (eq-eqb b b refl)

            elsewhere : (c : ℕ) → c ≢ b → between c ≡ pins_in (slice_set p v b) pins c
            elsewhere c r = ap (λ (t : Bool). if t then pins_in p pins b else pins_in (slice_set p v b) pins c) (ne_eqb c b r)

            left : between (block_of p v) + 1 ≡ pins_in p pins (block_of p v)
            left = ap (λ n. n + 1) (elsewhere (block_of p v) (λ e. q (sym e))) ∙ pins_in-set_old q

            kept : (c : ℕ) → c < k → c ≢ block_of p v → between c ≡ pins_in p pins c
            kept c l r = by (nat_eq c b) refl
              where
                by : (t : Bool) → nat_eq c b ≡ t → (if t then pins_in p pins b else pins_in (slice_set p v b) pins c) ≡ pins_in p pins c
                by true e = ap (pins_in p pins) (sym (eqb-true c b e))
                by false e = pins_in-set_other c r (eqb-false c b e)

            joined_to : pins_in (slice_set p v b) pins b ≡ between b + 1
            joined_to = pins_in-set_new q ∙ ap (λ n. n + 1) (sym at_new)

            others : (c : ℕ) → c < k → c ≢ b → pins_in (slice_set p v b) pins c ≡ between c
            others c l r = sym (elsewhere c r)
