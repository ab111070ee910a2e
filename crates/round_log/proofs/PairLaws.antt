-- The laws of the pairs of blocks.
use Rattle.std.proofs.Common.{◌≡◌, ◌⊎◌, inl, inr, ℕ, zero, suc, ◌+◌, ◌-◌, ◌*◌, ◌<◌, ◌≤◌, List, [], ◌∷◌, ◌++◌, map, length, get_or}
use Rattle.std.proofs.Common.{All, AllPairs, Contains, refl, sym, ap, subst, ◌∙◌, arith, length-append}
use Rattle.std.specs.List.{range_with_len, flat_map}
use Rattle.std.proofs.lemmas.Bool.{cases_eq}
use Rattle.std.proofs.lemmas.List.Concat.{flat_map-cons}
use Rattle.std.proofs.lemmas.List.FromFn.{length-range_with_len, get_or-range_with_len, length-map-range_with_len, get_or-map-range_with_len}
use Rattle.std.proofs.lemmas.List.Elements.{All-nil, All-head, All-tail, All-append, All-map, All-weaker}
use Rattle.std.proofs.lemmas.List.Elements.{All-contains, Contains-append_left, Contains-append_right}
use Rattle.std.proofs.lemmas.List.Kept.{AllPairs-cons}
use Rattle.hg_defs.proofs.DistinctLaws.{Contains-map}
use Rattle.round_log.specs.Passes.{block_pairs}
use Rattle.round_log.specs.RegionLaws.{PairsAreOfBlocks, PairsRise, PairsAreHalf}

-- the pairs of which a block is the first
abbrev pairs_of : ℕ → ℕ → List (ℕ × ℕ)
pairs_of k a = map (λ i. (a, a + 1 + i)) (range_with_len 0 (k - (a + 1)))

-- those of n blocks from a on
abbrev pairs_from : ℕ → ℕ → ℕ → List (ℕ × ℕ)
pairs_from k a n = flat_map (pairs_of k) (range_with_len a n)

pairs_from-suc : (k a n : ℕ) → pairs_from k a (suc n) ≡ pairs_of k a ++ pairs_from k (a + 1) n
pairs_from-suc k a n = flat_map-cons (pairs_of k) a (range_with_len (a + 1) n)

-- two blocks below k, the lower one first
abbrev IsRising : ℕ → ℕ × ℕ → Type 0
IsRising k pair = (pair.0 < pair.1) × (pair.1 < k)

pairs_of-rising : (k a : ℕ) → All (λ pair. IsRising k pair × (pair.0 ≡ a)) (pairs_of k a)
pairs_of-rising k a =
    All-map (λ pair. IsRising k pair × (pair.0 ≡ a)) (λ (i : ℕ). (a, a + 1 + i)) (range_with_len 0 (k - (a + 1)))
    (λ i d low. at (get_or (range_with_len 0 (k - (a + 1))) i d) (let n = length-range_with_len 0 (k - (a + 1)) in let e = get_or-range_with_len 0
    (k - (a + 1)) i d (omega arith) in omega arith))
  where
    at : (i : ℕ) → i < k - (a + 1) → IsRising k (a, a + 1 + i) × (a ≡ a)
    at i low = ((omega arith, omega arith), refl)

pairs_from-rising : (k a n : ℕ) → All (λ pair. IsRising k pair × (a ≤ pair.0)) (pairs_from k a n)
pairs_from-rising k a zero = All-nil (λ pair. IsRising k pair × (a ≤ pair.0))
pairs_from-rising k a (suc n) =
    subst (All (λ pair. IsRising k pair × (a ≤ pair.0))) (sym (pairs_from-suc k a n))
    (All-append (λ pair. IsRising k pair × (a ≤ pair.0)) (pairs_of k a) (pairs_from k (a + 1) n)
    (All-weaker (λ pair. IsRising k pair × (pair.0 ≡ a)) (λ pair. IsRising k pair × (a ≤ pair.0)) (λ pair x. (x.0, (let e = x.1 in omega arith)))
    (pairs_of k a) (pairs_of-rising k a))
    (All-weaker (λ pair. IsRising k pair × (a + 1 ≤ pair.0)) (λ pair. IsRising k pair × (a ≤ pair.0)) (λ pair x. (x.0, (let e = x.1 in omega arith)))
    (pairs_from k (a + 1) n) (pairs_from-rising k (a + 1) n)))

pub pairs_within : (k : ℕ) → All (λ pair. (pair.0 < k) × (pair.1 < k)) (block_pairs k)
pairs_within k = All-weaker (λ pair. IsRising k pair × (0 ≤ pair.0)) (λ pair. (pair.0 < k) × (pair.1 < k))
    (λ pair x. ((let a = x.0.0 in let b = x.0.1 in omega arith), x.0.1)) (pairs_from k 0 k) (pairs_from-rising k 0 k)

-- ---- each pair

Contains_range_of : (a n v : ℕ) → a ≤ v → v < a + n → Contains (range_with_len a n) v
Contains_range_of a n v low high =
    let e : a + (v - a) ≡ v = omega arith in
    (v - a, (let m = length-range_with_len a n in omega arith), get_or-range_with_len a n (v - a) v (omega arith) ∙ e)

pairs_of-all : (k a b : ℕ) → a < b → b < k → Contains (pairs_of k a) (a, b)
pairs_of-all k a b low high =
    let e : a + 1 + (b - (a + 1)) ≡ b = omega arith in
    subst (λ c. Contains (pairs_of k a) (a, c)) e (Contains-map (λ (i : ℕ). (a, a + 1 + i)) (range_with_len 0 (k - (a + 1))) (b - (a + 1))
    (Contains_range_of 0 (k - (a + 1)) (b - (a + 1)) (omega arith) (omega arith)))

pairs_from-all : (k a n x y : ℕ) → a ≤ x → x < a + n → x < y → y < k → Contains (pairs_from k a n) (x, y)
pairs_from-all k a zero x y low high rise below = absurd (omega arith)
pairs_from-all k a (suc n) x y low high rise below = subst (λ ps. Contains ps (x, y)) (sym (pairs_from-suc k a n))
    (by (cases_eq a x) (pairs_from-all k (a + 1) n x y))
  where
    by : (a ≡ x) ⊎ (a ≡ x → ⊥) → (a + 1 ≤ x → x < a + 1 + n → x < y → y < k → Contains (pairs_from k (a + 1) n) (x, y)) →
        Contains (pairs_of k a ++ pairs_from k (a + 1) n) (x, y)
    by (inl e) rest = Contains-append_left (pairs_of k a) (pairs_from k (a + 1) n) (x, y) (subst (λ c. Contains (pairs_of k c) (x, y)) (sym e)
        (pairs_of-all k x y rise below))
    by (inr d) rest = Contains-append_right (pairs_of k a) (pairs_from k (a + 1) n) (x, y) (rest (omega arith) (omega arith) rise below)

pub pairs_are_of_blocks : PairsAreOfBlocks
pairs_are_of_blocks k pair = (
  λ c. (All-contains (λ q. IsRising k q × (0 ≤ q.0)) (pairs_from k 0 k) pair (pairs_from-rising k 0 k) c).0,
  λ r. pairs_from-all k 0 k pair.0 pair.1 (omega arith) (let a = r.0 in let b = r.1 in omega arith) r.0 r.1,
)

-- ---- in rising order

abbrev GoesBefore : ℕ × ℕ → ℕ × ℕ → Type 0
GoesBefore a b = (a.0 < b.0) ⊎ ((a.0 ≡ b.0) × (a.1 < b.1))

pairs_append : {A : Type 0} (R : A → A → Type 0) (xs ys : List A) → AllPairs R xs → AllPairs R ys → All (λ x. All (R x) ys) xs → AllPairs R (xs ++ ys)
pairs_append R [] ys a b c = b
pairs_append R (x ∷ xs) ys a b c =
    AllPairs-cons R x (xs ++ ys)
    (All-append (R x) xs ys (λ i d low. a 0 (suc i) d (omega arith) (omega arith)) (All-head (λ z. All (R z) ys) x xs c))
    (pairs_append R xs ys (λ i j d l m. a (suc i) (suc j) d (omega arith) (omega arith)) b (All-tail (λ z. All (R z) ys) x xs c))

pairs_of-rise : (k a : ℕ) → AllPairs GoesBefore (pairs_of k a)
pairs_of-rise k a i j d l m =
    let n : length (pairs_of k a) ≡ k - (a + 1) = length-map-range_with_len (λ (i : ℕ). (a, a + 1 + i)) 0 (k - (a + 1)) in
    let x = get_or-map-range_with_len (λ (i : ℕ). (a, a + 1 + i)) 0 (k - (a + 1)) i i d (omega arith) (omega arith) in
    let y = get_or-map-range_with_len (λ (i : ℕ). (a, a + 1 + i)) 0 (k - (a + 1)) j j d (omega arith) (omega arith) in
    subst (λ q. GoesBefore q (get_or (pairs_of k a) j d)) (sym x) (subst (GoesBefore (a, a + 1 + i)) (sym y) (inr (refl, omega arith)))

pairs_from-rise : (k a n : ℕ) → AllPairs GoesBefore (pairs_from k a n)
pairs_from-rise k a zero = λ i j d l m. absurd (omega arith)
pairs_from-rise k a (suc n) =
    subst (AllPairs GoesBefore) (sym (pairs_from-suc k a n))
    (pairs_append GoesBefore (pairs_of k a) (pairs_from k (a + 1) n) (pairs_of-rise k a) (pairs_from-rise k (a + 1) n)
    (All-weaker (λ pair. IsRising k pair × (pair.0 ≡ a)) (λ pair. All (GoesBefore pair) (pairs_from k (a + 1) n))
    (λ pair x. All-weaker (λ q. IsRising k q × (a + 1 ≤ q.0)) (GoesBefore pair) (λ q y. inl (let e = x.1 in let f = y.1 in omega arith))
    (pairs_from k (a + 1) n) (pairs_from-rising k (a + 1) n))
    (pairs_of k a) (pairs_of-rising k a)))

pub pairs_rise : PairsRise
pairs_rise k = pairs_from-rise k 0 k

-- ---- how many

pairs_from-length : (k a n : ℕ) → a + n ≡ k → 2 * length (pairs_from k a n) ≡ n * (n - 1)
pairs_from-length k a zero e = refl
pairs_from-length k a (suc n) e =
    let all = ap length (pairs_from-suc k a n) in
    let parts = length-append (pairs_of k a) (pairs_from k (a + 1) n) in
    let here : length (pairs_of k a) ≡ k - (a + 1) = length-map-range_with_len (λ (i : ℕ). (a, a + 1 + i)) 0 (k - (a + 1)) in
    let rest = pairs_from-length k (a + 1) n (omega arith) in
    counted n (length (pairs_from k a (suc n))) (length (pairs_of k a)) (length (pairs_from k (a + 1) n)) (omega arith) (omega arith) rest
  where
    counted : (n all here rest : ℕ) → all ≡ here + rest → here ≡ n → 2 * rest ≡ n * (n - 1) → 2 * all ≡ suc n * (suc n - 1)
    counted zero all here rest e f g = omega arith
    counted (suc m) all here rest e f g =
        let one : suc m - 1 ≡ m = omega arith in
        let two : suc (suc m) - 1 ≡ suc m = omega arith in
        let below : 2 * rest ≡ suc m * m = subst (λ x. 2 * rest ≡ suc m * x) one g in
        subst (λ x. 2 * all ≡ suc (suc m) * x) (sym two) (product all m (omega arith))
      where
        product : (all m : ℕ) → 2 * all ≡ 2 * suc m + suc m * m → 2 * all ≡ suc (suc m) * suc m
        product all m h = omega arith

pub pairs_are_half : PairsAreHalf
pairs_are_half k = pairs_from-length k 0 k (omega arith)
