-- The laws of clusterings by roots, numbered by rising root.
use Rattle.std.proofs.Common.{◌≡◌, ◌≢◌, ◌⊎◌, inl, inr, ℕ, zero, suc, ◌+◌, ◌<◌, ◌≤◌, Bool, true, false, cond, max, nat_eq, nat_lt, if◌then◌else◌, List, []}
use Rattle.std.proofs.Common.{◌∷◌, map, length, get_or, filter, All, Contains, refl, sym, ap, subst, subst₂, ◌∙◌, arith, Less, nat_cmp}
use Rattle.std.specs.Ordering.{MatchOrdering}
use Rattle.std.specs.List.{range_with_len}
use Rattle.std.specs.List.Sorted.{IsStrictlySortedBy, IsStrictlyIncreasing}
use Rattle.std.proofs.lemmas.Bool.{ltb-true, lt-ltb, eqb-true, eq-eqb, ne_eqb, cases_lt, cases_eq}
use Rattle.std.proofs.lemmas.Cmp.{nat_cmp_total, ranked}
use Rattle.std.proofs.lemmas.List.{length-map, get_or-map, get_or_default}
use Rattle.std.proofs.lemmas.List.FromFn.{length-range_with_len, get_or-range_with_len}
use Rattle.std.proofs.lemmas.List.Elements.{All-head, All-tail, All-cons, All-from_recursion}
use Rattle.std.proofs.lemmas.List.Kept.{IsStrictlySortedBy-filter}
use Rattle.std.proofs.lemmas.Map.Keys.{sorted_from_strictly_increasing}
use Rattle.hg_defs.specs.Sorting.{set_of}
use Rattle.hg_defs.specs.Partition.{weight_in}
use Rattle.hg_defs.specs.Clustering.{cluster_count}
use Rattle.hg_defs.specs.Numbering.{root_number, numbered}
use Rattle.hg_defs.specs.PairingLaws.{NumbersTellRoots, NumbersRise, NumbersAreAsMany, NumberCountsRoots}
use Rattle.hg_defs.specs.PairingLaws.{NumbersAreClustering, NumberingKeepsTogether, NumberingKeepsSingles}
use Rattle.hg_defs.proofs.SortLaws.{strict-set_of, strict_pairs, same_strict, nat_cmp_exact, Contains-set_of}
use Rattle.hg_defs.proofs.SortLaws.{Contains-from_set_of, Contains_head, Contains_later, Contains-cons_cases, Contains-nil}
use Rattle.hg_defs.proofs.PlacementLaws.{Contains_filter}

-- ---- elements that pass a test

pub Contains-from_filter : {A : Type 0} (test : A → Bool) (xs : List A) (x : A) → Contains (filter test xs) x → Contains xs x × (test x ≡ true)
Contains-from_filter test [] x c = absurd (Contains-nil x c)
Contains-from_filter {A} test (y ∷ ys) x c = by (test y) refl c (Contains-from_filter test ys x)
  where
    by : (b : Bool) → test y ≡ b → Contains (cond b (y ∷ filter test ys) (filter test ys)) x →
        (Contains (filter test ys) x → Contains ys x × (test x ≡ true)) → Contains (y ∷ ys) x × (test x ≡ true)
    by true e d rest = two (Contains-cons_cases y (filter test ys) x d)
      where
        two : (y ≡ x) ⊎ Contains (filter test ys) x → Contains (y ∷ ys) x × (test x ≡ true)
        two (inl f) = (subst (Contains (y ∷ ys)) f (Contains_head y ys), subst (λ z. test z ≡ true) f e)
        two (inr d') = let r = rest d' in (Contains_later y ys x r.0, r.1)
    by false e d rest = let r = rest d in (Contains_later y ys x r.0, r.1)

pub filter_none : {A : Type 0} (test : A → Bool) (xs : List A) → All (λ x. test x ≡ false) xs → filter test xs ≡ []
filter_none test [] none = refl
filter_none test (x ∷ xs) none = by (test x) (All-head (λ y. test y ≡ false) x xs none) (filter_none test xs (All-tail (λ y. test y ≡ false) x xs none))
  where
    by : (b : Bool) → b ≡ false → filter test xs ≡ [] → cond b (x ∷ filter test xs) (filter test xs) ≡ []
    by b e r = ap (λ c. cond c (x ∷ filter test xs) (filter test xs)) e ∙ r

-- ---- ranks in a rising list

pub less_than : (x y : ℕ) → nat_cmp x y ≡ Less → x < y
less_than x y e = subst (λ r. MatchOrdering r (x < y) (x ≡ y) (y < x)) e (ranked x y (nat_cmp x y) refl)

-- as many elements are below the one at place i as stand before it
rank_at : (xs : List ℕ) → IsStrictlySortedBy nat_cmp xs → (i : ℕ) → i < length xs → length (filter (λ q. nat_lt q (get_or xs i 0)) xs) ≡ i
unfolding IsStrictlySortedBy
rank_at [] h i l = absurd (omega arith)
rank_at (x ∷ xs) h zero l =
    ap length (filter_none (λ q. nat_lt q x) (x ∷ xs) (All-cons (λ q. nat_lt q x ≡ false) x xs (not_less x x (omega arith))
    (λ j d m. not_less (get_or xs j d) x (let a = less_than x (get_or xs j d) (All-from_recursion (λ y. nat_cmp x y ≡ Less) xs h.0 j d m) in omega arith))))
  where
    not_less : (a b : ℕ) → b ≤ a → nat_lt a b ≡ false
    not_less a b m = by (nat_lt a b) refl
      where
        by : (t : Bool) → nat_lt a b ≡ t → t ≡ false
        by true e = absurd (let n = ltb-true a b e in omega arith)
        by false e = refl
rank_at (x ∷ xs) h (suc i) l =
    ap (λ b. length (cond b (x ∷ filter (λ q. nat_lt q (get_or xs i 0)) xs) (filter (λ q. nat_lt q (get_or xs i 0)) xs)))
    (lt-ltb x (get_or xs i 0) (less_than x (get_or xs i 0) (All-from_recursion (λ y. nat_cmp x y ≡ Less) xs h.0 i 0 (omega arith))))
    ∙ ap suc (rank_at xs h.1 i (omega arith))

module _ (roots : List ℕ) where
  abbrev set : List ℕ
  set = set_of nat_cmp roots

  strict : IsStrictlySortedBy nat_cmp set
  strict = strict-set_of nat_cmp_total roots

  -- the number of a root is its place in the set of roots
  record Placed (r : ℕ) : Type 0 where
    below : root_number roots r < length set
    is : get_or set (root_number roots r) 0 ≡ r

  place_of : (r : ℕ) → Contains roots r → Placed r
  place_of r c = by (Contains-set_of nat_cmp_total nat_cmp_exact roots r c)
    where
      by : Contains set r → Placed r
      by d =
          let at : get_or set d.0 0 ≡ r = get_or_default set d.0 0 r d.1 ∙ d.2 in
          let same : root_number roots r ≡ d.0 = subst (λ q. length (filter (λ x. nat_lt x q) set) ≡ d.0) at (rank_at set strict d.0 d.1) in
          record { below = (let m = d.1 in omega arith); is = ap (λ i. get_or set i 0) same ∙ at }

  -- the root of a vertex
  placed_root : (v : ℕ) → v < length roots → Placed (get_or roots v 0)
  placed_root v low = place_of (get_or roots v 0) (v, low, get_or_default roots v (get_or roots v 0) 0 low)

  pub numbered_at : (v : ℕ) → v < length roots → get_or (numbered roots) v 0 ≡ root_number roots (get_or roots v 0)
  numbered_at v low = get_or-map (root_number roots) roots v 0 0 low

  tells : (u v : ℕ) → u < length roots → v < length roots → get_or (numbered roots) u 0 ≡ get_or (numbered roots) v 0 → get_or roots u 0 ≡ get_or roots v 0
  tells u v low low' e =
      sym (placed_root u low).is ∙ ap (λ i. get_or set i 0) (sym (numbered_at u low) ∙ e ∙ numbered_at v low') ∙ (placed_root v low').is

  alike : (u v : ℕ) → u < length roots → v < length roots → get_or roots u 0 ≡ get_or roots v 0 → get_or (numbered roots) u 0 ≡ get_or (numbered roots) v 0
  alike u v low low' e = numbered_at u low ∙ ap (root_number roots) e ∙ sym (numbered_at v low')

  rises : (u v : ℕ) → u < length roots → v < length roots → get_or roots u 0 < get_or roots v 0 → get_or (numbered roots) u 0 < get_or (numbered roots) v 0
  rises u v low low' less = subst₂ (λ i j. i < j) (sym (numbered_at u low)) (sym (numbered_at v low'))
      (by (cases_lt (root_number roots (get_or roots u 0)) (root_number roots (get_or roots v 0))))
    where
      a : Placed (get_or roots u 0)
      a = placed_root u low

      b : Placed (get_or roots v 0)
      b = placed_root v low'

      by : (root_number roots (get_or roots u 0) < root_number roots (get_or roots v 0)) ⊎ (root_number roots (get_or roots v 0) ≤ root_number roots
          (get_or roots u 0)) → root_number roots (get_or roots u 0) < root_number roots (get_or roots v 0)
      by (inl m) = m
      by (inr m) = two (cases_eq (root_number roots (get_or roots u 0)) (root_number roots (get_or roots v 0)))
        where
          two : (root_number roots (get_or roots u 0) ≡ root_number roots (get_or roots v 0)) ⊎ (root_number roots (get_or roots u 0) ≢ root_number roots
              (get_or roots v 0)) → root_number roots (get_or roots u 0) < root_number roots (get_or roots v 0)
          two (inl e) = let same : get_or roots u 0 ≡ get_or roots v 0 = sym a.is ∙ ap (λ i. get_or set i 0) e ∙ b.is in absurd (omega arith)
          two (inr n) =
              let far = less_than (get_or set (root_number roots (get_or roots v 0)) 0) (get_or set (root_number roots (get_or roots u 0)) 0)
              (strict_pairs nat_cmp_total set strict (root_number roots (get_or roots v 0)) (root_number roots (get_or roots u 0)) 0 (omega arith)
              a.below) in
              let x = a.is in
              let y = b.is in
              absurd (omega arith)

  -- each place of the set of roots is the number of a vertex
  used : (i : ℕ) → i < length set → Contains (numbered roots) i
  used i low = by (Contains-from_set_of nat_cmp_total nat_cmp_exact roots (get_or set i 0) (i, low, get_or_default set i (get_or set i 0) 0 low))
    where
      by : Contains roots (get_or set i 0) → Contains (numbered roots) i
      by c = (
        c.0,
        (let n = length-map roots (root_number roots) in let m = c.1 in omega arith),
        get_or-map (root_number roots) roots c.0 0 i c.1
            ∙ ap (root_number roots) (get_or_default roots c.0 0 (get_or set i 0) c.1 ∙ c.2)
            ∙ rank_at set strict i low,
      )

  below : All (λ c. c < length set) (numbered roots)
  below i d low =
      let m : i < length roots = omega (arith, length-map roots (root_number roots), low) in
      subst (λ c. c < length set) (sym (get_or-map (root_number roots) roots i 0 d m)) (placed_root i m).below

-- ---- the count of clusters

count_above : (xs : List ℕ) (c : ℕ) → Contains xs c → c < cluster_count xs
count_above [] c h = absurd (Contains-nil c h)
count_above (x ∷ xs) c h = by (Contains-cons_cases x xs c h) (count_above xs c)
  where
    by : (x ≡ c) ⊎ Contains xs c → (Contains xs c → c < cluster_count xs) → c < max (suc x) (cluster_count xs)
    by (inl e) r = omega arith
    by (inr t) r = let m = r t in omega arith

pub count_upto : (xs : List ℕ) (n : ℕ) → All (λ c. c < n) xs → cluster_count xs ≤ n
count_upto [] n a = omega arith
count_upto (x ∷ xs) n a =
    let h = All-head (λ c. c < n) x xs a in let r = count_upto xs n (All-tail (λ c. c < n) x xs a) in omega arith

pub below_count : (xs : List ℕ) → All (λ c. c < cluster_count xs) xs
below_count xs i d low = count_above xs (get_or xs i d) (i, low, get_or_default xs i (get_or xs i d) d low)

pub numbers_are_as_many : NumbersAreAsMany
numbers_are_as_many roots = let a = count_upto (numbered roots) (length (set_of nat_cmp roots)) (below roots) in let b = low (length (set_of nat_cmp roots))
    refl in omega arith
  where
    low : (n : ℕ) → length (set_of nat_cmp roots) ≡ n → n ≤ cluster_count (numbered roots)
    low zero e = omega arith
    low (suc n) e = let a = count_above (numbered roots) n (used roots n (omega arith)) in omega arith

-- ---- the laws

pub numbers_tell_roots : NumbersTellRoots
numbers_tell_roots roots u v low low' = (tells roots u v low low', alike roots u v low low')

pub numbers_rise : NumbersRise
numbers_rise roots u v low low' less = rises roots u v low low' less

pub numbering_keeps_together : NumberingKeepsTogether
numbering_keeps_together h roots u v long = (
  λ t. record {
    first = t.first;
    second = t.second;
    different = t.different;
    cluster = tells roots u v (let a = t.first in omega arith)
        (let a = t.second in omega arith) t.cluster;
  },
  λ t. record {
    first = t.first;
    second = t.second;
    different = t.different;
    cluster = alike roots u v (let a = t.first in omega arith)
        (let a = t.second in omega arith) t.cluster;
  },
)

pub numbering_keeps_singles : NumberingKeepsSingles
numbering_keeps_singles h roots v long = (
  λ s. record { vertex = s.vertex; free = s.free; alone = λ u low e. s.alone u low (alike roots u v (omega arith) (let a = s.vertex in omega arith) e) },
  λ s. record { vertex = s.vertex; free = s.free; alone = λ u low e. s.alone u low (tells roots u v (omega arith) (let a = s.vertex in omega arith) e) },
)

weight_in-map : (f : ℕ → ℕ) (ws p : List ℕ) (b : ℕ) → All (λ x. f x ≡ f b → x ≡ b) p → weight_in ws (map f p) (f b) ≡ weight_in ws p b
weight_in-map f [] p b one = refl
weight_in-map f (w ∷ ws) [] b one = refl
weight_in-map f (w ∷ ws) (x ∷ p) b one =
    let r = weight_in-map f ws p b (All-tail (λ y. f y ≡ f b → y ≡ b) x p one) in
    let same : nat_eq (f x) (f b) ≡ nat_eq x b = by (cases_eq x b) in
    ap (λ (t : Bool). (if t then w else 0) + weight_in ws (map f p) (f b)) same ∙ ap (λ n. (if nat_eq x b then w else 0) + n) r
  where
    by : (x ≡ b) ⊎ (x ≢ b) → nat_eq (f x) (f b) ≡ nat_eq x b
    by (inl e) = eq-eqb (f x) (f b) (ap f e) ∙ sym (eq-eqb x b e)
    by (inr n) = ne_eqb (f x) (f b) (λ e. n (All-head (λ y. f y ≡ f b → y ≡ b) x p one e)) ∙ sym (ne_eqb x b n)

-- a cluster weighs the same by its number
numbered_weight : (ws roots : List ℕ) (v : ℕ) → v < length roots → weight_in ws (numbered roots) (get_or (numbered roots) v 0) ≡ weight_in ws roots
    (get_or roots v 0)
numbered_weight ws roots v low = ap (weight_in ws (numbered roots)) (numbered_at roots v low) ∙ weight_in-map (root_number roots) ws roots
    (get_or roots v 0)
    each
  where
    each : All (λ x. root_number roots x ≡ root_number roots (get_or roots v 0) → x ≡ get_or roots v 0) roots
    each i d m e =
        get_or_default roots i d 0 m
        ∙ tells roots i v m low (numbered_at roots i m ∙ ap (root_number roots) (get_or_default roots i 0 d m) ∙ e ∙ sym (numbered_at roots v low))

pub numbers_are_clustering : NumbersAreClustering
numbers_are_clustering h cap roots r = record {
  full = record {
    vertices = length-map roots (root_number roots) ∙ r.vertices;
    below = below_count (numbered roots);
    used = λ i low. used roots i (let n = numbers_are_as_many roots in omega arith);
  };
  capped = λ u v t. subst (λ n. n ≤ cap) (sym (numbered_weight h.weights roots u (let a = t.first in let n = r.vertices in omega arith)))
      (r.capped u v ((numbering_keeps_together h roots u v r.vertices).0 t));
  free = λ u v t. r.free u v ((numbering_keeps_together h roots u v r.vertices).0 t);
}

pub increasing-range : (a n : ℕ) → IsStrictlyIncreasing (range_with_len a n)
increasing-range a n k low =
    let m = length-range_with_len a n in
    let x = get_or-range_with_len a n k 0 (omega arith) in
    let y = get_or-range_with_len a n (k + 1) 0 (omega arith) in
    omega arith

pub Contains_range : (a n v : ℕ) → a ≤ v → v < a + n → Contains (range_with_len a n) v
Contains_range a zero v low high = absurd (omega arith)
Contains_range a (suc n) v low high = by (cases_eq a v) (Contains_range (a + 1) n v)
  where
    by : (a ≡ v) ⊎ (a ≢ v) → (a + 1 ≤ v → v < a + 1 + n → Contains (range_with_len (a + 1) n) v) → Contains (a ∷ range_with_len (a + 1) n) v
    by (inl e) rest = subst (Contains (a ∷ range_with_len (a + 1) n)) e (Contains_head a (range_with_len (a + 1) n))
    by (inr d) rest = Contains_later a (range_with_len (a + 1) n) v (rest (omega arith) (omega arith))

range-within : (n v : ℕ) → Contains (range_with_len 0 n) v → v < n
range-within n v c =
    let m = length-range_with_len 0 n in
    let k = c.1 in
    let x = get_or-range_with_len 0 n c.0 v (omega arith) in
    let e = c.2 in
    omega arith

pub number_counts_roots : NumberCountsRoots
number_counts_roots h cap roots r rooted low =
    ap length
    (same_strict nat_cmp_total nat_cmp_exact (filter (λ q. nat_lt q r) (set_of nat_cmp roots))
    (filter (λ v. nat_eq (get_or roots v 0) v) (range_with_len 0 r))
    (IsStrictlySortedBy-filter nat_cmp (λ q. nat_lt q r) (set_of nat_cmp roots) (strict-set_of nat_cmp_total roots))
    (IsStrictlySortedBy-filter nat_cmp (λ v. nat_eq (get_or roots v 0) v) (range_with_len 0 r) (sorted_from_strictly_increasing (range_with_len 0 r)
    (increasing-range 0 r)))
    to from)
  where
    to : (q : ℕ) → Contains (filter (λ x. nat_lt x r) (set_of nat_cmp roots)) q → Contains (filter (λ v. nat_eq (get_or roots v 0) v) (range_with_len 0 r))
        q
    to q c =
        let x = Contains-from_filter (λ x. nat_lt x r) (set_of nat_cmp roots) q c in
        let m = ltb-true q r x.1 in
        let d = Contains-from_set_of nat_cmp_total nat_cmp_exact roots q x.0 in
        let n = rooted.vertices in
        let w = d.1 in
        let at : get_or roots d.0 0 ≡ q = get_or_default roots d.0 0 q d.1 ∙ d.2 in
        let own : get_or roots q 0 ≡ q = subst (λ z. get_or roots z 0 ≡ z) at (rooted.own d.0 (omega arith)) in
        Contains_filter (λ v. nat_eq (get_or roots v 0) v) (range_with_len 0 r) q (Contains_range 0 r q (omega arith) (omega arith))
        (eq-eqb (get_or roots q 0) q own)

    from : (q : ℕ) → Contains (filter (λ v. nat_eq (get_or roots v 0) v) (range_with_len 0 r)) q →
        Contains (filter (λ x. nat_lt x r) (set_of nat_cmp roots)) q
    from q c =
        let x = Contains-from_filter (λ v. nat_eq (get_or roots v 0) v) (range_with_len 0 r) q c in
        let m = range-within r q x.0 in
        let own = eqb-true (get_or roots q 0) q x.1 in
        let n = rooted.vertices in
        Contains_filter (λ x. nat_lt x r) (set_of nat_cmp roots) q (Contains-set_of nat_cmp_total nat_cmp_exact roots q (
          q,
          (let a = low in omega arith),
          get_or_default roots q q 0 (omega arith) ∙ own,
        )) (lt-ltb q r m)
