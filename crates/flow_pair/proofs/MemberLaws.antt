-- Rising lists of numbers, told by what they contain.
use Rattle.std.proofs.Common.{◌≡◌, ◌⊎◌, inl, inr, ℕ, suc, ◌+◌, ◌-◌, ◌<◌, ◌≤◌, Bool, true, false, ◌||◌, nat_eq, if◌then◌else◌, List, [], ◌∷◌, ◌++◌}
use Rattle.std.proofs.Common.{map, filter, length, take, get_or, Contains, refl, sym, ap, subst, ◌∙◌, arith, true≢false}
use Rattle.std.specs.List.{list_any, flat_map, range_with_len}
use Rattle.std.specs.List.Sorted.{IsStrictlyIncreasing}
use Rattle.std.specs.Set.{is_member}
use Rattle.std.proofs.lemmas.Bool.Decides.{Decides-eqb}
use Rattle.std.proofs.lemmas.Cmp.{nat_cmp_total}
use Rattle.std.proofs.lemmas.List.{append_assoc, append-nil, take_more, flat_map_more}
use Rattle.std.proofs.lemmas.List.Concat.{flat_map-cons}
use Rattle.std.proofs.lemmas.List.Elements.{Contains-append_left, Contains-append_right, Contains-append_cases}
use Rattle.std.proofs.lemmas.List.FromFn.{length-range_with_len, get_or-range_with_len}
use Rattle.std.proofs.lemmas.List.Kept.{IsStrictlyIncreasing-filter}
use Rattle.std.proofs.lemmas.Map.Keys.{sorted_from_strictly_increasing}
use Rattle.std.proofs.lemmas.Map.Made.{is_member-Decides}
use Rattle.hg_defs.proofs.SortLaws.{Contains_head, Contains_later, Contains-cons_cases, Contains-nil, nat_cmp_exact, same_strict}
use Rattle.hg_defs.proofs.NumberingLaws.{increasing-range, Contains-from_filter, Contains_range}
use Rattle.hg_defs.proofs.PlacementLaws.{Contains_filter}

-- ---- some element passes

pub any_is : {A : Type 0} (test : A → Bool) (xs : List A) → list_any test xs ≡ true → (x : A) × Contains xs x × (test x ≡ true)
any_is test [] e = absurd (true≢false (sym e))
any_is {A} test (x ∷ xs) e = by (test x) refl e (any_is test xs)
  where
    by : (b : Bool) → test x ≡ b → (b || list_any test xs) ≡ true → (list_any test xs ≡ true → (y : A) × Contains xs y × (test y ≡ true)) →
        (y : A) × Contains (x ∷ xs) y × (test y ≡ true)
    by true f g rest = (x, Contains_head x xs, f)
    by false f g rest = let r = rest g in (r.0, Contains_later x xs r.0 r.1, r.2)

pub any_from : {A : Type 0} (test : A → Bool) (xs : List A) (x : A) → Contains xs x → test x ≡ true → list_any test xs ≡ true
any_from test [] x c e = absurd (Contains-nil x c)
any_from test (y ∷ ys) x c e = by (Contains-cons_cases y ys x c) (any_from test ys x)
  where
    second : (a b : Bool) → b ≡ true → (a || b) ≡ true
    second true b f = refl
    second false b f = f

    by : (y ≡ x) ⊎ Contains ys x → (Contains ys x → test x ≡ true → list_any test ys ≡ true) → (test y || list_any test ys) ≡ true
    by (inl f) rest = ap (λ (b : Bool). b || list_any test ys) (ap test f ∙ e)
    by (inr d) rest = second (test y) (list_any test ys) (rest d e)

pub member_true : (vs : List ℕ) (v : ℕ) → Contains vs v → is_member nat_eq vs v ≡ true
member_true vs v c = (is_member-Decides Decides-eqb vs v).1 c

pub member_of : (vs : List ℕ) (v : ℕ) → is_member nat_eq vs v ≡ true → Contains vs v
member_of vs v e = (is_member-Decides Decides-eqb vs v).0 e

-- ---- lists laid one behind the other

pub Contains-flat_map : {A B : Type 0} (f : A → List B) (xs : List A) (x : A) (y : B) → Contains xs x → Contains (f x) y → Contains (flat_map f xs) y
Contains-flat_map f [] x y c d = absurd (Contains-nil x c)
Contains-flat_map f (z ∷ xs) x y c d =
    subst (λ ys. Contains ys y) (sym (flat_map-cons f z xs)) (by (Contains-cons_cases z xs x c) (Contains-flat_map f xs x y))
  where
    by : (z ≡ x) ⊎ Contains xs x → (Contains xs x → Contains (f x) y → Contains (flat_map f xs) y) → Contains (f z ++ flat_map f xs) y
    by (inl e) rest = Contains-append_left (f z) (flat_map f xs) y (subst (λ w. Contains (f w) y) (sym e) d)
    by (inr later) rest = Contains-append_right (f z) (flat_map f xs) y (rest later d)

pub Contains-from_flat_map : {A B : Type 0} (f : A → List B) (xs : List A) (y : B) → Contains (flat_map f xs) y → (x : A) × Contains xs x × Contains (f x) y
Contains-from_flat_map f [] y c = absurd (Contains-nil y c)
Contains-from_flat_map {A} f (z ∷ xs) y c =
    by (Contains-append_cases (f z) (flat_map f xs) y (subst (λ ys. Contains ys y) (flat_map-cons f z xs) c)) (Contains-from_flat_map f xs y)
  where
    by : Contains (f z) y ⊎ Contains (flat_map f xs) y → (Contains (flat_map f xs) y → (x : A) × Contains xs x × Contains (f x) y)
        → (x : A) × Contains (z ∷ xs) x × Contains (f x) y
    by (inl d) rest = (z, Contains_head z xs, d)
    by (inr d) rest = let r = rest d in (r.0, Contains_later z xs r.0 r.1, r.2)

-- what passes a test of an image is the image of what passes
pub filter-map : {A B : Type 0} (f : A → B) (test : B → Bool) (xs : List A) → filter test (map f xs) ≡ map f (filter (λ x. test (f x)) xs)
filter-map f test [] = refl
filter-map f test (x ∷ xs) = by (test (f x)) (filter-map f test xs)
  where
    by : (t : Bool) → filter test (map f xs) ≡ map f (filter (λ y. test (f y)) xs)
        → (if t then f x ∷ filter test (map f xs) else filter test (map f xs))
        ≡ map f (if t then x ∷ filter (λ y. test (f y)) xs else filter (λ y. test (f y)) xs)
    by true e = ap (λ ys. f x ∷ ys) e
    by false e = e

-- ---- numbers below a bound

pub Contains-from_range : (n v : ℕ) → Contains (range_with_len 0 n) v → v < n
Contains-from_range n v c =
    let long = length-range_with_len 0 n in
    let at = c.2 in
    let is = get_or-range_with_len 0 n c.0 v (let l = c.1 in omega arith) in
    omega arith

-- a rising list of just the numbers below a bound that pass a test
pub rising_is_filter : (ys : List ℕ) (test : ℕ → Bool) (n : ℕ) → IsStrictlyIncreasing ys → ((v : ℕ) → Contains ys v → (v < n) × (test v ≡ true))
    → ((v : ℕ) → v < n → test v ≡ true → Contains ys v) → ys ≡ filter test (range_with_len 0 n)
rising_is_filter ys test n rising to from =
    same_strict nat_cmp_total nat_cmp_exact ys (filter test (range_with_len 0 n)) (sorted_from_strictly_increasing ys rising)
    (sorted_from_strictly_increasing (filter test (range_with_len 0 n)) (IsStrictlyIncreasing-filter test (range_with_len 0 n) (increasing-range 0 n)))
    (λ v c. let t = to v c in Contains_filter test (range_with_len 0 n) v (Contains_range 0 n v (omega arith) (let l = t.0 in omega arith)) t.1)
    (λ v c. let p = Contains-from_filter test (range_with_len 0 n) v c in from v (Contains-from_range n v p.0) p.1)

-- ---- loops that keep what passes

pub flat_map_next : {A : Type 0} (f : A → List ℕ) (xs : List A) (i : ℕ) (d : A) (start now next : List ℕ) → i < length xs
    → next ≡ now ++ f (get_or xs i d) → now ≡ start ++ flat_map f (take i xs) → next ≡ start ++ flat_map f (take (i + 1) xs)
flat_map_next f xs i d start now next l e s =
    e ∙ ap (λ ys. ys ++ f (get_or xs i d)) s ∙ flat_map_more f start (take i xs) (get_or xs i d)
    ∙ ap (λ ys. start ++ flat_map f ys) (sym (take_more xs i d l))

filter-append : (test : ℕ → Bool) (xs : List ℕ) (x : ℕ) → filter test (xs ++ x ∷ []) ≡ filter test xs ++ (if test x then x ∷ [] else [])
filter-append test [] x = refl
filter-append test (y ∷ xs) x = by (test y) (filter-append test xs x)
  where
    by : (t : Bool) → filter test (xs ++ x ∷ []) ≡ filter test xs ++ (if test x then x ∷ [] else [])
        → (if t then y ∷ filter test (xs ++ x ∷ []) else filter test (xs ++ x ∷ []))
        ≡ (if t then y ∷ filter test xs else filter test xs) ++ (if test x then x ∷ [] else [])
    by true e = ap (λ ys. y ∷ ys) e
    by false e = e

pub filter_next : (test : ℕ → Bool) (xs : List ℕ) (i : ℕ) (t : Bool) (start now next : List ℕ) → i < length xs → t ≡ test (get_or xs i 0)
    → next ≡ now ++ (if t then get_or xs i 0 ∷ [] else []) → now ≡ start ++ filter test (take i xs) → next ≡ start ++ filter test (take (i + 1) xs)
filter_next test xs i t start now next l is e s =
    e ∙ ap (λ ys. ys ++ (if t then get_or xs i 0 ∷ [] else [])) s
    ∙ append_assoc start (filter test (take i xs)) (if t then get_or xs i 0 ∷ [] else [])
    ∙ ap (λ b. start ++ (filter test (take i xs) ++ (if b then get_or xs i 0 ∷ [] else []))) is
    ∙ ap (λ ys. start ++ ys) (sym (filter-append test (take i xs) (get_or xs i 0)) ∙ ap (filter test) (sym (take_more xs i 0 l)))

pub range_next : (test : ℕ → Bool) (m e : ℕ) (t : Bool) (now next all : List ℕ) → e < m → t ≡ test e → next ≡ now ++ (if t then e ∷ [] else [])
    → now ++ filter test (range_with_len e (m - e)) ≡ all → next ++ filter test (range_with_len (e + 1) (m - (e + 1))) ≡ all
range_next test m e t now next all l is g s =
    let n : m - e ≡ suc (m - (e + 1)) = omega arith in
    ap (λ ys. ys ++ filter test (range_with_len (e + 1) (m - (e + 1)))) g
    ∙ append_assoc now (if t then e ∷ [] else []) (filter test (range_with_len (e + 1) (m - (e + 1))))
    ∙ ap (λ b. now ++ ((if b then e ∷ [] else []) ++ filter test (range_with_len (e + 1) (m - (e + 1))))) is
    ∙ ap (λ ys. now ++ ys) (pull (test e)) ∙ ap (λ k. now ++ filter test (range_with_len e k)) (sym n) ∙ s
  where
    pull : (b : Bool) → (if b then e ∷ [] else []) ++ filter test (range_with_len (e + 1) (m - (e + 1)))
        ≡ (if b then e ∷ filter test (range_with_len (e + 1) (m - (e + 1))) else filter test (range_with_len (e + 1) (m - (e + 1))))
    pull true = refl
    pull false = refl

pub range_first : (test : ℕ → Bool) (m : ℕ) → filter test (range_with_len 0 (m - 0)) ≡ filter test (range_with_len 0 m)
range_first test m = let e : m - 0 ≡ m = omega arith in ap (λ n. filter test (range_with_len 0 n)) e

pub range_last : (test : ℕ → Bool) (m e : ℕ) (now all : List ℕ) → m ≤ e → now ++ filter test (range_with_len e (m - e)) ≡ all → now ≡ all
range_last test m e now all l s =
    let n : m - e ≡ 0 = omega arith in
    sym (append-nil now) ∙ ap (λ k. now ++ filter test (range_with_len e k)) (sym n) ∙ s
