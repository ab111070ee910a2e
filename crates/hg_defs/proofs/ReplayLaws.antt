-- Laws of the best prefix of a list of moves.
use Rattle.std.proofs.Common.{take, ◌≢◌, AllPairs, IsPermutation, Contains, get_or, length-set, get_or-set_same, get_or-set_other, ◌≡◌, ℕ, zero}
use Rattle.std.proofs.Common.{suc, ◌+◌, ◌<◌, ◌≤◌, ◌⊎◌, inl, inr, Bool, true, false, not, ◌&&◌, ◌||◌, cond, nat_le, List, [], ◌∷◌, ◌++◌, length, All}
use Rattle.std.proofs.Common.{Some, find, unwrap_or, refl, sym, ap, ◌∙◌, subst, arith, true≢false, slice_set}
use Rattle.std.proofs.lemmas.List.{take_more, take-take, ext_get_or, take_all}
use Rattle.std.proofs.lemmas.List.FromFn.{length-range_with_len, get_or-range_with_len}
use Rattle.std.proofs.lemmas.List.Sums.{AllPass-from_list_all, list_all-from_AllPass}
use Rattle.std.proofs.lemmas.Bool.{cases_eq, leb-true, le-leb, and_parts, and_from, cases_order, cases_lt}
use Rattle.std.proofs.lemmas.List.Elements.{All-nil, All-cons, All-head, All-tail, All-set}
use Rattle.std.proofs.lemmas.List.Sorted.{All-permutation, Contains-permutation}
use Rattle.hg_defs.proofs.SortLaws.{Contains_head, Contains_later, Contains-cons_cases, Contains-nil}
use Rattle.std.specs.List.{list_all, range_with_len}
use Rattle.hg_defs.specs.declared.moves.Move.{Move}
use Rattle.hg_defs.specs.Hypergraph.{Hyper}
use Rattle.hg_defs.specs.Partition.{Fits, is_fitting, load, block_of}
use Rattle.hg_defs.specs.Cost.{cost}
use Rattle.hg_defs.specs.Replay.{replay, replay_first, best_prefix}
use Rattle.hg_defs.specs.ReplayLaws.{IsBestPrefix, FittingIsTested, BestPrefixIsBest, OnlyBestPrefixIsBest}

-- ---- a test of all numbers below a bound

pub all_below : (test : ℕ → Bool) (n : ℕ) → list_all test (range_with_len 0 n) ≡ true → (i : ℕ) → i < n → test i ≡ true
all_below test n e i l =
    let e0 : 0 + i ≡ i = omega arith in
    let m = length-range_with_len 0 n in
    subst (λ j. test j ≡ true) (get_or-range_with_len 0 n i 0 l ∙ e0) (AllPass-from_list_all test (range_with_len 0 n) e i 0 (omega arith))

pub from_all_below : (test : ℕ → Bool) (n : ℕ) → ((i : ℕ) → i < n → test i ≡ true) → list_all test (range_with_len 0 n) ≡ true
from_all_below test n h = list_all-from_AllPass test (range_with_len 0 n) each
  where
    each : All (λ i. test i ≡ true) (range_with_len 0 n)
    each i d l =
        let m = length-range_with_len 0 n in
        let e0 : 0 + i ≡ i = omega arith in
        subst (λ j. test j ≡ true) (sym (get_or-range_with_len 0 n i d (omega arith) ∙ e0)) (h i (omega arith))

pub fitting_is_tested : FittingIsTested
fitting_is_tested h k l p = (
  λ e b m. leb-true (load h p b) l (all_below (λ c. nat_le (load h p c) l) k e b m),
  λ f. from_all_below (λ c. nat_le (load h p c) l) k (λ b m. le-leb (load h p b) l (f b m)),
)

-- ---- the first number that passes a test

-- the first of n numbers from a on that passes
record FindsFirst (test : ℕ → Bool) (a n : ℕ) (i : ℕ) : Type 0 where
  within : i < n
  is : find test (range_with_len a n) ≡ Some (a + i)
  passes : test (a + i) ≡ true
  first : (j : ℕ) → j < i → test (a + j) ≡ false

finds : (test : ℕ → Bool) (a n i : ℕ) → i < n → test (a + i) ≡ true → (j : ℕ) × FindsFirst test a n j
finds test a zero i l e = absurd (omega arith)
finds test a (suc n) i l e = by (test a) refl (finds test (a + 1) n)
  where
    none : a ≡ a + 0
    none = omega arith

    by : (b : Bool) → test a ≡ b → ((c : ℕ) → c < n → test (a + 1 + c) ≡ true → (j : ℕ) × FindsFirst test (a + 1) n j) → (j : ℕ) × FindsFirst test a
        (suc n) j
    by true f r = (
      0,
      record {
        within = omega arith;
        is = ap (λ b. cond b (Some a) (find test (range_with_len (a + 1) n))) f ∙ ap Some none;
        passes = subst (λ c. test c ≡ true) none f;
        first = λ j m. absurd (omega arith);
      },
    )
    by false f r = later i l e
      where
        later : (c : ℕ) → c < suc n → test (a + c) ≡ true → (j : ℕ) × FindsFirst test a (suc n) j
        later zero m g = absurd (true≢false (sym g ∙ ap test (sym none) ∙ f))
        later (suc c) m g =
            let more : a + suc c ≡ a + 1 + c = omega arith in
            moved (r c (omega arith) (subst (λ x. test x ≡ true) more g))
          where
            moved : (j : ℕ) × FindsFirst test (a + 1) n j → (j : ℕ) × FindsFirst test a (suc n) j
            moved x = (
              suc x.0,
              record {
                within = let w = x.1.within in omega arith;
                is = ap (λ b. cond b (Some a) (find test (range_with_len (a + 1) n))) f ∙ x.1.is ∙ ap Some same;
                passes = subst (λ y. test y ≡ true) same x.1.passes;
                first = before;
              },
            )
              where
                same : a + 1 + x.0 ≡ a + suc x.0
                same = omega arith

                before : (j : ℕ) → j < suc x.0 → test (a + j) ≡ false
                before zero q = subst (λ y. test y ≡ false) none f
                before (suc j) q = let s : a + 1 + j ≡ a + suc j = omega arith in subst (λ y. test y ≡ false) s (x.1.first j (omega arith))

-- ---- the shortest of the cheapest

module _ (fit : ℕ → Bool) (c : ℕ → ℕ) (n : ℕ) where
  abbrev is_best : ℕ → Bool
  is_best j = fit j && list_all (λ i. not (fit i) || nat_le (c j) (c i)) (range_with_len 0 (n + 1))

  IsCheapest : ℕ → Type 0
  IsCheapest j = (i : ℕ) → i < n + 1 → fit i ≡ true → c j ≤ c i

  passes_best : (j : ℕ) → is_best j ≡ true → (fit j ≡ true) × IsCheapest j
  unfolding IsCheapest
  passes_best j e = (both.0, λ i l f. by i f (all_below (λ x. not (fit x) || nat_le (c j) (c x)) (n + 1) both.1 i l))
    where
      both : (fit j ≡ true) × (list_all (λ i. not (fit i) || nat_le (c j) (c i)) (range_with_len 0 (n + 1)) ≡ true)
      both = and_parts (fit j) (list_all (λ i. not (fit i) || nat_le (c j) (c i)) (range_with_len 0 (n + 1))) e

      by : (i : ℕ) → fit i ≡ true → (not (fit i) || nat_le (c j) (c i)) ≡ true → c j ≤ c i
      by i f g = leb-true (c j) (c i) (ap (λ b. not b || nat_le (c j) (c i)) (sym f) ∙ g)

  best_passes : (j : ℕ) → fit j ≡ true → IsCheapest j → is_best j ≡ true
  unfolding IsCheapest
  best_passes j f h = and_from (fit j) (list_all (λ i. not (fit i) || nat_le (c j) (c i)) (range_with_len 0 (n + 1))) f
      (from_all_below (λ i. not (fit i) || nat_le (c j) (c i)) (n + 1) (λ i l. by i l (fit i) refl))
    where
      by : (i : ℕ) → i < n + 1 → (b : Bool) → fit i ≡ b → (not b || nat_le (c j) (c i)) ≡ true
      by i l true e = le-leb (c j) (c i) (h i l e)
      by i l false e = refl

  -- one that passes is among the first m
  cheapest_of : fit 0 ≡ true → (m : ℕ) → (j : ℕ) × (j < m + 1) × (fit j ≡ true) × ((i : ℕ) → i < m + 1 → fit i ≡ true → c j ≤ c i)
  cheapest_of z zero = (0, omega arith, z, λ i l f. let e : 0 ≡ i = omega arith in subst (λ x. c 0 ≤ c x) e (omega arith))
  cheapest_of z (suc m) = by (fit (suc m)) refl (cheapest_of z m)
    where
      by : (b : Bool) → fit (suc m) ≡ b → (j : ℕ) × (j < m + 1) × (fit j ≡ true) × ((i : ℕ) → i < m + 1 → fit i ≡ true → c j ≤ c i) →
          (j : ℕ) × (j < suc m + 1) × (fit j ≡ true) × ((i : ℕ) → i < suc m + 1 → fit i ≡ true → c j ≤ c i)
      by true e r = two (cases_lt (c (suc m)) (c r.0))
        where
          two : (c (suc m) < c r.0) ⊎ (c r.0 ≤ c (suc m)) → (j : ℕ) × (j < suc m + 1) × (fit j ≡ true) × ((i : ℕ) → i < suc m + 1 → fit i ≡ true →
              c j ≤ c i)
          two (inl l) = (suc m, omega arith, e, λ i q f. last i q f (cases_lt i (m + 1)))
            where
              last : (i : ℕ) → i < suc m + 1 → fit i ≡ true → (i < m + 1) ⊎ (m + 1 ≤ i) → c (suc m) ≤ c i
              last i q f (inl w) = let a = r.3 i w f in omega arith
              last i q f (inr w) = let s : suc m ≡ i = omega arith in subst (λ x. c (suc m) ≤ c x) s (omega arith)
          two (inr l) = (r.0, (let a = r.1 in omega arith), r.2, λ i q f. last i q f (cases_lt i (m + 1)))
            where
              last : (i : ℕ) → i < suc m + 1 → fit i ≡ true → (i < m + 1) ⊎ (m + 1 ≤ i) → c r.0 ≤ c i
              last i q f (inl w) = r.3 i w f
              last i q f (inr w) = let s : suc m ≡ i = omega arith in subst (λ x. c r.0 ≤ c x) s l
      by false e r = (r.0, (let a = r.1 in omega arith), r.2, λ i q f. last i q f (cases_lt i (m + 1)))
        where
          last : (i : ℕ) → i < suc m + 1 → fit i ≡ true → (i < m + 1) ⊎ (m + 1 ≤ i) → c r.0 ≤ c i
          last i q f (inl w) = r.3 i w f
          last i q f (inr w) = let s : suc m ≡ i = omega arith in absurd (true≢false (sym f ∙ ap fit (sym s) ∙ e))

  record IsPick (j : ℕ) : Type 0 where
    within : j < n + 1
    fits : fit j ≡ true
    cheapest : (i : ℕ) → i < n + 1 → fit i ≡ true → c j ≤ c i
    shortest : (i : ℕ) → i < j → fit i ≡ true → c j < c i

  pick_is : fit 0 ≡ true → IsPick (unwrap_or (find is_best (range_with_len 0 (n + 1))) 0)
  unfolding IsCheapest
  pick_is z = by (finds is_best 0 (n + 1) least.0 least.1 (subst (λ i. is_best i ≡ true) start (best_passes least.0 least.2 least.3)))
    where
      least : (j : ℕ) × (j < n + 1) × (fit j ≡ true) × ((i : ℕ) → i < n + 1 → fit i ≡ true → c j ≤ c i)
      least = cheapest_of z n

      start : least.0 ≡ 0 + least.0
      start = omega arith

      by : (j : ℕ) × FindsFirst is_best 0 (n + 1) j → IsPick (unwrap_or (find is_best (range_with_len 0 (n + 1))) 0)
      by x = subst IsPick (sym (ap (λ o. unwrap_or o 0) x.1.is ∙ same)) picked
        where
          same : 0 + x.0 ≡ x.0
          same = omega arith

          best : (fit x.0 ≡ true) × IsCheapest x.0
          best = passes_best x.0 (subst (λ i. is_best i ≡ true) same x.1.passes)

          picked : IsPick x.0
          picked = record {
            within = x.1.within;
            fits = best.0;
            cheapest = best.1;
            shortest = λ i l f. two i l f (cases_lt (c x.0) (c i));
          }
            where
              two : (i : ℕ) → i < x.0 → fit i ≡ true → (c x.0 < c i) ⊎ (c i ≤ c x.0) → c x.0 < c i
              two i l f (inl a) = a
              two i l f (inr a) =
                  let s : 0 + i ≡ i = omega arith in
                  absurd (true≢false (sym (best_passes i f (λ q m g. let b = best.1 q m g in omega arith)) ∙ subst (λ j. is_best j ≡ false) s
                  (x.1.first i l)))

pub best_prefix_is : BestPrefixIsBest
best_prefix_is h k l p moves start = record {
  within = let w = pick.within in omega arith;
  fits = (fitting_is_tested h k l (replay_first p moves (best_prefix h k l p moves))).0 pick.fits;
  cheapest = λ i f. two i f (cases_lt i (length moves + 1));
  shortest = λ i m f. pick.shortest i m ((fitting_is_tested h k l (replay_first p moves i)).1 f);
}
  where
    pick : IsPick (λ i. is_fitting h k l (replay_first p moves i)) (λ i. cost h (replay_first p moves i)) (length moves) (best_prefix h k l p moves)
    pick = pick_is (λ i. is_fitting h k l (replay_first p moves i)) (λ i. cost h (replay_first p moves i)) (length moves)
        ((fitting_is_tested h k l p).1 start)

    two : (i : ℕ) → Fits h k l (replay_first p moves i) → (i < length moves + 1) ⊎ (length moves + 1 ≤ i) →
        cost h (replay_first p moves (best_prefix h k l p moves)) ≤ cost h (replay_first p moves i)
    two i f (inl m) = pick.cheapest i m ((fitting_is_tested h k l (replay_first p moves i)).1 f)
    two i f (inr m) = subst (λ q. cost h (replay_first p moves (best_prefix h k l p moves)) ≤ cost h q) (sym same)
        (pick.cheapest (length moves) (omega arith) ((fitting_is_tested h k l (replay_first p moves (length moves))).1 (subst (Fits h k l) same f)))
      where
        same : replay_first p moves i ≡ replay_first p moves (length moves)
        same = ap (replay p) (take_all i moves (omega arith) ∙ sym (take_all (length moves) moves (omega arith)))

pub best_prefix_same : (h : Hyper) (k l : ℕ) (p : List ℕ) (moves : List Move) (i j : ℕ) → IsBestPrefix h k l p moves i → IsBestPrefix h k l p moves j →
    i ≡ j
best_prefix_same h k l p moves i j x y = by (cases_order i j)
  where
    by : (i ≡ j) ⊎ ((i < j) ⊎ (j < i)) → i ≡ j
    by (inl e) = e
    by (inr (inl m)) = let a = y.shortest i m x.fits in let b = x.cheapest j y.fits in absurd (omega arith)
    by (inr (inr m)) = let a = x.shortest j m y.fits in let b = y.cheapest i x.fits in absurd (omega arith)

pub only_best_prefix : OnlyBestPrefixIsBest
only_best_prefix h k l p moves j start is = best_prefix_same h k l p moves j (best_prefix h k l p moves) is (best_prefix_is h k l p moves start)

-- ---- replaying

pub replay-append : (p : List ℕ) (us vs : List Move) → replay p (us ++ vs) ≡ replay (replay p us) vs
replay-append p [] vs = refl
replay-append p (m ∷ us) vs = replay-append (slice_set p m.vertex m.to) us vs

pub replay_first-all : (p : List ℕ) (moves : List Move) → replay_first p moves (length moves) ≡ replay p moves
replay_first-all p moves = ap (replay p) (take_all (length moves) moves (omega arith))

pub replay_first_more : (p : List ℕ) (moves : List Move) (i : ℕ) (d : Move) → i < length moves
    → replay_first p moves (i + 1) ≡ slice_set (replay_first p moves i) (get_or moves i d).vertex (get_or moves i d).to
replay_first_more p moves i d l = ap (replay p) (take_more moves i d l) ∙ replay-append p (take i moves) (get_or moves i d ∷ [])

pub replay_first-take : (p : List ℕ) (moves : List Move) (i n : ℕ) → i ≤ n → replay_first p (take n moves) i ≡ replay_first p moves i
replay_first-take p moves i n l = ap (replay p) (take-take i n moves l)

pub length-replay : (p : List ℕ) (moves : List Move) → length (replay p moves) ≡ length p
length-replay p [] = refl
length-replay p (m ∷ moves) = length-replay (slice_set p m.vertex m.to) moves ∙ length-set p m.vertex m.to

pub replay-blocks : (k : ℕ) (p : List ℕ) (moves : List Move) → All (λ b. b < k) p → All (λ m. m.to < k) moves → All (λ b. b < k) (replay p moves)
replay-blocks k p [] h a = h
replay-blocks k p (m ∷ moves) h a =
    replay-blocks k (slice_set p m.vertex m.to) moves (All-set (λ b. b < k) p m.vertex m.to (All-head (λ n. n.to < k) m moves a) h)
    (All-tail (λ n. n.to < k) m moves a)

-- a vertex that doesn't move keeps its block
pub replay-apart : (p : List ℕ) (moves : List Move) (u : ℕ) → All (λ m. m.vertex ≢ u) moves → block_of (replay p moves) u ≡ block_of p u
replay-apart p [] u a = refl
replay-apart p (m ∷ moves) u a =
    replay-apart (slice_set p m.vertex m.to) moves u (All-tail (λ n. n.vertex ≢ u) m moves a)
    ∙ get_or-set_other p m.vertex u m.to 0 (λ e. All-head (λ n. n.vertex ≢ u) m moves a (sym e))

-- a vertex that moves once goes to that block
pub replay-once : (p : List ℕ) (moves : List Move) (m : Move) → AllPairs (λ x y. x.vertex ≢ y.vertex) moves → All (λ n. n.vertex < length p) moves →
    Contains moves m
    → block_of (replay p moves) m.vertex ≡ m.to
replay-once p [] m a l c = absurd (Contains-nil m c)
replay-once p (n ∷ moves) m a l c = by (Contains-cons_cases n moves m c) (replay-once (slice_set p n.vertex n.to) moves m rest low)
  where
    rest : AllPairs (λ x y. x.vertex ≢ y.vertex) moves
    rest i j d q r = a (suc i) (suc j) d (omega arith) (omega arith)

    low : All (λ x. x.vertex < length (slice_set p n.vertex n.to)) moves
    low = subst (λ k. All (λ x. x.vertex < k) moves) (sym (length-set p n.vertex n.to)) (All-tail (λ x. x.vertex < length p) n moves l)

    others : All (λ x. x.vertex ≢ n.vertex) moves
    others i d q = λ e. a 0 (suc i) d (omega arith) (omega arith) (sym e)

    by : (n ≡ m) ⊎ Contains moves m → (Contains moves m → block_of (replay (slice_set p n.vertex n.to) moves) m.vertex ≡ m.to) →
        block_of (replay (slice_set p n.vertex n.to) moves) m.vertex ≡ m.to
    by (inl e) r =
        subst (λ x. block_of (replay (slice_set p n.vertex n.to) moves) x.vertex ≡ x.to) e
        (replay-apart (slice_set p n.vertex n.to) moves n.vertex others ∙ get_or-set_same p n.vertex n.to 0 (All-head (λ x. x.vertex < length p) n moves l))
    by (inr t) r = r t

-- where each vertex moves once, the order of the moves doesn't count
pub replay-permutation : (p : List ℕ) (us vs : List Move) → AllPairs (λ x y. x.vertex ≢ y.vertex) us → AllPairs (λ x y. x.vertex ≢ y.vertex) vs →
    All (λ m. m.vertex < length p) us → IsPermutation us vs
    → replay p vs ≡ replay p us
replay-permutation p us vs a b l h = ext_get_or 0 (replay p vs) (replay p us) (length-replay p vs ∙ sym (length-replay p us)) each
  where
    low : All (λ m. m.vertex < length p) vs
    low = All-permutation (λ m. m.vertex < length p) us vs h l

    moves_it : (ms : List Move) (u : ℕ) → ((m : Move) × Contains ms m × (m.vertex ≡ u)) ⊎ All (λ m. m.vertex ≢ u) ms
    moves_it [] u = inr (All-nil (λ m. m.vertex ≢ u))
    moves_it (m ∷ ms) u = by (cases_eq m.vertex u) (moves_it ms u)
      where
        by : (m.vertex ≡ u) ⊎ (m.vertex ≡ u → ⊥) → ((n : Move) × Contains ms n × (n.vertex ≡ u)) ⊎ All (λ n. n.vertex ≢ u) ms →
            ((n : Move) × Contains (m ∷ ms) n × (n.vertex ≡ u)) ⊎ All (λ n. n.vertex ≢ u) (m ∷ ms)
        by (inl e) r = inl (m, Contains_head m ms, e)
        by (inr q) (inl r) = inl (r.0, Contains_later m ms r.0 r.1, r.2)
        by (inr q) (inr r) = inr (All-cons (λ n. n.vertex ≢ u) m ms q r)

    each : (u : ℕ) → u < length (replay p vs) → block_of (replay p vs) u ≡ block_of (replay p us) u
    each u q = by (moves_it us u)
      where
        by : ((m : Move) × Contains us m × (m.vertex ≡ u)) ⊎ All (λ m. m.vertex ≢ u) us → block_of (replay p vs) u ≡ block_of (replay p us) u
        by (inl r) =
            subst (λ x. block_of (replay p vs) x ≡ block_of (replay p us) x) r.2
            (replay-once p vs r.0 b low (Contains-permutation us vs r.0 h r.1) ∙ sym (replay-once p us r.0 a l r.1))
        by (inr r) = replay-apart p vs u (All-permutation (λ m. m.vertex ≢ u) us vs h r) ∙ sym (replay-apart p us u r)
