-- The waves have just the pairs of blocks, and two pairs that share a block stand in them in the order of a pass.
use Rattle.std.proofs.Common.{◌≡◌, ◌≢◌, ◌⊎◌, inl, inr, ℕ, zero, suc, ◌+◌, ◌-◌, ◌*◌, ◌<◌, ◌≤◌, true}
use Rattle.std.proofs.Common.{◌&&◌, nat_lt, List, [], ◌∷◌, ◌++◌, map, filter}
use Rattle.std.proofs.Common.{All, AllPairs, Contains, Option, refl, sym, ap, subst, ◌∙◌, arith, get_or}
use Rattle.std.specs.declared.cmp.Ordering.TheVariants.{Less, Equal}
use Rattle.std.specs.Cmp.{nat_cmp_is}
use Rattle.std.specs.List.{range_with_len, flat_map, AllByRecursion}
use Rattle.std.specs.Ordering.{nat_cmp, ordering_then}
use Rattle.std.specs.List.Sorted.{IsStrictlyIncreasing, IsStrictlySortedBy}
use Rattle.std.proofs.lemmas.Bool.{and_parts, ltb-true, lt-ltb, cases_eq, cases_lt}
use Rattle.std.proofs.lemmas.List.{get_or_default}
use Rattle.std.proofs.lemmas.List.Concat.{flat_map-cons}
use Rattle.std.proofs.lemmas.List.Elements.{All-nil, All-head, All-tail, All-append, All-map, All-weaker, All-contains, All-contains_itself}
use Rattle.hg_defs.specs.declared.moves.Move.{Move}
use Rattle.hg_defs.specs.Hypergraph.{Hyper, IsHypergraph}
use Rattle.hg_defs.specs.Partition.{IsPartition, Fits}
use Rattle.hg_defs.specs.Sorting.{lower_first, set_of}
use Rattle.hg_defs.proofs.DistinctLaws.{Contains-map, Contains-from_map}
use Rattle.hg_defs.proofs.NumberingLaws.{Contains-from_filter, Contains_range}
use Rattle.hg_defs.proofs.PlacementLaws.{Contains_filter}
use Rattle.hg_defs.proofs.SortLaws.{lower_first_total, lower_first_exact, set_is}
use Rattle.round_log.specs.Passes.{block_pairs}
use Rattle.round_log.proofs.PairLaws.{pairs_are_of_blocks, pairs_rise}
use Rattle.flow_pair.specs.declared.solve.PairEnd.{PairEnd}
use Rattle.flow_pair.proofs.MemberLaws.{Contains-flat_map}
use Rattle.flow_pair.proofs.NetLaws.{kept_rises}
use Rattle.flow_pair.proofs.RegionLaws.{rising-tail, rising-first}
use Rattle.flow_round.specs.PairTurns.{AreBooked, AreDisjoint, IsPairBelow, AreTurns, after_turns, is_of_wave, wave, waves}
use Rattle.flow_round.specs.Laws.{WavesAreAPass}
use Rattle.flow_round.proofs.OrderLaws.{MayPass, MayBeSorted, set_turns, set_booked}

-- ---- the order of pairs

less : (a b : ℕ) → a < b → nat_cmp a b ≡ Less
less a b l = sym (nat_cmp_is a b Less l)

lower_by_first : (x y : ℕ × ℕ) → x.0 < y.0 → lower_first x y ≡ Less
lower_by_first x y l = ap (λ r. ordering_then r (nat_cmp x.1 y.1)) (less x.0 y.0 l)

lower_by_second : (x y : ℕ × ℕ) → x.0 ≡ y.0 → x.1 < y.1 → lower_first x y ≡ Less
lower_by_second x y e l =
    ap (λ r. ordering_then r (nat_cmp x.1 y.1)) (sym (nat_cmp_is x.0 y.0 Equal e)) ∙ less x.1 y.1 l

-- ---- a wave

-- a pair of different blocks below k, the lower one first, whose sum is s
abbrev pub IsOfWave : ℕ → ℕ → ℕ × ℕ → Type 0
IsOfWave k s x = IsPairBelow k x × (x.0 + x.1 ≡ s)

pub wave_is : (k s a : ℕ) → is_of_wave k s a ≡ true → IsOfWave k s (a, s - a)
wave_is k s a t =
    let both = and_parts (nat_lt (2 * a) s) (nat_lt (s - a) k) t in
    let low = ltb-true (2 * a) s both.0 in
    let high = ltb-true (s - a) k both.1 in
    (record { order = omega arith; below = high }, omega arith)

pub wave_of : (k s : ℕ) → All (IsOfWave k s) (wave k s)
wave_of k s = All-weaker (Contains (wave k s)) (IsOfWave k s) by (wave k s) (All-contains_itself (wave k s))
  where
    by : (x : ℕ × ℕ) → Contains (wave k s) x → IsOfWave k s x
    by x c =
        let a = Contains-from_map (λ (a : ℕ). (a, s - a)) (filter (is_of_wave k s) (range_with_len 0 k)) x c in
        subst (IsOfWave k s) a.2 (wave_is k s a.0 (Contains-from_filter (is_of_wave k s) (range_with_len 0 k) a.0 a.1).1)

wave_has : (k : ℕ) (x : ℕ × ℕ) → IsPairBelow k x → Contains (wave k (x.0 + x.1)) x
wave_has k x b =
    let order = b.order in
    let below = b.below in
    let second : x.0 + x.1 - x.0 ≡ x.1 = omega arith in
    subst (λ (c : ℕ). Contains (wave k (x.0 + x.1)) (x.0, c)) second
    (Contains-map (λ (a : ℕ). (a, x.0 + x.1 - a)) (filter (is_of_wave k (x.0 + x.1)) (range_with_len 0 k)) x.0
    (Contains_filter (is_of_wave k (x.0 + x.1)) (range_with_len 0 k) x.0 (Contains_range 0 k x.0 (omega arith) (omega arith)) passes))
  where
    passes : is_of_wave k (x.0 + x.1) x.0 ≡ true
    passes =
        let order = b.order in
        let below = b.below in
        let first = lt-ltb (2 * x.0) (x.0 + x.1) (omega arith) in
        let second = lt-ltb (x.0 + x.1 - x.0) k (omega arith) in
        ap (λ t. t && nat_lt (x.0 + x.1 - x.0) k) first ∙ second

-- ---- different waves

waves_pass : (k s t : ℕ) (x y : ℕ × ℕ) → s < t → IsOfWave k s x → IsOfWave k t y → MayPass x y
waves_pass k s t x y l wx wy = by (cases_eq x.0 y.0) (cases_lt x.0 y.0)
  where
    by : (x.0 ≡ y.0) ⊎ (x.0 ≢ y.0) → (x.0 < y.0) ⊎ (y.0 ≤ x.0) → MayPass x y
    by (inl e) r = inl (lower_by_second x y e (let a = wx.1 in let b = wy.1 in omega arith))
    by (inr n) (inl m) = inl (lower_by_first x y m)
    by (inr n) (inr m) =
        let a = wx.1 in
        let b = wy.1 in
        let c = wx.0.order in
        let d = wy.0.order in
        inr (record {
          first_first = n;
          first_second = λ e. absurd (omega arith);
          second_first = λ e. absurd (omega arith);
          second_second = λ e. absurd (omega arith);
        })

-- two pairs of a wave
pub wave_disjoint : (k s : ℕ) (x y : ℕ × ℕ) → x.0 < y.0 → IsOfWave k s x → IsOfWave k s y → AreDisjoint x y
wave_disjoint k s x y l wx wy =
    let a = wx.1 in
    let b = wy.1 in
    let c = wx.0.order in
    let d = wy.0.order in
    record {
      first_first = λ e. absurd (omega arith);
      first_second = λ e. absurd (omega arith);
      second_first = λ e. absurd (omega arith);
      second_second = λ e. absurd (omega arith);
    }

sorted_append : (xs ys : List (ℕ × ℕ)) → MayBeSorted xs → MayBeSorted ys → All (λ x. All (MayPass x) ys) xs → MayBeSorted (xs ++ ys)
sorted_append [] ys a b c = b
sorted_append (x ∷ xs) ys a b c = (
  All-append (MayPass x) xs ys a.0 (All-head (λ z. All (MayPass z) ys) x xs c),
  sorted_append xs ys a.1 b (All-tail (λ z. All (MayPass z) ys) x xs c),
)

-- the pairs of a wave pass each other
wave_sorted : (k s : ℕ) (firsts : List ℕ) → IsStrictlyIncreasing firsts → All (λ a. is_of_wave k s a ≡ true) firsts
    → MayBeSorted (map (λ a. (a, s - a)) firsts)
wave_sorted k s [] rising all = tt
wave_sorted k s (a ∷ firsts) rising all = (
  All-map (MayPass (a, s - a)) (λ (b : ℕ). (b, s - b)) firsts
      (λ i d m. inr (wave_disjoint k s (a, s - a) (get_or firsts i d, s - get_or firsts i d)
      (subst (λ b. a < b) (get_or_default firsts i 0 d m) (rising-first a firsts i rising m))
      (wave_is k s a (All-head (λ b. is_of_wave k s b ≡ true) a firsts all))
      (wave_is k s (get_or firsts i d) (All-tail (λ b. is_of_wave k s b ≡ true) a firsts all i d m)))),
  wave_sorted k s firsts (rising-tail a firsts rising) (All-tail (λ b. is_of_wave k s b ≡ true) a firsts all),
)

pub wave_may : (k s : ℕ) → MayBeSorted (wave k s)
wave_may k s = wave_sorted k s (filter (is_of_wave k s) (range_with_len 0 k)) (kept_rises (is_of_wave k s) k)
    (All-weaker (Contains (filter (is_of_wave k s) (range_with_len 0 k))) (λ a. is_of_wave k s a ≡ true)
    (λ a c. (Contains-from_filter (is_of_wave k s) (range_with_len 0 k) a c).1) (filter (is_of_wave k s) (range_with_len 0 k))
    (All-contains_itself (filter (is_of_wave k s) (range_with_len 0 k))))

-- ---- all waves

-- those whose sums begin at s
abbrev pub waves_from : ℕ → ℕ → ℕ → List (ℕ × ℕ)
waves_from k s n = flat_map (wave k) (range_with_len s n)

pub waves_from-suc : (k s n : ℕ) → waves_from k s (suc n) ≡ wave k s ++ waves_from k (s + 1) n
waves_from-suc k s n = flat_map-cons (wave k) s (range_with_len (s + 1) n)

pub waves_above : (k s n : ℕ) → All (λ x. IsPairBelow k x × (s ≤ x.0 + x.1)) (waves_from k s n)
waves_above k s zero = All-nil (λ (x : ℕ × ℕ). IsPairBelow k x × (s ≤ x.0 + x.1))
waves_above k s (suc n) =
    subst (All (λ x. IsPairBelow k x × (s ≤ x.0 + x.1))) (sym (waves_from-suc k s n))
    (All-append (λ x. IsPairBelow k x × (s ≤ x.0 + x.1)) (wave k s) (waves_from k (s + 1) n)
    (All-weaker (IsOfWave k s) (λ x. IsPairBelow k x × (s ≤ x.0 + x.1)) (λ x w. (w.0, (let e = w.1 in omega arith))) (wave k s) (wave_of k s))
    (All-weaker (λ x. IsPairBelow k x × (s + 1 ≤ x.0 + x.1)) (λ x. IsPairBelow k x × (s ≤ x.0 + x.1)) (λ x w. (w.0, (let e = w.1 in omega arith)))
    (waves_from k (s + 1) n) (waves_above k (s + 1) n)))

waves_sorted : (k s n : ℕ) → MayBeSorted (waves_from k s n)
waves_sorted k s zero = tt
waves_sorted k s (suc n) =
    subst MayBeSorted (sym (waves_from-suc k s n))
    (sorted_append (wave k s) (waves_from k (s + 1) n) (wave_may k s) (waves_sorted k (s + 1) n)
    (All-weaker (IsOfWave k s) (λ x. All (MayPass x) (waves_from k (s + 1) n))
    (λ x w. All-weaker (λ y. IsPairBelow k y × (s + 1 ≤ y.0 + y.1)) (MayPass x)
    (λ y v. waves_pass k s (y.0 + y.1) x y (let e = v.1 in omega arith) w (v.0, refl)) (waves_from k (s + 1) n) (waves_above k (s + 1) n))
    (wave k s) (wave_of k s)))

pub waves_may : (k : ℕ) → MayBeSorted (waves k)
waves_may k = waves_sorted k 1 (2 * k - 3)

pub waves_below : (k : ℕ) → All (IsPairBelow k) (waves k)
waves_below k = All-weaker (λ x. IsPairBelow k x × (1 ≤ x.0 + x.1)) (IsPairBelow k) (λ x w. w.0) (waves k) (waves_above k 1 (2 * k - 3))

waves_have : (k : ℕ) (x : ℕ × ℕ) → IsPairBelow k x → Contains (waves k) x
waves_have k x b =
    let order = b.order in
    let below = b.below in
    Contains-flat_map (wave k) (range_with_len 1 (2 * k - 3)) (x.0 + x.1) x (Contains_range 1 (2 * k - 3) (x.0 + x.1) (omega arith) (omega arith))
    (wave_has k x b)

goes_before : (x y : ℕ × ℕ) → (x.0 < y.0) ⊎ ((x.0 ≡ y.0) × (x.1 < y.1)) → lower_first x y ≡ Less
goes_before x y (inl l) = lower_by_first x y l
goes_before x y (inr e) = lower_by_second x y e.0 e.1

recursion_from : {A : Type 0} (P : A → Type 0) (xs : List A) → All P xs → AllByRecursion P xs
recursion_from P [] all = tt
recursion_from P (x ∷ xs) all = (All-head P x xs all, recursion_from P xs (All-tail P x xs all))

strict_pairs_of : (xs : List (ℕ × ℕ)) → AllPairs (λ a b. (a.0 < b.0) ⊎ ((a.0 ≡ b.0) × (a.1 < b.1))) xs → IsStrictlySortedBy lower_first xs
unfolding IsStrictlySortedBy
strict_pairs_of [] rise = tt
strict_pairs_of (x ∷ xs) rise = (
  recursion_from (λ y. lower_first x y ≡ Less) xs (λ i d m. goes_before x (get_or xs i d) (rise 0 (suc i) d (omega arith) (omega arith))),
  strict_pairs_of xs (λ i j d l m. rise (suc i) (suc j) d (omega arith) (omega arith)),
)

-- in rising order they are the pairs of a pass
pub waves_are_pairs : (k : ℕ) → block_pairs k ≡ set_of lower_first (waves k)
waves_are_pairs k =
    set_is lower_first_total lower_first_exact (waves k) (block_pairs k) strict
    (λ x c. let w = All-contains (IsPairBelow k) (waves k) x (waves_below k) c in (pairs_are_of_blocks k x).1 (w.order, w.below))
    (λ x c. let w = (pairs_are_of_blocks k x).0 c in waves_have k x (record { order = w.0; below = w.1 }))
  where
    strict : IsStrictlySortedBy lower_first (block_pairs k)
    strict = strict_pairs_of (block_pairs k) (pairs_rise k)

pub waves_pass_order : WavesAreAPass
waves_pass_order h k l ends p sound parted fits t =
    let set = set_turns h k l sound ends (waves k) p parted fits (waves_below k) (waves_may k) t in
    let same = sym (waves_are_pairs k) in (
      subst (λ xs. AreTurns h k l ends xs p) same set.0,
      subst (λ xs. after_turns ends xs p ≡ after_turns ends (waves k) p) same set.1,
    )

-- the moves of the waves are those of the pass
pub waves_booked : (h : Hyper) (k l : ℕ) (ends : ℕ × ℕ → Option PairEnd) (made : ℕ × ℕ → List Move) (p : List ℕ) → IsHypergraph h → IsPartition h k p
    → Fits h k l p → AreTurns h k l ends (waves k) p → AreBooked h ends made (waves k) p → AreBooked h ends made (block_pairs k) p
waves_booked h k l ends made p sound parted fits t m =
    subst (λ xs. AreBooked h ends made xs p) (sym (waves_are_pairs k))
    (set_booked h k l sound ends made (waves k) p parted fits (waves_below k) (waves_may k) t m)
