-- Laws of least loaded placement.
use Rattle.std.proofs.Common.{◌≡◌, ◌≢◌, ℕ, zero, suc, ◌+◌, ◌<◌, ◌≤◌, ◌⊎◌, inl, inr, Bool, true, false, not, if◌then◌else◌, nat_eq, nat_le}
use Rattle.std.proofs.Common.{List, [], ◌∷◌, ◌++◌, map, filter, length, get_or, take, slice_index, slice_set, All, AllPairs, Contains}
use Rattle.std.proofs.Common.{IsPermutation, IsSorted, Some, None, refl, sym, ap, ap₂, cond, ◌∙◌, subst, arith, append_assoc, append-nil}
use Rattle.std.proofs.Common.{add-one, length-set, get_or-set_same, get_or-set_other, true≢false, ◌&&◌}
use Rattle.std.proofs.lemmas.List.{length-replicate, get_or-replicate, get_or_past, get_or_default}
use Rattle.std.proofs.lemmas.List.{ext_get_or, take_all, get_or-take, length-take, take_more}
use Rattle.std.proofs.lemmas.List.Elements.{Contains-get_or, All-head, All-tail, All-set, All-replicate, Contains-push_cases, Contains-append_left}
use Rattle.std.proofs.lemmas.List.FromFn.{length-range_with_len, get_or-range_with_len}
use Rattle.std.proofs.lemmas.List.Sorted.{IsPermutation-trans, IsPermutation-append_right, IsPermutation-filter_both, All-permutation, Contains-permutation}
use Rattle.std.proofs.lemmas.List.Sums.{AllPass-from_list_all}
use Rattle.std.proofs.lemmas.Bool.{eqb-true, eqb-false, eq-eqb, ne_eqb, leb-true, leb-false, cases_order, cases_lt, cases_eq}
use Rattle.std.proofs.lemmas.Map.Made.{AllPairs-from_IsDistinct}
use Rattle.std.proofs.lemmas.List.Kept.{AllPairs-filter}
use Rattle.std.proofs.lemmas.Bool.Decides.{Decides-eqb}
use Rattle.std.proofs.lemmas.Map.Keys.{IsDistinct-head, IsDistinct-tail, IsDistinct-IsPermutation, IsDistinct-from_apart}
use Rattle.std.proofs.lemmas.Cmp.{nat_eq_equiv}
use Rattle.std.specs.List.{IsDistinct, AllByRecursion, list_all}
use Rattle.hg_defs.specs.declared.objective.TheConstants.{FREE}
use Rattle.hg_defs.specs.Hypergraph.{Hyper, IsHypergraph, IsFixedWithin, vertex_count, vertices, weight_of, fix_of, is_free, IsFree}
use Rattle.hg_defs.specs.Partition.{IsPartition, block_of, load}
use Rattle.hg_defs.specs.LeastLoaded.{Placing, placed, placed_one, unplaced, taken_block, placing_order, least}
use Rattle.hg_defs.specs.LeastLoaded.{least_loaded, heaviest_first, heavier_first, first_overfilling}
use Rattle.hg_defs.specs.PlacementLaws.{IsFirstLeast, weight_placed, IsPlacedAt, IsPlacedInTurn, IsFirstOverfilling, ListsFree, IsPlaceable}
use Rattle.hg_defs.specs.PlacementLaws.{LeastLoadedIsPartition, LeastLoadedObeys, LeastLoadedIsInTurn, OnlyLeastLoadedIsInTurn, LeastIsFirstLeast}
use Rattle.hg_defs.specs.PlacementLaws.{LoadsAreKept, AllWeightsArePlaced, OverfillingIsFirst, NoneOverfillsWhereItFits, OneOverfillsWhereItDoesNotFit}
use Rattle.hg_defs.specs.PlacementLaws.{HeaviestFirstListsFree, HeaviestGoFirst, GreedyIsPartition, GreedyObeys, GreedyFits, GreedyDoesNotFit}
use Rattle.hg_defs.proofs.KeyLaws.{by_key-permutation, by_key-pairs, heavier_goes_first}
use Rattle.hg_defs.proofs.SumLaws.{weight_if, weight_if-same, weight_if-other, total_push, total-same}
use Rattle.hg_defs.proofs.SumLaws.{total-permutation, total-range, total-take-le, weight_in-by_index}
use Rattle.hg_defs.specs.Sorting.{sorted}
use Rattle.std.specs.declared.cmp.Reverse.{Reverse}
use Rattle.hg_defs.proofs.SortLaws.{heavy_key, heavy_key_cmp, heavy_keys_sorted, heavier_first_total, heavier_first_exact}
use Rattle.hg_defs.proofs.SortLaws.{Contains_head, Contains_later, Contains-cons_cases, Contains-nil}

-- ---- the least element

pub least_is : LeastIsFirstLeast
least_is [] h = absurd (omega arith)
least_is (x ∷ xs) h = by (list_all (λ y. nat_le x y) xs) refl (least_is xs)
  where
    by : (t : Bool) → list_all (λ y. nat_le x y) xs ≡ t → (0 < length xs → IsFirstLeast (slice_index xs) (length xs) (least xs)) →
        IsFirstLeast (slice_index (x ∷ xs)) (suc (length xs)) (if t then 0 else suc (least xs))
    by true e r = record { below = omega arith; least = low; first = λ c l. absurd (omega arith) }
      where
        pass : All (λ y. nat_le x y ≡ true) xs
        pass = AllPass-from_list_all (λ y. nat_le x y) xs e

        low : (c : ℕ) → c < suc (length xs) → x ≤ slice_index (x ∷ xs) c
        low zero l = omega arith
        low (suc c) l = leb-true x (slice_index xs c) (pass c 0 (omega arith))
    by false e r = found (smaller xs e)
      where
        smaller : (ys : List ℕ) → list_all (λ y. nat_le x y) ys ≡ false → (c : ℕ) × (c < length ys) × (slice_index ys c < x)
        smaller [] f = absurd (true≢false f)
        smaller (y ∷ ys) f = one (nat_le x y) refl f (smaller ys)
          where
            one : (t : Bool) → nat_le x y ≡ t → (t && list_all (λ z. nat_le x z) ys) ≡ false →
                (list_all (λ z. nat_le x z) ys ≡ false → (c : ℕ) × (c < length ys) × (slice_index ys c < x)) → (c : ℕ) × (c < suc (length ys)) ×
                (slice_index (y ∷ ys) c < x)
            one true q g s = let t = s g in (suc t.0, let l = t.1 in omega arith, t.2)
            one false q g s = (0, omega arith, leb-false x y q)

        found : (c : ℕ) × (c < length xs) × (slice_index xs c < x) → IsFirstLeast (slice_index (x ∷ xs)) (suc (length xs)) (suc (least xs))
        found s = record { below = let b = rest.below in omega arith; least = low; first = before }
          where
            rest : IsFirstLeast (slice_index xs) (length xs) (least xs)
            rest = r (let l = s.1 in omega arith)

            below_x : slice_index xs (least xs) < x
            below_x = let a = rest.least s.0 s.1 in let b = s.2 in omega arith

            low : (c : ℕ) → c < suc (length xs) → slice_index xs (least xs) ≤ slice_index (x ∷ xs) c
            low zero l = let b = below_x in omega arith
            low (suc c) l = rest.least c (omega arith)

            before : (c : ℕ) → c < suc (least xs) → slice_index xs (least xs) < slice_index (x ∷ xs) c
            before zero l = below_x
            before (suc c) l = rest.first c (omega arith)

-- two first least numbers are one
pub first_least_same : (f : ℕ → ℕ) (k a b : ℕ) → IsFirstLeast f k a → IsFirstLeast f k b → a ≡ b
first_least_same f k a b x y = by (cases_order a b)
  where
    by : (a ≡ b) ⊎ ((a < b) ⊎ (b < a)) → a ≡ b
    by (inl e) = e
    by (inr (inl l)) = let u = y.first a l in let w = x.least b y.below in absurd (omega arith)
    by (inr (inr l)) = let u = x.first b l in let w = y.least a x.below in absurd (omega arith)

first_least-same : (f g : ℕ → ℕ) (k b : ℕ) → ((c : ℕ) → c < k → f c ≡ g c) → IsFirstLeast f k b → IsFirstLeast g k b
first_least-same f g k b e h = record {
  below = h.below;
  least = λ c l. let x = e b h.below in let y = e c l in let z = h.least c l in omega arith;
  first = λ c l. let x = e b h.below in let m = h.below in let y = e c (omega arith) in let z = h.first c l in omega arith;
}

-- ---- fixes

pub fixed_below : (h : Hyper) (v : ℕ) → IsHypergraph h → fix_of h v ≢ FREE → v < vertex_count h
fixed_below h v g f = by (cases_lt v (vertex_count h))
  where
    by : (v < vertex_count h) ⊎ (vertex_count h ≤ v) → v < vertex_count h
    by (inl l) = l
    by (inr l) = let e = g.fixes in absurd (f (get_or_past h.fixes v FREE (omega arith)))

free_is : (h : Hyper) (v : ℕ) → is_free h v ≡ true → IsFree h v
free_is h v e = eqb-true (fix_of h v) FREE e

fixed_is : (h : Hyper) (v : ℕ) → is_free h v ≡ false → fix_of h v ≢ FREE
fixed_is h v e = eqb-false (fix_of h v) FREE e

taken_free : (h : Hyper) (loads : List ℕ) (v : ℕ) → IsFree h v → taken_block h loads v ≡ least loads
taken_free h loads v e = ap (λ (t : Bool). if t then least loads else fix_of h v) (eq-eqb (fix_of h v) FREE e)

taken_fixed : (h : Hyper) (loads : List ℕ) (v : ℕ) → fix_of h v ≢ FREE → taken_block h loads v ≡ fix_of h v
taken_fixed h loads v e = ap (λ (t : Bool). if t then least loads else fix_of h v) (ne_eqb (fix_of h v) FREE e)

module _ (h : Hyper) (k : ℕ) (good : IsHypergraph h) (fixed : IsFixedWithin h k) (some : 0 < k) where
  taken_below : (loads : List ℕ) (v : ℕ) → length loads ≡ k → taken_block h loads v < k
  taken_below loads v e = by (is_free h v) refl
    where
      by : (t : Bool) → is_free h v ≡ t → (if t then least loads else fix_of h v) < k
      by true f = let s = (least_is loads (omega arith)).below in omega arith
      by false f = fixed v (fixed_below h v good (fixed_is h v f)) (fixed_is h v f)

  -- ---- what placing keeps in any order

  record IsSound (s : Placing) : Type 0 where
    loads : length s.loads ≡ k
    blocks : length s.blocks ≡ vertex_count h
    below : All (λ b. b < k) s.blocks

  unplaced_sound : IsSound (unplaced h k)
  unplaced_sound = record {
    loads = length-replicate k 0;
    blocks = length-replicate (vertex_count h) 0;
    below = All-replicate (λ b. b < k) (vertex_count h) 0 some;
  }

  one_sound : (s : Placing) (v : ℕ) → IsSound s → IsSound (placed_one h s v)
  one_sound s v d = record {
    loads = length-set s.loads (taken_block h s.loads v) (slice_index s.loads (taken_block h s.loads v) + weight_of h v) ∙ d.loads;
    blocks = length-set s.blocks v (taken_block h s.loads v) ∙ d.blocks;
    below = All-set (λ b. b < k) s.blocks v (taken_block h s.loads v) (taken_below s.loads v d.loads) d.below;
  }

  placed_sound : (vs : List ℕ) (s : Placing) → IsSound s → IsSound (placed h s vs)
  placed_sound [] s d = d
  placed_sound (v ∷ vs) s d = placed_sound vs (placed_one h s v) (one_sound s v d)

  -- a fixed vertex that was placed stands in the block of its fix, and so it stays
  fixed_stays : (vs : List ℕ) (s : Placing) (u : ℕ) → IsSound s → fix_of h u ≢ FREE → (block_of s.blocks u ≡ fix_of h u) ⊎ Contains vs u →
      block_of (placed h s vs).blocks u ≡ fix_of h u
  fixed_stays [] s u d f (inl e) = e
  fixed_stays [] s u d f (inr c) = absurd (Contains-nil u c)
  fixed_stays (v ∷ vs) s u d f h' = fixed_stays vs (placed_one h s v) u (one_sound s v d) f (by (cases_eq u v) h')
    where
      by : (u ≡ v) ⊎ (u ≡ v → ⊥) → (block_of s.blocks u ≡ fix_of h u) ⊎ Contains (v ∷ vs) u → (block_of (placed_one h s v).blocks u ≡ fix_of h u) ⊎
          Contains vs
          u
      by (inl e) c = inl (subst (λ x. block_of (slice_set s.blocks x (taken_block h s.loads x)) u ≡ fix_of h u) e
          (get_or-set_same s.blocks u (taken_block h s.loads u) 0 inside ∙ taken_fixed h s.loads u f))
        where
          inside : u < length s.blocks
          inside = let a = fixed_below h u good f in let b = d.blocks in omega arith
      by (inr n) (inl e) = inl (get_or-set_other s.blocks v u (taken_block h s.loads v) 0 n ∙ e)
      by (inr n) (inr c) = other (Contains-cons_cases v vs u c)
        where
          other : (v ≡ u) ⊎ Contains vs u → (block_of (placed_one h s v).blocks u ≡ fix_of h u) ⊎ Contains vs u
          other (inl e) = absurd (n (sym e))
          other (inr t) = inr t

pub Contains_vertices : (h : Hyper) (v : ℕ) → v < vertex_count h → Contains (vertices h) v
Contains_vertices h v l = (
  v,
  (let e = length-range_with_len 0 (vertex_count h) in omega arith),
  (let e : 0 + v ≡ v = omega arith in get_or-range_with_len 0 (vertex_count h) v v l ∙ e),
)

pub Contains_filter : {A : Type 0} (test : A → Bool) (xs : List A) (x : A) → Contains xs x → test x ≡ true → Contains (filter test xs) x
Contains_filter test [] x c e = absurd (Contains-nil x c)
Contains_filter {A} test (y ∷ ys) x c e = by (Contains-cons_cases y ys x c) (Contains_filter test ys x)
  where
    by : (y ≡ x) ⊎ Contains ys x → (Contains ys x → test x ≡ true → Contains (filter test ys) x) → Contains (filter test (y ∷ ys)) x
    by (inl q) r = subst (λ (b : Bool). Contains (cond b (y ∷ filter test ys) (filter test ys)) x) (sym (ap test q ∙ e))
        (subst (Contains (y ∷ filter test ys)) q (Contains_head y (filter test ys)))
    by (inr t) r = later (test y)
      where
        later : (b : Bool) → Contains (cond b (y ∷ filter test ys) (filter test ys)) x
        later true = Contains_later y (filter test ys) x (r t e)
        later false = r t e

pub least_loaded-partition : LeastLoadedIsPartition
least_loaded-partition h k order good fixed blocks =
    let s = placed_sound h k good fixed blocks (placing_order h order) (unplaced h k) (unplaced_sound h k good fixed blocks) in
    record { vertices = s.blocks; blocks = s.below }

pub least_loaded-obeys : LeastLoadedObeys
least_loaded-obeys h k order good fixed blocks v l f =
    fixed_stays h k good fixed blocks (placing_order h order) (unplaced h k) v (unplaced_sound h k good fixed blocks) f
    (inr (Contains-append_left (filter (λ u. not (is_free h u)) (vertices h)) order v (Contains_filter (λ u. not (is_free h u)) (vertices h) v
    (Contains_vertices h v l) (ap not (ne_eqb (fix_of h v) FREE f)))))

-- ---- what stands before the fixes and the loads: the vertices placed so far

weight_placed-same : (h : Hyper) (p q vs : List ℕ) (b : ℕ) → ((v : ℕ) → Contains vs v → block_of p v ≡ block_of q v) →
    weight_placed h p vs b ≡ weight_placed h
    q vs b
weight_placed-same h p q vs b e =
    total-same (λ v. weight_if (block_of p v) b (weight_of h v)) (λ v. weight_if (block_of q v) b (weight_of h v)) vs
    (λ i d l. ap (λ x. weight_if x b (weight_of h (get_or vs i d))) (e (get_or vs i d) (Contains-get_or vs i d l)))

weight_placed_push : (h : Hyper) (p vs : List ℕ) (v b : ℕ) → weight_placed h p (vs ++ v ∷ []) b ≡ weight_placed h p vs b + weight_if (block_of p v) b
    (weight_of h v)
weight_placed_push h p vs v b = total_push (λ u. weight_if (block_of p u) b (weight_of h u)) vs v

apart : (xs : List ℕ) (x : ℕ) → AllByRecursion (λ y. nat_eq x y ≡ false) xs → Contains xs x → ⊥
apart [] x a c = Contains-nil x c
apart (y ∷ ys) x a c = by (Contains-cons_cases y ys x c) (apart ys x a.1)
  where
    by : (y ≡ x) ⊎ Contains ys x → (Contains ys x → ⊥) → ⊥
    by (inl e) r = eqb-false x y a.0 (sym e)
    by (inr t) r = r t

-- the vertices of `rest` are to be placed after those of `done`
record IsNew (n : ℕ) (done rest : List ℕ) : Type 0 where
  within : All (λ v. v < n) rest
  distinct : IsDistinct nat_eq rest
  new : (u : ℕ) → Contains rest u → Contains done u → ⊥

head_new : (n : ℕ) (done : List ℕ) (v : ℕ) (rest : List ℕ) → IsNew n done (v ∷ rest) → Contains rest v → ⊥
head_new n done v rest d = apart rest v (IsDistinct-head nat_eq v rest d.distinct)

tail_new : (n : ℕ) (done : List ℕ) (v : ℕ) (rest : List ℕ) → IsNew n done (v ∷ rest) → IsNew n (done ++ v ∷ []) rest
tail_new n done v rest d = record {
  within = All-tail (λ u. u < n) v rest d.within;
  distinct = IsDistinct-tail nat_eq v rest d.distinct;
  new = λ u c e. by u c (Contains-push_cases done v u e);
}
  where
    by : (u : ℕ) → Contains rest u → Contains done u ⊎ (v ≡ u) → ⊥
    by u c (inl e) = d.new u (Contains_later v rest u c) e
    by u c (inr e) = head_new n done v rest d (subst (Contains rest) (sym e) c)

-- a vertex that isn't placed keeps its block
block_stays : (h : Hyper) (vs : List ℕ) (s : Placing) (u : ℕ) → (Contains vs u → ⊥) → block_of (placed h s vs).blocks u ≡ block_of s.blocks u
block_stays h [] s u n = refl
block_stays h (v ∷ vs) s u n =
    block_stays h vs (placed_one h s v) u (λ c. n (Contains_later v vs u c))
    ∙ get_or-set_other s.blocks v u (taken_block h s.loads v) 0 (λ e. n (subst (Contains (v ∷ vs)) (sym e) (Contains_head v vs)))

module _ (h : Hyper) (k : ℕ) (good : IsHypergraph h) (fixed : IsFixedWithin h k) (some : 0 < k) where
  -- the loads are the weights placed so far
  record Keeps (done : List ℕ) (s : Placing) : Type 0 where
    sound : IsSound h k good fixed some s
    weights : (b : ℕ) → b < k → slice_index s.loads b ≡ weight_placed h s.blocks done b

  unplaced_keeps : Keeps [] (unplaced h k)
  unplaced_keeps = record { sound = unplaced_sound h k good fixed some; weights = λ b l. get_or-replicate k b 0 0 l }

  one_keeps : (done : List ℕ) (s : Placing) (v : ℕ) → v < vertex_count h → (Contains done v → ⊥) → Keeps done s → Keeps (done ++ v ∷ []) (placed_one h s v)
  one_keeps done s v l n d = record { sound = one_sound h k good fixed some s v d.sound; weights = weight }
    where
      t : ℕ
      t = taken_block h s.loads v

      low : t < k
      low = taken_below h k good fixed some s.loads v d.sound.loads

      here : block_of (placed_one h s v).blocks v ≡ taken_block h s.loads v
      here = get_or-set_same s.blocks v (taken_block h s.loads v) 0 (let e = d.sound.blocks in omega arith)

      before : (b : ℕ) → weight_placed h (placed_one h s v).blocks done b ≡ weight_placed h s.blocks done b
      before b = weight_placed-same h (placed_one h s v).blocks s.blocks done b (λ u c. get_or-set_other s.blocks v u (taken_block h s.loads v) 0
          (λ e. n (subst (Contains done) e c)))

      pushed : (b : ℕ) → weight_placed h (placed_one h s v).blocks (done ++ v ∷ []) b ≡ weight_placed h s.blocks done b + weight_if
          (taken_block h s.loads v) b
          (weight_of h v)
      pushed b = weight_placed_push h (placed_one h s v).blocks done v b ∙ ap₂ (λ x y. x + weight_if y b (weight_of h v)) (before b) here

      loaded : (b : ℕ) → b < k → slice_index (placed_one h s v).loads b ≡ slice_index s.loads b + weight_if (taken_block h s.loads v) b (weight_of h v)
      loaded b m = by (cases_eq b (taken_block h s.loads v))
        where
          by : (b ≡ taken_block h s.loads v) ⊎ (b ≡ taken_block h s.loads v → ⊥) → slice_index (placed_one h s v).loads b ≡ slice_index s.loads b +
              weight_if
              (taken_block h s.loads v) b (weight_of h v)
          by (inl e) =
              subst (λ c. slice_index (placed_one h s v).loads c ≡ slice_index s.loads c + weight_if (taken_block h s.loads v) c (weight_of h v)) (sym e)
              (get_or-set_same s.loads (taken_block h s.loads v) (slice_index s.loads (taken_block h s.loads v) + weight_of h v) 0 (let a = d.sound.loads in
              let c = low in omega arith)
              ∙ ap (λ x. slice_index s.loads (taken_block h s.loads v) + x)
              (sym (weight_if-same (taken_block h s.loads v) (taken_block h s.loads v) (weight_of h v) refl)))
          by (inr q) =
              let a = get_or-set_other s.loads (taken_block h s.loads v) b (slice_index s.loads (taken_block h s.loads v) + weight_of h v) 0 q in
              let z = weight_if-other (taken_block h s.loads v) b (weight_of h v) (λ e. q (sym e)) in
              omega arith

      weight : (b : ℕ) → b < k → slice_index (placed_one h s v).loads b ≡ weight_placed h (placed_one h s v).blocks (done ++ v ∷ []) b
      weight b m = let a = loaded b m in let c = pushed b in let e = d.weights b m in omega arith

  placed_keeps : (rest done : List ℕ) (s : Placing) → IsNew (vertex_count h) done rest → Keeps done s → Keeps (done ++ rest) (placed h s rest)
  placed_keeps [] done s d e = subst (λ xs. Keeps xs s) (sym (append-nil done)) e
  placed_keeps (v ∷ rest) done s d e =
      subst (λ xs. Keeps xs (placed h s (v ∷ rest))) (append_assoc done (v ∷ []) rest)
      (placed_keeps rest (done ++ v ∷ []) (placed_one h s v) (tail_new (vertex_count h) done v rest d)
      (one_keeps done s v (All-head (λ u. u < vertex_count h) v rest d.within) (λ c. d.new v (Contains_head v rest) c) e))

  -- the vertex at place i takes the block that the loads before it say, and these are the weights placed before it
  record At (done rest : List ℕ) (s : Placing) (i : ℕ) : Type 0 where
    takes : block_of (placed h s rest).blocks (slice_index rest i) ≡ taken_block h (placed h s (take i rest)).loads (slice_index rest i)
    weighs : (b : ℕ) → b < k → slice_index (placed h s (take i rest)).loads b ≡ weight_placed h (placed h s rest).blocks (done ++ take i rest) b

  at_each : (rest done : List ℕ) (s : Placing) → IsNew (vertex_count h) done rest → Keeps done s → (i : ℕ) → i < length rest → At done rest s i
  at_each [] done s d e i l = absurd (omega arith)
  at_each (v ∷ rest) done s d e zero l = record {
    takes = block_stays h rest (placed_one h s v) v (head_new (vertex_count h) done v rest d) ∙ get_or-set_same s.blocks v (taken_block h s.loads v) 0
        (let a = e.sound.blocks in let b = All-head (λ u. u < vertex_count h) v rest d.within in omega arith);
    weighs = λ b m.
        e.weights b m ∙ sym (weight_placed-same h (placed h s (v ∷ rest)).blocks s.blocks done b (λ u c. block_stays h (v ∷ rest) s u (λ f. d.new u f c)))
        ∙ ap (λ xs. weight_placed h (placed h s (v ∷ rest)).blocks xs b) (sym (append-nil done));
  }
  at_each (v ∷ rest) done s d e (suc i) l =
      let r = at_each rest (done ++ v ∷ []) (placed_one h s v) (tail_new (vertex_count h) done v rest d)
      (one_keeps done s v (All-head (λ u. u < vertex_count h) v rest d.within) (λ c. d.new v (Contains_head v rest) c) e) i (omega arith) in
      record {
        takes = r.takes;
        weighs = λ b m. r.weighs b m ∙ ap (λ xs. weight_placed h (placed h s (v ∷ rest)).blocks xs b) (append_assoc done (v ∷ []) (take i rest));
      }

-- ---- the order of placing

pub distinct_vertices : (h : Hyper) → IsDistinct nat_eq (vertices h)
distinct_vertices h = IsDistinct-from_apart nat_eq (vertices h) apart_at
  where
    apart_at : (i j : ℕ) (d : ℕ) → i < j → j < length (vertices h) → nat_eq (get_or (vertices h) i d) (get_or (vertices h) j d) ≡ false
    apart_at i j d l m =
        let n = length-range_with_len 0 (vertex_count h) in
        let a = get_or-range_with_len 0 (vertex_count h) i d (omega arith) in
        let b = get_or-range_with_len 0 (vertex_count h) j d (omega arith) in
        ne_eqb (get_or (vertices h) i d) (get_or (vertices h) j d) (λ e. absurd (omega arith))

pub vertices_within : (h : Hyper) → All (λ v. v < vertex_count h) (vertices h)
vertices_within h i d l =
    let n = length-range_with_len 0 (vertex_count h) in
    let a = get_or-range_with_len 0 (vertex_count h) i d (omega arith) in
    omega arith

not_not : (b : Bool) → b ≡ not (not b)
not_not true = refl
not_not false = refl

pub placing_order_permutation : (h : Hyper) (order : List ℕ) → ListsFree h order → IsPermutation (vertices h) (placing_order h order)
placing_order_permutation h order d =
    IsPermutation-trans (vertices h) (filter (λ v. not (is_free h v)) (vertices h) ++ filter (is_free h) (vertices h)) (placing_order h order)
    (IsPermutation-filter_both (λ v. not (is_free h v)) (is_free h) (λ v. not_not (is_free h v)) (vertices h))
    (IsPermutation-append_right (filter (λ v. not (is_free h v)) (vertices h)) (filter (is_free h) (vertices h)) order d)

placing_order_new : (h : Hyper) (order : List ℕ) → ListsFree h order → IsNew (vertex_count h) [] (placing_order h order)
placing_order_new h order d = record {
  within = All-permutation (λ v. v < vertex_count h) (vertices h) (placing_order h order) (placing_order_permutation h order d) (vertices_within h);
  distinct = IsDistinct-IsPermutation nat_eq nat_eq_equiv.symm (vertices h) (placing_order h order) (placing_order_permutation h order d)
      (distinct_vertices h);
  new = λ u c e. Contains-nil u e;
}

-- ---- the laws

module _ (h : Hyper) (k : ℕ) (order : List ℕ) (ready : IsPlaceable h k order) where
  kept_start : Keeps h k ready.hypergraph ready.fixed ready.blocks [] (unplaced h k)
  kept_start = unplaced_keeps h k ready.hypergraph ready.fixed ready.blocks

  new_start : IsNew (vertex_count h) [] (placing_order h order)
  new_start = placing_order_new h order ready.listed

  at_place : (i : ℕ) → i < length (placing_order h order) → At h k ready.hypergraph ready.fixed ready.blocks [] (placing_order h order) (unplaced h k) i
  at_place = at_each h k ready.hypergraph ready.fixed ready.blocks (placing_order h order) [] (unplaced h k) new_start kept_start

  sound_at : (i : ℕ) → IsSound h k ready.hypergraph ready.fixed ready.blocks (placed h (unplaced h k) (take i (placing_order h order)))
  sound_at i = placed_sound h k ready.hypergraph ready.fixed ready.blocks (take i (placing_order h order)) (unplaced h k)
      (unplaced_sound h k ready.hypergraph ready.fixed ready.blocks)

  is_placed_at : (i : ℕ) → i < length (placing_order h order) → IsPlacedAt h k (placing_order h order) (least_loaded h k order) i
  is_placed_at i l = record {
    fixed = λ f. (at_place i l).takes ∙ taken_fixed h (placed h (unplaced h k) (take i (placing_order h order))).loads
        (slice_index (placing_order h order) i)
        f;
    free = λ f.
        subst (IsFirstLeast (weight_placed h (least_loaded h k order) (take i (placing_order h order))) k)
        (sym ((at_place i l).takes ∙ taken_free h (placed h (unplaced h k) (take i (placing_order h order))).loads (slice_index (placing_order h order) i)
        f))
        (first_least-same (slice_index (placed h (unplaced h k) (take i (placing_order h order))).loads)
        (weight_placed h (least_loaded h k order) (take i (placing_order h order))) k
        (least (placed h (unplaced h k) (take i (placing_order h order))).loads)
        (λ c m. (at_place i l).weighs c m)
        (subst (λ n. IsFirstLeast (slice_index (placed h (unplaced h k) (take i (placing_order h order))).loads) n
        (least (placed h (unplaced h k) (take i (placing_order h order))).loads)) (sound_at i).loads
        (least_is (placed h (unplaced h k) (take i (placing_order h order))).loads (let e = (sound_at i).loads in let z = ready.blocks in omega arith))));
  }

pub least_loaded-in_turn : LeastLoadedIsInTurn
least_loaded-in_turn h k order ready i l = is_placed_at h k order ready i l

pub loads_are_kept : LoadsAreKept
loads_are_kept h k order i b ready m = by (cases_lt i (length (placing_order h order)))
  where
    by : (i < length (placing_order h order)) ⊎ (length (placing_order h order) ≤ i)
        → slice_index (placed h (unplaced h k) (take i (placing_order h order))).loads b ≡ weight_placed h (least_loaded h k order)
        (take i (placing_order h order)) b
    by (inl l) = (at_place h k order ready i l).weighs b m
    by (inr l) =
        subst (λ xs. slice_index (placed h (unplaced h k) xs).loads b ≡ weight_placed h (least_loaded h k order) xs b)
        (sym (take_all i (placing_order h order) l))
        ((placed_keeps h k ready.hypergraph ready.fixed ready.blocks (placing_order h order) [] (unplaced h k) (new_start h k order ready)
        (kept_start h k order ready)).weights b m)

-- the weights of all vertices, in whatever order, are the loads
pub weight_placed-load : (h : Hyper) (p vs : List ℕ) (b : ℕ) → length p ≡ vertex_count h → IsPermutation (vertices h) vs → weight_placed h p vs b ≡ load h
    p b
weight_placed-load h p vs b e d =
    total-permutation (λ v. weight_if (block_of p v) b (weight_of h v)) (vertices h) vs d
    ∙ total-range (λ v. weight_if (block_of p v) b (weight_of h v)) (vertex_count h)
    ∙ sym (weight_in-by_index h.weights p b (omega arith))

pub all_weights_are_placed : AllWeightsArePlaced
all_weights_are_placed h k order b ready =
    weight_placed-load h (least_loaded h k order) (placing_order h order) b (least_loaded-partition h k order ready.hypergraph ready.fixed
    ready.blocks).vertices (placing_order_permutation h order ready.listed)

-- two partitions that place the vertices in turn agree
module _ (h : Hyper) (k : ℕ) (vs p q : List ℕ) (in_turn : IsPlacedInTurn h k vs p) (too : IsPlacedInTurn h k vs q) where
  agree_upto : (i : ℕ) → (j : ℕ) → j < i → j < length vs → block_of p (slice_index vs j) ≡ block_of q (slice_index vs j)
  agree_upto zero j l m = absurd (omega arith)
  agree_upto (suc i) j l m = by (is_free h (slice_index vs j)) refl (agree_upto i)
    where
      by : (t : Bool) → is_free h (slice_index vs j) ≡ t → ((c : ℕ) → c < i → c < length vs → block_of p (slice_index vs c) ≡ block_of q
          (slice_index vs c)) →
          block_of p (slice_index vs j) ≡ block_of q (slice_index vs j)
      by true e r =
          first_least_same (weight_placed h q (take j vs)) k (block_of p (slice_index vs j)) (block_of q (slice_index vs j))
          (first_least-same (weight_placed h p (take j vs)) (weight_placed h q (take j vs)) k (block_of p (slice_index vs j))
          (λ b n. weight_placed-same h p q (take j vs) b same) ((in_turn j m).free (free_is h (slice_index vs j) e)))
          ((too j m).free (free_is h (slice_index vs j) e))
        where
          same : (v : ℕ) → Contains (take j vs) v → block_of p v ≡ block_of q v
          same v c =
              let n = length-take j vs in
              let low : c.0 < j = let a = c.1 in omega arith in
              let is : slice_index vs c.0 ≡ v = sym (get_or-take j vs c.0 0 low) ∙ get_or_default (take j vs) c.0 0 v c.1 ∙ c.2 in
              subst (λ x. block_of p x ≡ block_of q x) is (r c.0 (omega arith) (let a = c.1 in omega arith))
      by false e r = (in_turn j m).fixed (fixed_is h (slice_index vs j) e) ∙ sym ((too j m).fixed (fixed_is h (slice_index vs j) e))

pub only_least_loaded-in_turn : OnlyLeastLoadedIsInTurn
only_least_loaded-in_turn h k order p ready e in_turn =
    ext_get_or 0 p (least_loaded h k order) (e ∙ sym whole.vertices) agrees
  where
    whole : IsPartition h k (least_loaded h k order)
    whole = least_loaded-partition h k order ready.hypergraph ready.fixed ready.blocks

    agrees : (v : ℕ) → v < length p → block_of p v ≡ block_of (least_loaded h k order) v
    agrees v l =
        let c = Contains-permutation (vertices h) (placing_order h order) v (placing_order_permutation h order ready.listed)
        (Contains_vertices h v (omega arith)) in
        subst (λ u. block_of p u ≡ block_of (least_loaded h k order) u) (get_or_default (placing_order h order) c.0 0 v c.1 ∙ c.2)
        (agree_upto h k (placing_order h order) p (least_loaded h k order) in_turn (least_loaded-in_turn h k order ready) (suc c.0) c.0 (omega arith) c.1)

-- ---- overfilling

-- what the block of the vertex at place i holds once it is placed
full_at : Hyper → Placing → List ℕ → ℕ → ℕ
full_at h s vs i = slice_index (placed h s (take i vs)).loads (taken_block h (placed h s (take i vs)).loads (slice_index vs i)) + weight_of h
    (slice_index vs i)

record FoundFull (h : Hyper) (l : ℕ) (s : Placing) (vs : List ℕ) (v i : ℕ) : Type 0 where
  within : i < length vs
  is : v ≡ slice_index vs i
  past : l < full_at h s vs i
  first : (j : ℕ) → j < i → full_at h s vs j ≤ l

over_some : (h : Hyper) (l : ℕ) (vs : List ℕ) (s : Placing) (v : ℕ) → first_overfilling h l s vs ≡ Some v → (i : ℕ) × FoundFull h l s vs v i
unfolding full_at
over_some h l [] s v e = absurd (none_is_none v e)
  where
    none_is_none : (u : ℕ) → None ≡ Some u → ⊥
    none_is_none u e = cc
over_some h l (u ∷ vs) s v e = by (nat_le (slice_index s.loads (taken_block h s.loads u) + weight_of h u) l) refl e (over_some h l vs (placed_one h s u) v)
  where
    by : (t : Bool) → nat_le (slice_index s.loads (taken_block h s.loads u) + weight_of h u) l ≡ t →
        (if t then first_overfilling h l (placed_one h s u) vs else Some u) ≡ Some v
        → (first_overfilling h l (placed_one h s u) vs ≡ Some v → (i : ℕ) × FoundFull h l (placed_one h s u) vs v i) → (i : ℕ) × FoundFull h l s (u ∷ vs) v
        i
    by true f g r =
        let x = r g in (
          suc x.0,
          record {
            within = let a = x.1.within in omega arith;
            is = x.1.is;
            past = x.1.past;
            first = before x.0 x.1;
          },
        )
      where
        before : (i : ℕ) → FoundFull h l (placed_one h s u) vs v i → (j : ℕ) → j < suc i → full_at h s (u ∷ vs) j ≤ l
        before i x zero m = leb-true (slice_index s.loads (taken_block h s.loads u) + weight_of h u) l f
        before i x (suc j) m = x.first j (omega arith)
    by false f g r = (
      0,
      record {
        within = omega arith;
        is = same u v g;
        past = leb-false (slice_index s.loads (taken_block h s.loads u) + weight_of h u) l f;
        first = λ j m. absurd (omega arith);
      },
    )
      where
        same : (a b : ℕ) → Some a ≡ Some b → b ≡ a
        same a b e = cc

over_none : (h : Hyper) (l : ℕ) (vs : List ℕ) (s : Placing) → first_overfilling h l s vs ≡ None → (i : ℕ) → i < length vs → full_at h s vs i ≤ l
unfolding full_at
over_none h l [] s e i m = absurd (omega arith)
over_none h l (u ∷ vs) s e i m = by (nat_le (slice_index s.loads (taken_block h s.loads u) + weight_of h u) l) refl e (over_none h l vs (placed_one h s u))
    i m
  where
    by : (t : Bool) → nat_le (slice_index s.loads (taken_block h s.loads u) + weight_of h u) l ≡ t →
        (if t then first_overfilling h l (placed_one h s u) vs else Some u) ≡ None
        → (first_overfilling h l (placed_one h s u) vs ≡ None → (j : ℕ) → j < length vs → full_at h (placed_one h s u) vs j ≤ l) → (j : ℕ) →
        j < suc (length vs) → full_at h s (u ∷ vs) j ≤ l
    by true f g r zero n = leb-true (slice_index s.loads (taken_block h s.loads u) + weight_of h u) l f
    by true f g r (suc j) n = r g j (omega arith)
    by false f g r j n = absurd (some_is_none u g)
      where
        some_is_none : (a : ℕ) → Some a ≡ None → ⊥
        some_is_none a e = cc

module _ (h : Hyper) (k : ℕ) (order : List ℕ) (ready : IsPlaceable h k order) where
  full_is : (i : ℕ) → i < length (placing_order h order) → full_at h (unplaced h k) (placing_order h order) i ≡ weight_placed h (least_loaded h k order)
      (take (i + 1) (placing_order h order)) (block_of (least_loaded h k order) (slice_index (placing_order h order) i))
  unfolding full_at
  full_is i l =
      let a = at_place h k order ready i l in
      let s = (sound_at h k order ready i).loads in
      let low = taken_below h k ready.hypergraph ready.fixed ready.blocks (placed h (unplaced h k) (take i (placing_order h order))).loads
      (slice_index (placing_order h order) i) s in
      let b = taken_block h (placed h (unplaced h k) (take i (placing_order h order))).loads (slice_index (placing_order h order) i) in
      let more = weight_placed_push h (least_loaded h k order) (take i (placing_order h order)) (slice_index (placing_order h order) i) b in
      let same = weight_if-same (block_of (least_loaded h k order) (slice_index (placing_order h order) i)) b
      (weight_of h (slice_index (placing_order h order) i)) a.takes in
      let w = a.weighs b low in
      let sum : full_at h (unplaced h k) (placing_order h order) i ≡ weight_placed h (least_loaded h k order)
      (take i (placing_order h order) ++ slice_index (placing_order h order) i ∷ []) b = omega arith in
      sum ∙ ap₂ (weight_placed h (least_loaded h k order)) (sym (take_more (placing_order h order) i 0 l)) (sym a.takes)

  first_overfilling_is : (l v : ℕ) → first_overfilling h l (unplaced h k) (placing_order h order) ≡ Some v → (i : ℕ) × IsFirstOverfilling h l
      (placing_order h order) (least_loaded h k order) i × (v ≡ slice_index (placing_order h order) i)
  first_overfilling_is l v e =
      let x = over_some h l (placing_order h order) (unplaced h k) v e in (
        x.0,
        record {
          within = x.1.within;
          past = subst (λ n. l < n) (full_is x.0 x.1.within) x.1.past;
          first = λ j m. let w = x.1.within in let e = full_is j (omega arith) in let a = x.1.first j m in omega arith;
        },
        x.1.is,
      )

  weight_upto : (l b : ℕ) → first_overfilling h l (unplaced h k) (placing_order h order) ≡ None → (i : ℕ) → i ≤ length (placing_order h order) →
      weight_placed h (least_loaded h k order) (take i (placing_order h order)) b ≤ l
  weight_upto l b e zero m = omega arith
  weight_upto l b e (suc i) m = by (cases_eq (block_of (least_loaded h k order) (slice_index (placing_order h order) i)) b)
      (weight_upto l b e i (omega arith))
    where
      v : ℕ
      v = slice_index (placing_order h order) i

      by : (block_of (least_loaded h k order) (slice_index (placing_order h order) i) ≡ b) ⊎
          (block_of (least_loaded h k order) (slice_index (placing_order h order) i) ≡ b → ⊥)
          → weight_placed h (least_loaded h k order) (take i (placing_order h order)) b ≤ l → weight_placed h (least_loaded h k order)
          (take (suc i) (placing_order h order)) b ≤ l
      by (inl q) r =
          let a = over_none h l (placing_order h order) (unplaced h k) e i (omega arith) in
          let f = full_is i (omega arith) in
          subst (λ n. weight_placed h (least_loaded h k order) (take n (placing_order h order)) b ≤ l) (add-one i)
          (subst (λ c. weight_placed h (least_loaded h k order) (take (i + 1) (placing_order h order)) c ≤ l) q (omega arith))
      by (inr q) r =
          let z = weight_if-other (block_of (least_loaded h k order) (slice_index (placing_order h order) i)) b
          (weight_of h (slice_index (placing_order h order) i)) q in
          let p = weight_placed_push h (least_loaded h k order) (take i (placing_order h order)) (slice_index (placing_order h order) i) b in
          subst (λ xs. weight_placed h (least_loaded h k order) xs b ≤ l) (sym (take_more (placing_order h order) i 0 (omega arith)) ∙
          ap (λ n. take n (placing_order h order)) (add-one i)) (omega arith)

pub overfilling_is_first : OverfillingIsFirst
overfilling_is_first h k l order v ready e = first_overfilling_is h k order ready l v e

pub none_overfills : NoneOverfillsWhereItFits
none_overfills h k l order ready e b m =
    let a = weight_upto h k order ready l b e (length (placing_order h order)) (omega arith) in
    let t = ap (λ xs. weight_placed h (least_loaded h k order) xs b) (take_all (length (placing_order h order)) (placing_order h order) (omega arith)) in
    let w = all_weights_are_placed h k order b ready in
    omega arith

pub one_overfills : OneOverfillsWhereItDoesNotFit
one_overfills h k l order v ready e fits =
    let x = first_overfilling_is h k order ready l v e in
    let u = slice_index (placing_order h order) x.0 in
    let b = block_of (least_loaded h k order) u in
    let whole = least_loaded-partition h k order ready.hypergraph ready.fixed ready.blocks in
    let inside : u < vertex_count h = (new_start h k order ready).within x.0 0 x.1.within in
    let low : b < k = whole.blocks u 0 (let n = whole.vertices in omega arith) in
    let f = fits b low in
    let w = all_weights_are_placed h k order b ready in
    let t = total-take-le (λ v. weight_if (block_of (least_loaded h k order) v) b (weight_of h v)) (placing_order h order) (x.0 + 1) in
    let past : l < weight_placed h (least_loaded h k order) (take (x.0 + 1) (placing_order h order)) b = x.1.past in
    omega arith

-- ---- the heaviest first

pub heaviest_first-lists_free : HeaviestFirstListsFree
heaviest_first-lists_free h = by_key-permutation heavier_first (weight_of h) (filter (is_free h) (vertices h))

-- the vertices that pass a test are distinct
pub apart_vertices : (h : Hyper) (test : ℕ → Bool) → AllPairs (λ x y. x ≢ y) (filter test (vertices h))
apart_vertices h test = AllPairs-filter (λ x y. x ≢ y) test (vertices h) (AllPairs-from_IsDistinct Decides-eqb (vertices h) (distinct_vertices h))

pub heaviest_go_first : HeaviestGoFirst
heaviest_go_first h i j d l m =
    heavier_goes_first (weight_of h (get_or (heaviest_first h) i d), get_or (heaviest_first h) i d) (
      weight_of h (get_or (heaviest_first h) j d),
      get_or (heaviest_first h) j d,
    )
    (by_key-pairs heavier_first_total heavier_first_exact (weight_of h) (filter (is_free h) (vertices h)) (apart_vertices h (is_free h)) i j d l m)

-- ---- greedy placement

pub greedy-placeable : (h : Hyper) (k : ℕ) → IsHypergraph h → IsFixedWithin h k → 0 < k → IsPlaceable h k (heaviest_first h)
greedy-placeable h k good fixed some = record { hypergraph = good; fixed = fixed; blocks = some; listed = heaviest_first-lists_free h }

pub greedy-partition : GreedyIsPartition
greedy-partition h k good fixed some = least_loaded-partition h k (heaviest_first h) good fixed some

pub greedy-obeys : GreedyObeys
greedy-obeys h k good fixed some = least_loaded-obeys h k (heaviest_first h) good fixed some

pub greedy-fits : GreedyFits
greedy-fits h k l good fixed some e = none_overfills h k l (heaviest_first h) (greedy-placeable h k good fixed some) e

pub greedy-does_not_fit : GreedyDoesNotFit
greedy-does_not_fit h k l v good fixed some e = one_overfills h k l (heaviest_first h) v (greedy-placeable h k good fixed some) e

-- keys of the free vertices, sorted, give the order of greedy placement
pub heaviest_first_is : (h : Hyper) (keys sorted_keys : List (Reverse ℕ × ℕ)) → map heavy_key keys ≡ map (λ v. (weight_of h v, v))
    (filter (is_free h) (vertices h)) → IsPermutation keys sorted_keys → IsSorted heavy_key_cmp sorted_keys
    → map (λ (a : Reverse ℕ × ℕ). a.1) sorted_keys ≡ heaviest_first h
heaviest_first_is h keys sorted_keys e p s =
    seconds_of sorted_keys ∙ ap (map (λ (a : ℕ × ℕ). a.1)) (heavy_keys_sorted keys sorted_keys p s ∙ ap (sorted heavier_first) e)
  where
    seconds_of : (xs : List (Reverse ℕ × ℕ)) → map (λ (a : Reverse ℕ × ℕ). a.1) xs ≡ map (λ (a : ℕ × ℕ). a.1) (map heavy_key xs)
    seconds_of [] = refl
    seconds_of (x ∷ xs) = ap (λ us. x.1 ∷ us) (seconds_of xs)
