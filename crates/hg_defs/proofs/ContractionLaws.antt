-- Laws of contraction.
use Rattle.std.proofs.Common.{◌≡◌, ◌≢◌, ℕ, zero, suc, ◌+◌, ◌*◌, ◌<◌, ◌≤◌, ◌⊎◌, inl, inr, Bool, true, false, not, ◌&&◌, cond, if◌then◌else◌, nat_eq, nat_le}
use Rattle.std.proofs.Common.{List, [], ◌∷◌, map, filter, length, get_or, slice_index, All, Contains, refl, sym, ap, ap₂, ◌∙◌, subst, arith, true≢false}
use Rattle.std.proofs.Common.{Ordering, Less, Equal, Greater, is_eq, nat_cmp, mul-le-mul_left, le_trans, lt_of_le_of_lt, ◌^◌}
use Rattle.std.proofs.lemmas.Bool.{and_parts, and_from, eqb-true, ne_eqb, eq-eqb, leb-true, le-leb, cases_lt}
use Rattle.std.proofs.lemmas.Cmp.{tied_itself, nat_cmp_total, nat_eq_equiv}
use Rattle.std.proofs.lemmas.List.{length-map, get_or-map, get_or_default}
use Rattle.std.proofs.lemmas.List.Elements.{All-head, All-tail, All-map, All-weaker, All-contains, Contains-get_or}
use Rattle.std.proofs.lemmas.List.FromFn.{length-range_with_len, get_or-range_with_len, length-map-range_with_len, get_or-map-range_with_len}
use Rattle.std.proofs.lemmas.Map.Keys.{sorted_head, sorted_tail}
use Rattle.std.specs.Cmp.Lexicographic.{slice_cmp}
use Rattle.std.specs.List.{range_with_len, AllByRecursion}
use Rattle.std.specs.List.Sorted.{IsStrictlySortedBy}
use Rattle.std.specs.Set.{distinct_count, is_member}
use Rattle.std.specs.List.{IsDistinct}
use Rattle.std.proofs.lemmas.Map.Made.{length-le_from_is_member, is_member-Decides}
use Rattle.std.proofs.lemmas.Map.Keys.{IsDistinct-from_apart}
use Rattle.std.proofs.lemmas.Bool.Decides.{Decides-eqb}
use Rattle.hg_defs.specs.declared.objective.Objective.{Objective}
use Rattle.hg_defs.specs.declared.objective.TheConstants.{FREE}
use Rattle.hg_defs.specs.Sums.{total, sum_below}
use Rattle.hg_defs.specs.Sorting.{set_of, joined}
use Rattle.std.specs.Ordering.{match_ordering}
use Rattle.hg_defs.specs.Hypergraph.{Net, IsNet, Hyper, vertex_count, net_count, pin_count, total_net_weight, fix_of}
use Rattle.hg_defs.specs.Partition.{block_of, weight_in}
use Rattle.hg_defs.specs.Cost.{connectivity, price, net_cost}
use Rattle.hg_defs.specs.Contraction.{image, images, merged_weight, fix_in, contract, after}
use Rattle.hg_defs.specs.ContractionLaws.{IsContractible, ContractionIsHypergraph, ContractionKeepsWeight, ContractionKeepsLimits}
use Rattle.hg_defs.specs.ContractionLaws.{ContractionKeepsCost, ContractionKeepsLoads, FittingIsProjected, FittingIsLifted}
use Rattle.hg_defs.specs.ContractionLaws.{PartitionIsProjected, PartitionIsLifted, FixesAreProjected, FixesAreLifted, FixesStayWithin}
use Rattle.hg_defs.proofs.SumLaws.{weight_if, weight_if-same, weight_if-other, total-map, total-same, total-swap, total-scale_right, total-range, total-le}
use Rattle.hg_defs.proofs.SumLaws.{sum_below-zero, sum_below-same, sum_below-add, sum_below-only, weight_in-by_index, weight_in-blocks}
use Rattle.hg_defs.proofs.SortLaws.{Contains_head, Contains_later, Contains-cons_cases, Contains-nil, strict-set_of, Contains-set_of}
use Rattle.hg_defs.proofs.SortLaws.{Contains-from_set_of, length-set_of-le, increasing-set_of, nat_cmp_exact, lists_exact, lists_cmp_total}
use Rattle.hg_defs.proofs.DistinctLaws.{Contains-map, Contains-from_map, distinct_count-map_same, connectivity-le}
use Rattle.hg_defs.proofs.PlacementLaws.{Contains_filter}

-- ---- partitions before and after

pub length-after : (p clusters : List ℕ) → length (after p clusters) ≡ length clusters
length-after p clusters = length-map clusters (block_of p)

pub block_of-after : (p clusters : List ℕ) (v : ℕ) → v < length clusters → block_of (after p clusters) v ≡ block_of p (slice_index clusters v)
block_of-after p clusters v l = get_or-map (block_of p) clusters v 0 0 l

cluster_below : (h : Hyper) (clusters : List ℕ) (count : ℕ) → IsContractible h clusters count → (v : ℕ) → v < vertex_count h →
    slice_index clusters v < count
cluster_below h clusters count c v l = c.full.below v 0 (let e = c.full.vertices in omega arith)

pub partition_projected : PartitionIsProjected
partition_projected h clusters count k p c whole = record {
  vertices = length-after p clusters ∙ c.full.vertices;
  blocks = All-map (λ b. b < k) (block_of p) clusters (All-weaker (λ i. i < count) (λ i. block_of p i < k) low clusters c.full.below);
}
  where
    low : (i : ℕ) → i < count → block_of p i < k
    low i l = whole.blocks i 0 (let e = whole.vertices in let n = length-map-range_with_len (weight_in h.weights clusters) 0 count in omega arith)

pub partition_lifted : PartitionIsLifted
partition_lifted h clusters count k p c long whole = record {
  vertices = long ∙ sym (length-map-range_with_len (weight_in h.weights clusters) 0 count);
  blocks = λ i d l. subst (λ b. b < k) (get_or_default p i 0 d l) (low i (omega arith));
}
  where
    low : (i : ℕ) → i < count → block_of p i < k
    low i l =
        let u = c.full.used i l in
        let e = get_or_default clusters u.0 0 i u.1 ∙ u.2 in
        subst (λ b. b < k) (block_of-after p clusters u.0 u.1 ∙ ap (block_of p) e) (whole.blocks u.0 0 (let n = length-after p clusters in let m = u.1 in
        omega arith))

-- ---- loads

weight_if-add : (x b u w : ℕ) → weight_if x b (u + w) ≡ weight_if x b u + weight_if x b w
weight_if-add x b u w = by (nat_eq x b)
  where
    by : (t : Bool) → (if t then u + w else 0) ≡ (if t then u else 0) + (if t then w else 0)
    by true = refl
    by false = refl

weight_if-zero : (x b : ℕ) → weight_if x b 0 ≡ 0
weight_if-zero x b = by (nat_eq x b)
  where
    by : (t : Bool) → (if t then zero else zero) ≡ zero
    by true = refl
    by false = refl

-- the weight of the fine vertices in a block, cluster by cluster
weight_in-clusters : (ws clusters p : List ℕ) (b count : ℕ) → All (λ i. i < count) clusters → weight_in ws (map (block_of p) clusters) b ≡ sum_below
    (λ i. weight_if (block_of p i) b (weight_in ws clusters i)) count
weight_in-clusters [] clusters p b count h = sym (sum_below-zero (λ i. weight_if (block_of p i) b 0) count (λ i l. weight_if-zero (block_of p i) b))
weight_in-clusters (w ∷ ws) [] p b count h = sym (sum_below-zero (λ i. weight_if (block_of p i) b 0) count (λ i l. weight_if-zero (block_of p i) b))
weight_in-clusters (w ∷ ws) (c ∷ clusters) p b count h =
    let e = weight_in-clusters ws clusters p b count (All-tail (λ i. i < count) c clusters h) in
    let s = sum_below-same (λ i. weight_if (block_of p i) b (weight_if c i w + weight_in ws clusters i))
    (λ i. weight_if (block_of p i) b (weight_if c i w) +
    weight_if (block_of p i) b (weight_in ws clusters i)) count (λ i l. weight_if-add (block_of p i) b (weight_if c i w) (weight_in ws clusters i)) in
    let a = sum_below-add (λ i. weight_if (block_of p i) b (weight_if c i w)) (λ i. weight_if (block_of p i) b (weight_in ws clusters i)) count in
    let o = sum_below-only (λ i. weight_if (block_of p i) b (weight_if c i w)) count c (All-head (λ i. i < count) c clusters h)
    (λ j l q. ap (weight_if (block_of p j) b) (weight_if-other c j w (λ r. q (sym r))) ∙ weight_if-zero (block_of p j) b) in
    let t = ap (weight_if (block_of p c) b) (weight_if-same c c w refl) in
    omega arith

pub loads_kept : ContractionKeepsLoads
loads_kept h clusters count p b c long =
    weight_in-clusters h.weights clusters p b count c.full.below
    ∙ subst (λ n. sum_below (λ i. weight_if (block_of p i) b (weight_in h.weights clusters i)) n ≡ sum_below
    (λ i. weight_if (block_of p i) b (slice_index coarse i)) (length coarse)) size same
    ∙ sym (weight_in-by_index coarse p b (let n = size in omega arith))
  where
    coarse : List ℕ
    coarse = map (weight_in h.weights clusters) (range_with_len 0 count)

    size : length coarse ≡ count
    size = length-map-range_with_len (weight_in h.weights clusters) 0 count

    same : sum_below (λ i. weight_if (block_of p i) b (weight_in h.weights clusters i)) (length coarse) ≡ sum_below
        (λ i. weight_if (block_of p i) b (slice_index coarse i)) (length coarse)
    same = sum_below-same (λ i. weight_if (block_of p i) b (weight_in h.weights clusters i)) (λ i. weight_if (block_of p i) b (slice_index coarse i))
        (length coarse)
        (λ i l. ap (weight_if (block_of p i) b) (sym (get_or-map-range_with_len (weight_in h.weights clusters) 0 count i i 0 (let n = size in omega arith)
        (omega arith))))

pub fitting_projected : FittingIsProjected
fitting_projected h clusters count k l p c long f b low = let e = loads_kept h clusters count p b c long in let a = f b low in omega arith

pub fitting_lifted : FittingIsLifted
fitting_lifted h clusters count k l p c long f b low = let e = loads_kept h clusters count p b c long in let a = f b low in omega arith

pub weight_kept : ContractionKeepsWeight
weight_kept h clusters count c =
    total-map (λ w. w) (weight_in h.weights clusters) (range_with_len 0 count)
    ∙ total-range (weight_in h.weights clusters) count
    ∙ weight_in-blocks h.weights clusters count (let e = c.full.vertices in omega arith) c.full.below

-- ---- images

-- the members of an image are the clusters of the pins
pub Contains-image : (clusters : List ℕ) (e : Net) (v : ℕ) → Contains e.pins v → Contains (image clusters e) (slice_index clusters v)
Contains-image clusters e v c = Contains-set_of nat_cmp_total nat_cmp_exact (map (slice_index clusters) e.pins) (slice_index clusters v)
    (Contains-map (slice_index clusters) e.pins v c)

pub Contains-from_image : (clusters : List ℕ) (e : Net) (i : ℕ) → Contains (image clusters e) i → (v : ℕ) × Contains e.pins v × (slice_index clusters v ≡ i)
Contains-from_image clusters e i c = Contains-from_map (slice_index clusters) e.pins i (Contains-from_set_of nat_cmp_total nat_cmp_exact
    (map (slice_index clusters) e.pins) i c)

pub length-image-le : (clusters : List ℕ) (e : Net) → length (image clusters e) ≤ length e.pins
length-image-le clusters e =
    let a = length-set_of-le nat_cmp (map (slice_index clusters) e.pins) in
    let b = length-map e.pins (slice_index clusters) in
    omega arith

Contains-from_filter : {A : Type 0} (test : A → Bool) (xs : List A) (x : A) → Contains (filter test xs) x → Contains xs x × (test x ≡ true)
Contains-from_filter test [] x c = absurd (Contains-nil x c)
Contains-from_filter {A} test (y ∷ ys) x c = by (test y) refl c (Contains-from_filter test ys x)
  where
    rest : Contains ys x × (test x ≡ true) → Contains (y ∷ ys) x × (test x ≡ true)
    rest t = (Contains_later y ys x t.0, t.1)

    by : (b : Bool) → test y ≡ b → Contains (cond b (y ∷ filter test ys) (filter test ys)) x →
        (Contains (filter test ys) x → Contains ys x × (test x ≡ true)) → Contains (y ∷ ys) x × (test x ≡ true)
    by true e d r = two (Contains-cons_cases y (filter test ys) x d)
      where
        two : (y ≡ x) ⊎ Contains (filter test ys) x → Contains (y ∷ ys) x × (test x ≡ true)
        two (inl q) = (subst (Contains (y ∷ ys)) q (Contains_head y ys), ap test (sym q) ∙ e)
        two (inr t) = rest (r t)
    by false e d r = rest (r d)

module _ (h : Hyper) (clusters : List ℕ) where
  abbrev is_wide : List ℕ → Bool
  is_wide i = nat_le 2 (length i)

  -- the images are those of the nets, with at least two clusters
  pub Contains-images : (e : Net) → Contains h.nets e → 2 ≤ length (image clusters e) → Contains (images h clusters) (image clusters e)
  Contains-images e c l =
      Contains-set_of lists_cmp_total lists_exact (filter is_wide (map (image clusters) h.nets)) (image clusters e)
      (Contains_filter is_wide (map (image clusters) h.nets) (image clusters e) (Contains-map (image clusters) h.nets e c)
      (le-leb 2 (length (image clusters e)) l))

  pub Contains-from_images : (i : List ℕ) → Contains (images h clusters) i → (e : Net) × Contains h.nets e × (image clusters e ≡ i) × (2 ≤ length i)
  Contains-from_images i c =
      let a = Contains-from_filter is_wide (map (image clusters) h.nets) i (Contains-from_set_of lists_cmp_total lists_exact
      (filter is_wide (map (image clusters) h.nets)) i c) in
      let b = Contains-from_map (image clusters) h.nets i a.0 in
      (b.0, b.1, b.2, leb-true 2 (length i) a.1)

  pub strict-images : IsStrictlySortedBy (slice_cmp nat_cmp) (images h clusters)
  strict-images = strict-set_of lists_cmp_total (filter is_wide (map (image clusters) h.nets))

  pub length-images-le : length (images h clusters) ≤ net_count h
  length-images-le =
      let a = length-set_of-le (slice_cmp nat_cmp) (filter is_wide (map (image clusters) h.nets)) in
      let b = length-filter-le (map (image clusters) h.nets) in
      let c = length-map h.nets (image clusters) in
      omega arith
    where
      length-filter-le : (xs : List (List ℕ)) → length (filter is_wide xs) ≤ length xs
      length-filter-le [] = omega arith
      length-filter-le (x ∷ xs) = by (is_wide x) (length-filter-le xs)
        where
          by : (b : Bool) → length (filter is_wide xs) ≤ length xs → length (cond b (x ∷ filter is_wide xs) (filter is_wide xs)) ≤ suc (length xs)
          by true r = omega arith
          by false r = omega arith

-- ---- costs

-- a sum over a set has one term for each element
only_term : (x : List ℕ) (w : ℕ) (g : List ℕ → ℕ) (xs : List (List ℕ)) → IsStrictlySortedBy (slice_cmp nat_cmp) xs → Contains xs x →
    total (λ i. (if is_eq (slice_cmp nat_cmp x i) then w else 0) * g i) xs ≡ w * g x
only_term x w g [] s c = absurd (Contains-nil x c)
only_term x w g (y ∷ ys) s c = by (slice_cmp nat_cmp x y) refl (Contains-cons_cases y ys x c) (only_term x w g ys (sorted_tail (slice_cmp nat_cmp) y ys s))
  where
    none : (zs : List (List ℕ)) → x ≡ y → AllByRecursion (λ z. slice_cmp nat_cmp y z ≡ Less) zs →
        total (λ i. (if is_eq (slice_cmp nat_cmp x i) then w else 0) * g i) zs ≡ 0
    none [] e a = refl
    none (z ∷ zs) e a = ap₂ (λ r n. (if is_eq r then w else 0) * g z + n) (ap (λ u. slice_cmp nat_cmp u z) e ∙ a.0) (none zs e a.1) ∙ omega arith

    by : (r : Ordering) → slice_cmp nat_cmp x y ≡ r → (y ≡ x) ⊎ Contains ys x →
        (Contains ys x → total (λ i. (if is_eq (slice_cmp nat_cmp x i) then w else 0) * g i) ys ≡ w * g x)
        → (if is_eq r then w else 0) * g y + total (λ i. (if is_eq (slice_cmp nat_cmp x i) then w else 0) * g i) ys ≡ w * g x
    by Equal e t r =
        let same = lists_exact x y e in
        let z = none ys same (sorted_head (slice_cmp nat_cmp) y ys s) in
        let q = ap g same in
        ap₂ (λ m n. w * m + n) (sym q) z ∙ omega arith
    by Less e (inl q) r = absurd (apart Less e q refl)
      where
        apart : (r : Ordering) → slice_cmp nat_cmp x y ≡ r → y ≡ x → is_eq r ≡ false → ⊥
        apart r e q f = true≢false (sym (ap is_eq (ap (slice_cmp nat_cmp x) q ∙ tied_itself lists_cmp_total x)) ∙ ap is_eq e ∙ f)
    by Less e (inr t) r = let a = r t in omega arith
    by Greater e (inl q) r = absurd (true≢false (sym (ap is_eq (ap (slice_cmp nat_cmp x) q ∙ tied_itself lists_cmp_total x)) ∙ ap is_eq e))
    by Greater e (inr t) r = let a = r t in omega arith

-- no element is the one
no_term : (x : List ℕ) (w : ℕ) (g : List ℕ → ℕ) (xs : List (List ℕ)) → (Contains xs x → ⊥) →
    total (λ i. (if is_eq (slice_cmp nat_cmp x i) then w else 0) * g i) xs ≡ 0
no_term x w g [] c = refl
no_term x w g (y ∷ ys) c = by (slice_cmp nat_cmp x y) refl (no_term x w g ys (λ t. c (Contains_later y ys x t)))
  where
    by : (r : Ordering) → slice_cmp nat_cmp x y ≡ r → total (λ i. (if is_eq (slice_cmp nat_cmp x i) then w else 0) * g i) ys ≡ 0 →
        (if is_eq r then w else 0) * g y + total (λ i. (if is_eq (slice_cmp nat_cmp x i) then w else 0) * g i) ys ≡ 0
    by Equal e r = absurd (c (subst (Contains (y ∷ ys)) (sym (lists_exact x y e)) (Contains_head y ys)))
    by Less e r = omega arith
    by Greater e r = omega arith

price_of_one : (o : Objective) (n : ℕ) → n ≤ 1 → price o n ≡ 0
price_of_one o zero l = refl
price_of_one o (suc zero) l = refl
price_of_one o (suc (suc n)) l = absurd (omega arith)

-- a net touches in the fine partition the blocks that its image touches
pub connectivity-after : (n : ℕ) (p clusters : List ℕ) (e : Net) → length clusters ≡ n → All (λ v. v < n) e.pins → connectivity (after p clusters) e.pins ≡
    connectivity p (image clusters e)
connectivity-after n p clusters e long low =
    ap (λ bs. distinct_count nat_eq bs) (fine e.pins low)
    ∙ distinct_count-map_same (block_of p) (map (slice_index clusters) e.pins) (image clusters e)
    (λ i c. Contains-set_of nat_cmp_total nat_cmp_exact (map (slice_index clusters) e.pins) i c) (λ i c. Contains-from_set_of nat_cmp_total nat_cmp_exact
    (map (slice_index clusters) e.pins) i c)
  where
    fine : (vs : List ℕ) → All (λ v. v < n) vs → map (block_of (after p clusters)) vs ≡ map (block_of p) (map (slice_index clusters) vs)
    fine [] a = refl
    fine (v ∷ vs) a =
        ap₂ (λ (x : ℕ) (xs : List ℕ). x ∷ xs) (block_of-after p clusters v (let l = All-head (λ u. u < n) v vs a in omega arith))
        (fine vs (All-tail (λ u. u < n) v vs a))

pub cost_kept : ContractionKeepsCost
cost_kept h clusters count p c =
    total-same (net_cost h.objective (after p clusters)) (λ e. total (term e) (images h clusters)) h.nets each
    ∙ total-swap term h.nets (images h clusters)
    ∙ total-same (λ i. total (λ e. term e i) h.nets) (λ i. merged_weight h clusters i * price h.objective (connectivity p i)) (images h clusters)
    (λ k d l. total-scale_right (price h.objective (connectivity p (get_or (images h clusters) k d)))
    (λ e. if is_eq (slice_cmp nat_cmp (image clusters e) (get_or (images h clusters) k d)) then e.weight else 0) h.nets)
    ∙ sym (total-map (net_cost h.objective p) (λ i. record { weight = merged_weight h clusters i; pins = i }) (images h clusters))
  where
    term : Net → List ℕ → ℕ
    term e i = (if is_eq (slice_cmp nat_cmp (image clusters e) i) then e.weight else 0) * price h.objective (connectivity p i)

    each : All (λ e. net_cost h.objective (after p clusters) e ≡ total (term e) (images h clusters)) h.nets
    each k d l = one (get_or h.nets k d) (Contains-get_or h.nets k d l) (c.hypergraph.nets k d l)
      where
        one : (e : Net) → Contains h.nets e → IsNet (vertex_count h) e → net_cost h.objective (after p clusters) e ≡ total (term e) (images h clusters)
        one e m good = ap (λ n. e.weight * price h.objective n) (connectivity-after (vertex_count h) p clusters e c.full.vertices good.pins) ∙
            sym (by (cases_lt (length (image clusters e)) 2))
          where
            by : (length (image clusters e) < 2) ⊎ (2 ≤ length (image clusters e)) → total (term e) (images h clusters) ≡ e.weight * price h.objective
                (connectivity p (image clusters e))
            by (inr w) = only_term (image clusters e) e.weight (λ i. price h.objective (connectivity p i)) (images h clusters) (strict-images h clusters)
                (Contains-images h clusters e m w)
            by (inl w) =
                let a = no_term (image clusters e) e.weight (λ i. price h.objective (connectivity p i)) (images h clusters)
                (λ t. let x = Contains-from_images h clusters (image clusters e) t in let y = x.3 in absurd (omega arith)) in
                let z = price_of_one h.objective (connectivity p (image clusters e)) (let q = connectivity-le p (image clusters e) in omega arith) in
                a ∙ sym (ap (λ n. e.weight * n) z ∙ omega arith)

-- ---- fixes

fix_in-le : (fixes clusters : List ℕ) (i : ℕ) → All (λ f. f ≤ FREE) fixes → fix_in fixes clusters i ≤ FREE
fix_in-le [] clusters i a = omega arith
fix_in-le (f ∷ fixes) [] i a = omega arith
fix_in-le (f ∷ fixes) (c ∷ clusters) i a = by (nat_eq c i && not (nat_eq f FREE)) (fix_in-le fixes clusters i (All-tail (λ x. x ≤ FREE) f fixes a))
  where
    by : (t : Bool) → fix_in fixes clusters i ≤ FREE → (if t then f else fix_in fixes clusters i) ≤ FREE
    by true r = All-head (λ x. x ≤ FREE) f fixes a
    by false r = r

-- the fix of a cluster is that of one of its vertices
record HasFix (fixes clusters : List ℕ) (i v : ℕ) : Type 0 where
  within : v < length clusters
  inside : v < length fixes
  cluster : slice_index clusters v ≡ i
  fix : get_or fixes v FREE ≡ fix_in fixes clusters i

fix_in_found : (fixes clusters : List ℕ) (i : ℕ) → fix_in fixes clusters i ≢ FREE → (v : ℕ) × HasFix fixes clusters i v
fix_in_found [] clusters i n = absurd (n refl)
fix_in_found (f ∷ fixes) [] i n = absurd (n refl)
fix_in_found (f ∷ fixes) (c ∷ clusters) i n = by (nat_eq c i && not (nat_eq f FREE)) refl n (fix_in_found fixes clusters i)
  where
    by : (t : Bool) → (nat_eq c i && not (nat_eq f FREE)) ≡ t → (if t then f else fix_in fixes clusters i) ≢ FREE →
        (fix_in fixes clusters i ≢ FREE → (v : ℕ) × HasFix fixes clusters i v) → (v : ℕ) × HasFix (f ∷ fixes) (c ∷ clusters) i v
    by true e m r = (
      0,
      record {
        within = omega arith;
        inside = omega arith;
        cluster = eqb-true c i (and_parts (nat_eq c i) (not (nat_eq f FREE)) e).0;
        fix = ap (λ (t : Bool). if t then f else fix_in fixes clusters i) (sym e);
      },
    )
    by false e m r =
        let x = r m in (
          suc x.0,
          record {
            within = let w = x.1.within in omega arith;
            inside = let w = x.1.inside in omega arith;
            cluster = x.1.cluster;
            fix = x.1.fix ∙ ap (λ (t : Bool). if t then f else fix_in fixes clusters i) (sym e);
          },
        )

-- a vertex that isn't free and is alone gives its cluster its fix
fix_in_is : (fixes clusters : List ℕ) (v : ℕ) → v < length clusters → v < length fixes → get_or fixes v FREE ≢ FREE
    → ((u : ℕ) → u < v → slice_index clusters u ≡ slice_index clusters v → ⊥) → fix_in fixes clusters (slice_index clusters v) ≡ get_or fixes v FREE
fix_in_is [] clusters v l m n a = absurd (omega arith)
fix_in_is (f ∷ fixes) [] v l m n a = absurd (omega arith)
fix_in_is (f ∷ fixes) (c ∷ clusters) zero l m n a = ap (λ (t : Bool). if t then f else fix_in fixes clusters c)
    (and_from (nat_eq c c) (not (nat_eq f FREE)) (eq-eqb c c refl) (ap not (ne_eqb f FREE n)))
fix_in_is (f ∷ fixes) (c ∷ clusters) (suc v) l m n a =
    ap (λ (t : Bool). if t && not (nat_eq f FREE) then f else fix_in fixes clusters (slice_index clusters v))
    (ne_eqb c (slice_index clusters v) (a 0 (omega arith)))
    ∙ fix_in_is fixes clusters v (omega arith) (omega arith) n (λ u q e. a (suc u) (omega arith) e)

fix_of-contract : (h : Hyper) (clusters : List ℕ) (count i : ℕ) → i < count → fix_of (contract h clusters count) i ≡ fix_in h.fixes clusters i
fix_of-contract h clusters count i l = get_or-map-range_with_len (fix_in h.fixes clusters) 0 count i i FREE l (omega arith)

vertex_count-contract : (h : Hyper) (clusters : List ℕ) (count : ℕ) → vertex_count (contract h clusters count) ≡ count
vertex_count-contract h clusters count = length-map-range_with_len (weight_in h.weights clusters) 0 count

pub fixes_projected : FixesAreProjected
fixes_projected h clusters count p c alone o v l f =
    block_of-after p clusters v (let e = c.full.vertices in omega arith) ∙ o (slice_index clusters v) (let n = vertex_count-contract h clusters count in
    let m = low in omega arith) (λ e. f (sym same ∙ e)) ∙ same
  where
    low : slice_index clusters v < count
    low = cluster_below h clusters count c v l

    same : fix_of (contract h clusters count) (slice_index clusters v) ≡ fix_of h v
    same =
        fix_of-contract h clusters count (slice_index clusters v) low
        ∙ fix_in_is h.fixes clusters v (let e = c.full.vertices in omega arith) (let e = c.hypergraph.fixes in omega arith) f
        (λ u q e. f (alone v u l (omega arith) (sym e) (λ r. absurd (omega arith))))

pub fixes_lifted : FixesAreLifted
fixes_lifted h clusters count p c o i l f =
    let low : i < count = let n = vertex_count-contract h clusters count in omega arith in
    let e = fix_of-contract h clusters count i low in
    let x = fix_in_found h.fixes clusters i (λ q. f (e ∙ q)) in
    let inside : x.0 < vertex_count h = let a = c.hypergraph.fixes in let b = x.1.inside in omega arith in
    ap (block_of p) (sym x.1.cluster) ∙ sym (block_of-after p clusters x.0 x.1.within) ∙ o x.0 inside (λ q. f (e ∙ sym x.1.fix ∙ q)) ∙ x.1.fix ∙ sym e

pub fixes_within : FixesStayWithin
fixes_within h clusters count k c w i l f =
    let low : i < count = let n = vertex_count-contract h clusters count in omega arith in
    let e = fix_of-contract h clusters count i low in
    let x = fix_in_found h.fixes clusters i (λ q. f (e ∙ q)) in
    let inside : x.0 < vertex_count h = let a = c.hypergraph.fixes in let b = x.1.inside in omega arith in
    subst (λ y. y < k) (x.1.fix ∙ sym e) (w x.0 inside (λ q. f (e ∙ sym x.1.fix ∙ q)))

-- ---- the contraction is a hypergraph

pub image_is_net : (h : Hyper) (clusters : List ℕ) (count : ℕ) (e : Net) → IsContractible h clusters count → IsNet (vertex_count h) e → (w : ℕ) →
    IsNet count (record { weight = w; pins = image clusters e })
image_is_net h clusters count e c good w = record {
  rising = increasing-set_of (map (slice_index clusters) e.pins);
  pins = λ k d l. low (get_or (image clusters e) k d) (Contains-get_or (image clusters e) k d l);
}
  where
    low : (i : ℕ) → Contains (image clusters e) i → i < count
    low i t =
        let x = Contains-from_image clusters e i t in
        subst (λ j. j < count) x.2 (cluster_below h clusters count c x.0 (All-contains (λ v. v < vertex_count h) e.pins x.0 good.pins x.1))

pub hypergraph_kept : ContractionIsHypergraph
hypergraph_kept h clusters count c = record {
  fixes = length-map-range_with_len (fix_in h.fixes clusters) 0 count ∙ sym (vertex_count-contract h clusters count);
  fixed = All-map (λ f. f ≤ FREE) (fix_in h.fixes clusters) (range_with_len 0 count)
      (λ k d l. fix_in-le h.fixes clusters (get_or (range_with_len 0 count) k d)
      c.hypergraph.fixed);
  nets = All-map (IsNet (vertex_count (contract h clusters count))) (λ i. record { weight = merged_weight h clusters i; pins = i }) (images h clusters)
      (λ k d l. one (get_or (images h clusters) k d) (Contains-get_or (images h clusters) k d l));
}
  where
    one : (i : List ℕ) → Contains (images h clusters) i → IsNet (vertex_count (contract h clusters count))
        (record { weight = merged_weight h clusters i; pins = i })
    one i t =
        let x = Contains-from_images h clusters i t in
        subst (λ n. IsNet n (record { weight = merged_weight h clusters i; pins = i })) (sym (vertex_count-contract h clusters count))
        (subst (λ j. IsNet count (record { weight = merged_weight h clusters i; pins = j })) x.2
        (image_is_net h clusters count x.0 c (All-contains (IsNet (vertex_count h)) h.nets x.0 c.hypergraph.nets x.1) (merged_weight h clusters i)))

-- ---- limits

total-joined-le : {A : Type 0} (f : A → ℕ) (R : A → A → Ordering) (x : A) (ys : List A) → total f (joined R x ys) ≤ f x + total f ys
total-joined-le f R x [] = omega arith
total-joined-le f R x (y ∷ ys) = by (R x y) (total-joined-le f R x ys)
  where
    by : (r : Ordering) → total f (joined R x ys) ≤ f x + total f ys → total f (match_ordering r (x ∷ y ∷ ys) (y ∷ ys) (y ∷ joined R x ys)) ≤ f x +
        (f y + total f ys)
    by Less h = omega arith
    by Equal h = omega arith
    by Greater h = omega arith

pub total-set_of-le : {A : Type 0} (f : A → ℕ) (R : A → A → Ordering) (xs : List A) → total f (set_of R xs) ≤ total f xs
total-set_of-le f R [] = omega arith
total-set_of-le f R (x ∷ xs) = let a = total-joined-le f R x (set_of R xs) in let b = total-set_of-le f R xs in omega arith

pub total-filter-le : {A : Type 0} (f : A → ℕ) (test : A → Bool) (xs : List A) → total f (filter test xs) ≤ total f xs
total-filter-le f test [] = omega arith
total-filter-le f test (x ∷ xs) = by (test x) (total-filter-le f test xs)
  where
    by : (b : Bool) → total f (filter test xs) ≤ total f xs → total f (cond b (x ∷ filter test xs) (filter test xs)) ≤ f x + total f xs
    by true r = omega arith
    by false r = omega arith

-- the merged nets cost at most what the nets cost, each by its image
merged-le : (h : Hyper) (clusters : List ℕ) (g : List ℕ → ℕ) → total (λ i. merged_weight h clusters i * g i) (images h clusters) ≤ total
    (λ e. e.weight * g (image clusters e)) h.nets
merged-le h clusters g = subst (λ n. n ≤ total (λ e. e.weight * g (image clusters e)) h.nets) turned (total-le (λ e. total (term e) (images h clusters))
    (λ e. e.weight * g (image clusters e)) h.nets each)
  where
    term : Net → List ℕ → ℕ
    term e i = (if is_eq (slice_cmp nat_cmp (image clusters e) i) then e.weight else 0) * g i

    turned : total (λ e. total (term e) (images h clusters)) h.nets ≡ total (λ i. merged_weight h clusters i * g i) (images h clusters)
    turned =
        total-swap term h.nets (images h clusters)
        ∙ total-same (λ i. total (λ e. term e i) h.nets) (λ i. merged_weight h clusters i * g i) (images h clusters)
        (λ k d l. total-scale_right (g (get_or (images h clusters) k d))
        (λ e. if is_eq (slice_cmp nat_cmp (image clusters e) (get_or (images h clusters) k d)) then e.weight else 0) h.nets)

    each : All (λ e. total (term e) (images h clusters) ≤ e.weight * g (image clusters e)) h.nets
    each k d l = one (get_or h.nets k d) (Contains-get_or h.nets k d l)
      where
        one : (e : Net) → Contains h.nets e → total (term e) (images h clusters) ≤ e.weight * g (image clusters e)
        one e m = by (cases_lt (length (image clusters e)) 2)
          where
            by : (length (image clusters e) < 2) ⊎ (2 ≤ length (image clusters e)) → total (term e) (images h clusters) ≤ e.weight * g (image clusters e)
            by (inr w) = let a = only_term (image clusters e) e.weight g (images h clusters) (strict-images h clusters)
                (Contains-images h clusters e m w) in
                omega arith
            by (inl w) = let a = no_term (image clusters e) e.weight g (images h clusters) (λ t. let x = Contains-from_images h clusters (image clusters e)
                t in let y = x.3 in absurd (omega arith)) in omega arith

-- there are no more clusters than vertices
count-le : (clusters : List ℕ) (count : ℕ) → ((i : ℕ) → i < count → Contains clusters i) → count ≤ length clusters
count-le clusters count used =
    let e = length-range_with_len 0 count in
    let l = length-le_from_is_member nat_eq_equiv (range_with_len 0 count) clusters distinct has in
    omega arith
  where
    distinct : IsDistinct nat_eq (range_with_len 0 count)
    distinct = IsDistinct-from_apart nat_eq (range_with_len 0 count) (λ i j d l m.
        let n = length-range_with_len 0 count in
        let a = get_or-range_with_len 0 count i d (omega arith) in
        let b = get_or-range_with_len 0 count j d (omega arith) in
        ne_eqb (get_or (range_with_len 0 count) i d) (get_or (range_with_len 0 count) j d) (λ e. absurd (omega arith)))

    has : (q : ℕ) → is_member nat_eq (range_with_len 0 count) q ≡ true → is_member nat_eq clusters q ≡ true
    has q e =
        let c = (is_member-Decides Decides-eqb (range_with_len 0 count) q).0 e in
        let n = length-range_with_len 0 count in
        let a = get_or-range_with_len 0 count c.0 q (let l = c.1 in omega arith) in
        let s = c.2 in
        (is_member-Decides Decides-eqb clusters q).1 (used q (let l = c.1 in omega arith))

pub limits_kept : ContractionKeepsLimits
limits_kept h clusters count c w = record {
  vertices = let a = count-le clusters count c.full.used in let b = c.full.vertices in let n = vertex_count-contract h clusters count in
      let x = w.vertices in
      le_trans (omega arith) x;
  nets = let a = length-images-le h clusters in let n = length-map (images h clusters) net in let x = w.nets in le_trans (omega arith) x;
  pins = le_trans pins w.pins;
  weight = subst (λ n. n < 2 ^ 54) (sym (weight_kept h clusters count c)) w.weight;
  net_weight = lt_of_le_of_lt net_weight w.net_weight;
  pin_weight = lt_of_le_of_lt pin_weight w.pin_weight;
}
  where
    net : List ℕ → Net
    net i = record { weight = merged_weight h clusters i; pins = i }

    short : total (λ e. length (image clusters e)) h.nets ≤ total (λ e. length e.pins) h.nets
    short = total-le (λ e. length (image clusters e)) (λ e. length e.pins) h.nets (λ k d l. length-image-le clusters (get_or h.nets k d))

    pins : pin_count (contract h clusters count) ≤ pin_count h
    pins =
        let a = total-map (λ e. length e.pins) net (images h clusters) in
        let b = total-set_of-le (λ (i : List ℕ). length i) (slice_cmp nat_cmp) (filter (λ i. nat_le 2 (length i)) (map (image clusters) h.nets)) in
        let d = total-filter-le (λ (i : List ℕ). length i) (λ i. nat_le 2 (length i)) (map (image clusters) h.nets) in
        let e = total-map (λ (i : List ℕ). length i) (image clusters) h.nets in
        let s = short in
        omega arith

    net_weight : total_net_weight (contract h clusters count) ≤ total_net_weight h
    net_weight =
        let a = total-map (λ e. e.weight) net (images h clusters) in
        let b = merged-le h clusters (λ i. 1) in
        let d = total-scale_right 1 (merged_weight h clusters) (images h clusters) in
        let e = total-scale_right 1 (λ (e : Net). e.weight) h.nets in
        omega arith

    pin_weight : total (λ e. e.weight * length e.pins) (contract h clusters count).nets ≤ total (λ e. e.weight * length e.pins) h.nets
    pin_weight =
        let a = total-map (λ e. e.weight * length e.pins) net (images h clusters) in
        let b = merged-le h clusters (λ i. length i) in
        let d = total-le (λ e. e.weight * length (image clusters e)) (λ e. e.weight * length e.pins) h.nets
        (λ k x l. mul-le-mul_left (get_or h.nets k x).weight (length-image-le clusters (get_or h.nets k x))) in
        omega arith
