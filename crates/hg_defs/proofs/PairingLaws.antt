-- The laws of the pairing sweep.
use Rattle.std.proofs.Common.{◌≡◌, ◌≢◌, ◌⊎◌, inl, inr, ℕ, suc, ◌+◌, ◌<◌, ◌≤◌, Bool, true, false, ◌&&◌, min, max, nat_eq, nat_le, if◌then◌else◌, List, []}
use Rattle.std.proofs.Common.{◌∷◌, length, get_or, set, filter, All, AllPairs, Contains, refl, sym, ap, subst, ◌∙◌, arith, true≢false}
use Rattle.std.specs.List.{range_with_len}
use Rattle.std.specs.List.Sorted.{IsStrictlyIncreasing}
use Rattle.std.proofs.lemmas.Bool.{and_parts, and_from, leb-true, le-leb, eqb-true, eq-eqb, cases_lt, cases_eq}
use Rattle.std.proofs.lemmas.Bool.Decides.{Decides-eqb}
use Rattle.std.proofs.lemmas.Cmp.{nat_cmp_total}
use Rattle.std.proofs.lemmas.List.{get_or_default}
use Rattle.std.proofs.lemmas.List.FromFn.{length-range_with_len, get_or-range_with_len, get_or-map-range_with_len, length-map-range_with_len}
use Rattle.std.proofs.lemmas.List.Elements.{All-head, All-tail, All-weaker, All-contains, All-contains_itself}
use Rattle.std.proofs.lemmas.List.Kept.{AllPairs-filter}
use Rattle.std.proofs.lemmas.List.Sorted.{Contains-permutation, IsPermutation-sym}
use Rattle.std.proofs.lemmas.Map.Made.{AllPairs-from_IsDistinct}
use Rattle.std.proofs.lemmas.Map.Keys.{sorted_from_strictly_increasing}
use Rattle.hg_defs.specs.Sorting.{lower_first}
use Rattle.hg_defs.specs.Hypergraph.{Net, IsNet, Hyper, IsHypergraph, vertex_count, vertices, weight_of}
use Rattle.hg_defs.specs.Partition.{block_of, weight_in}
use Rattle.hg_defs.specs.Clustering.{AreTogether, IsSingleton, AreNeighbours, is_single, is_small}
use Rattle.hg_defs.specs.Numbering.{IsRooted, numbered}
use Rattle.hg_defs.specs.Pairing.{lightest_first, pair_up, pair_blocks, pair_nets, paired_from, paired_inside, split_by}
use Rattle.hg_defs.specs.PairingLaws.{AloneIsRooted, PairingIsRooted, PairingJoinsSingles, PairingIsMaximal, PairedIsClustering}
use Rattle.hg_defs.specs.PairingLaws.{PairedIsMaximal, PairingInsideIsRooted, PairingInsideJoinsSingles, PairingInsideKeepsBlocks}
use Rattle.hg_defs.specs.PairingLaws.{PairingInsideIsMaximal, PairedInsideIsInside, SplitIsRooted, SplitKeepsBlocks}
use Rattle.hg_defs.proofs.SortLaws.{strict_pairs, lower_first_total, lower_first_exact, Contains_head, Contains_later, Contains-cons_cases, Contains-nil}
use Rattle.hg_defs.proofs.KeyLaws.{by_key-permutation, by_key-distinct, by_key-pairs, lower_goes_first}
use Rattle.hg_defs.proofs.PlacementLaws.{Contains_filter}
use Rattle.hg_defs.proofs.NumberingLaws.{Contains-from_filter, Contains_range, less_than, numbers_are_clustering}
use Rattle.hg_defs.proofs.NumberingLaws.{numbering_keeps_together, numbering_keeps_singles}
use Rattle.hg_defs.proofs.JoinLaws.{single_is, is_single_from, joined-rooted, joined-kept, joined-together, joined-fewer, joined-stays}

-- ---- what a pairing makes of a clustering by roots

record Joins (h : Hyper) (cap : ℕ) (block : ℕ → ℕ) (before after : List ℕ) : Type 0 where
  rooted : IsRooted h cap after
  kept : (u v : ℕ) → AreTogether h before u v → AreTogether h after u v
  joined : (u v : ℕ) → AreTogether h after u v → AreTogether h before u v ⊎ (IsSingleton h before u × IsSingleton h before v × (block u ≡ block v))
  fewer : (v : ℕ) → IsSingleton h after v → IsSingleton h before v

module _ (h : Hyper) (cap : ℕ) (block : ℕ → ℕ) where
  joins_none : (roots : List ℕ) → IsRooted h cap roots → Joins h cap block roots roots
  joins_none roots r = record { rooted = r; kept = λ u v t. t; joined = λ u v t. inl t; fewer = λ v s. s }

  joins_more : (a b c : List ℕ) → Joins h cap block a b → Joins h cap block b c → Joins h cap block a c
  joins_more a b c x y = record {
    rooted = y.rooted;
    kept = λ u v t. y.kept u v (x.kept u v t);
    joined = λ u v t. by u v (y.joined u v t);
    fewer = λ v s. x.fewer v (y.fewer v s);
  }
    where
      by : (u v : ℕ) → AreTogether h b u v ⊎ (IsSingleton h b u × IsSingleton h b v × (block u ≡ block v)) →
          AreTogether h a u v ⊎ (IsSingleton h a u × IsSingleton h a v × (block u ≡ block v))
      by u v (inl t) = x.joined u v t
      by u v (inr s) = inr (x.fewer u s.0, x.fewer v s.1, s.2)

  -- two single vertices of one block are joined
  joins_two : (roots : List ℕ) (a b : ℕ) → IsRooted h cap roots → IsSingleton h roots a → IsSingleton h roots b → a ≢ b → block a ≡ block b →
      weight_of h a + weight_of h b ≤ cap
      → Joins h cap block roots (set roots a b)
  joins_two roots a b r sa sb differ same light = record {
    rooted = joined-rooted h cap roots r a b sa sb differ light;
    kept = joined-kept h cap roots r a b sa sb differ;
    joined = λ u v t. by u v (joined-together h cap roots r a b sa sb differ u v t);
    fewer = λ v s. (joined-fewer h cap roots r a b sa sb differ v s).0;
  }
    where
      by : (u v : ℕ) → AreTogether h roots u v ⊎ (((u ≡ a) × (v ≡ b)) ⊎ ((u ≡ b) × (v ≡ a))) → AreTogether h roots u v ⊎
          (IsSingleton h roots u × IsSingleton h roots v × (block u ≡ block v))
      by u v (inl t) = inl t
      by u v (inr (inl e)) = inr (
        subst (IsSingleton h roots) (sym e.0) sa,
        subst (IsSingleton h roots) (sym e.1) sb,
        ap block e.0 ∙ same ∙
            ap block (sym e.1),
      )
      by u v (inr (inr e)) = inr (
        subst (IsSingleton h roots) (sym e.0) sb,
        subst (IsSingleton h roots) (sym e.1) sa,
        ap block e.0 ∙ sym same ∙
            ap block (sym e.1),
      )

-- ---- a list of single vertices

-- the vertices of one block are paired, and those that stay single are too heavy for one another
record Pairs (h : Hyper) (cap : ℕ) (block : ℕ → ℕ) (before vs after : List ℕ) : Type 0 where
  joins : Joins h cap block before after
  most : (x y : ℕ) → Contains vs x → Contains vs y → x ≢ y → IsSingleton h after x → IsSingleton h after y → cap < weight_of h x + weight_of h y

module _ (h : Hyper) (cap k : ℕ) (block : ℕ → ℕ) where
  -- single vertices of block c, the lightest first
  record IsReady (c : ℕ) (roots vs : List ℕ) : Type 0 where
    rooted : IsRooted h cap roots
    single : All (IsSingleton h roots) vs
    same : All (λ v. block v ≡ c) vs
    apart : AllPairs (λ u v. u ≢ v) vs
    rising : AllPairs (λ u v. weight_of h u ≤ weight_of h v) vs

  head_apart : (u : ℕ) (vs : List ℕ) (R : ℕ → ℕ → Type 0) → AllPairs R (u ∷ vs) → (x : ℕ) → Contains vs x → R u x
  head_apart u vs R a x c = subst (R u) c.2 (a 0 (suc c.0) x (omega arith) (let l = c.1 in omega arith))

  tail_pairs : (u : ℕ) (vs : List ℕ) (R : ℕ → ℕ → Type 0) → AllPairs R (u ∷ vs) → AllPairs R vs
  tail_pairs u vs R a i j d l m = a (suc i) (suc j) d (omega arith) (omega arith)

  -- two of a rising list weigh as much as the first two at least
  two_weigh : (u v : ℕ) (vs : List ℕ) → AllPairs (λ a b. weight_of h a ≤ weight_of h b) (u ∷ v ∷ vs) → (x y : ℕ) → Contains (u ∷ v ∷ vs) x →
      Contains (u ∷ v ∷ vs) y → x ≢ y
      → weight_of h u + weight_of h v ≤ weight_of h x + weight_of h y
  two_weigh u v vs rising x y c d differ = by (Contains-cons_cases u (v ∷ vs) x c) (Contains-cons_cases u (v ∷ vs) y d)
    where
      from_v : (z : ℕ) → Contains (v ∷ vs) z → weight_of h v ≤ weight_of h z
      from_v z e = two (Contains-cons_cases v vs z e)
        where
          two : (v ≡ z) ⊎ Contains vs z → weight_of h v ≤ weight_of h z
          two (inl f) = subst (λ w. weight_of h v ≤ weight_of h w) f (omega arith)
          two (inr g) = head_apart v vs (λ a b. weight_of h a ≤ weight_of h b) (tail_pairs u (v ∷ vs) (λ a b. weight_of h a ≤ weight_of h b) rising) z g

      u_v : weight_of h u ≤ weight_of h v
      u_v = head_apart u (v ∷ vs) (λ a b. weight_of h a ≤ weight_of h b) rising v (Contains_head v vs)

      by : (u ≡ x) ⊎ Contains (v ∷ vs) x → (u ≡ y) ⊎ Contains (v ∷ vs) y → weight_of h u + weight_of h v ≤ weight_of h x + weight_of h y
      by (inl e) (inl f) = absurd (differ (sym e ∙ f))
      by (inl e) (inr g) = let a = from_v y g in let b = ap (weight_of h) e in omega arith
      by (inr g) (inl f) = let a = from_v x g in let b = ap (weight_of h) f in omega arith
      by (inr g) (inr i) = let a = from_v x g in let b = from_v y i in let c = u_v in omega arith

  -- the roots of a pair, whichever of the two is lower
  pair_joins : (c : ℕ) (roots : List ℕ) (u v : ℕ) (vs : List ℕ) → IsReady c roots (u ∷ v ∷ vs) → weight_of h u + weight_of h v ≤ cap
      → Joins h cap block roots (set roots (max u v) (min u v)) × IsReady c (set roots (max u v) (min u v)) vs ×
      ((x : ℕ) → IsSingleton h (set roots (max u v) (min u v)) x → (x ≢ u) × (x ≢ v))
  pair_joins c roots u v vs ready light = by (cases_lt u v)
    where
      su : IsSingleton h roots u
      su = All-head (IsSingleton h roots) u (v ∷ vs) ready.single

      sv : IsSingleton h roots v
      sv = All-head (IsSingleton h roots) v vs (All-tail (IsSingleton h roots) u (v ∷ vs) ready.single)

      differ : u ≢ v
      differ = head_apart u (v ∷ vs) (λ a b. a ≢ b) ready.apart v (Contains_head v vs)

      same : block u ≡ block v
      same = All-head (λ w. block w ≡ c) u (v ∷ vs) ready.same ∙ sym (All-head (λ w. block w ≡ c) v vs (All-tail (λ w. block w ≡ c) u (v ∷ vs) ready.same))

      from_u : (x : ℕ) → Contains vs x → u ≢ x
      from_u x d = head_apart u (v ∷ vs) (λ a b. a ≢ b) ready.apart x (Contains_later v vs x d)

      from_v : (x : ℕ) → Contains vs x → v ≢ x
      from_v x d = head_apart v vs (λ a b. a ≢ b) (tail_pairs u (v ∷ vs) (λ a b. a ≢ b) ready.apart) x d

      rest : All (IsSingleton h roots) vs
      rest = All-tail (IsSingleton h roots) v vs (All-tail (IsSingleton h roots) u (v ∷ vs) ready.single)

      ready_by : (after : List ℕ) → IsRooted h cap after → ((x : ℕ) → Contains vs x → IsSingleton h after x) → IsReady c after vs
      ready_by after r stay = record {
        rooted = r;
        single = All-weaker (Contains vs) (IsSingleton h after) stay vs (All-contains_itself vs);
        same = All-tail (λ w. block w ≡ c) v vs (All-tail (λ w. block w ≡ c) u (v ∷ vs) ready.same);
        apart = tail_pairs v vs (λ a b. a ≢ b) (tail_pairs u (v ∷ vs) (λ a b. a ≢ b) ready.apart);
        rising = tail_pairs v vs (λ a b. weight_of h a ≤ weight_of h b) (tail_pairs u (v ∷ vs) (λ a b. weight_of h a ≤ weight_of h b) ready.rising);
      }

      under_u : Joins h cap block roots (set roots v u) × IsReady c (set roots v u) vs × ((x : ℕ) → IsSingleton h (set roots v u) x → (x ≢ u) × (x ≢ v))
      under_u =
          let j = joins_two h cap block roots v u ready.rooted sv su (λ e. differ (sym e)) (sym same) (omega arith) in (
            j,
            ready_by (set roots v u) j.rooted (λ x d. joined-stays h cap roots ready.rooted v u sv su (λ e. differ (sym e)) x
                (All-contains (IsSingleton h roots) vs x rest d) (λ e. from_v x d (sym e)) (λ e. from_u x d (sym e))),
            λ x s. let f = joined-fewer h cap roots ready.rooted v u sv su (λ e. differ (sym e)) x s in (f.2, f.1),
          )

      under_v : Joins h cap block roots (set roots u v) × IsReady c (set roots u v) vs × ((x : ℕ) → IsSingleton h (set roots u v) x → (x ≢ u) × (x ≢ v))
      under_v =
          let j = joins_two h cap block roots u v ready.rooted su sv differ same light in (
            j,
            ready_by (set roots u v) j.rooted (λ x d. joined-stays h cap roots ready.rooted u v su sv differ x
                (All-contains (IsSingleton h roots) vs x rest d)
                (λ e. from_u x d (sym e)) (λ e. from_v x d (sym e))),
            λ x s. let f = joined-fewer h cap roots ready.rooted u v su sv differ x s in (f.1, f.2),
          )

      by : (u < v) ⊎ (v ≤ u)
          → Joins h cap block roots (set roots (max u v) (min u v)) × IsReady c (set roots (max u v) (min u v)) vs ×
          ((x : ℕ) → IsSingleton h (set roots (max u v) (min u v)) x → (x ≢ u) × (x ≢ v))
      by (inl l) =
          let a : v ≡ max u v = omega arith in
          let b : u ≡ min u v = omega arith in
          subst (λ m. Joins h cap block roots (set roots (max u v) m) × IsReady c (set roots (max u v) m) vs ×
          ((x : ℕ) → IsSingleton h (set roots (max u v) m)
          x → (x ≢ u) × (x ≢ v))) b
          (subst (λ m. Joins h cap block roots (set roots m u) × IsReady c (set roots m u) vs × ((x : ℕ) → IsSingleton h (set roots m u) x →
          (x ≢ u) × (x ≢ v))) a under_u)
      by (inr l) =
          let a : u ≡ max u v = omega arith in
          let b : v ≡ min u v = omega arith in
          subst (λ m. Joins h cap block roots (set roots (max u v) m) × IsReady c (set roots (max u v) m) vs ×
          ((x : ℕ) → IsSingleton h (set roots (max u v) m)
          x → (x ≢ u) × (x ≢ v))) b
          (subst (λ m. Joins h cap block roots (set roots m v) × IsReady c (set roots m v) vs × ((x : ℕ) → IsSingleton h (set roots m v) x →
          (x ≢ u) × (x ≢ v))) a under_v)

  pair_up-pairs : (c : ℕ) (vs roots : List ℕ) → IsReady c roots vs → Pairs h cap block roots vs (pair_up h cap k block roots vs)
  pair_up-pairs c [] roots ready = record { joins = joins_none h cap block roots ready.rooted; most = λ x y e. absurd (Contains-nil x e) }
  pair_up-pairs c (v ∷ []) roots ready = record {
    joins = joins_none h cap block roots ready.rooted;
    most = λ x y e f differ.
        absurd (differ (sym (one x e) ∙ one y f));
  }
    where
      one : (x : ℕ) → Contains (v ∷ []) x → v ≡ x
      one x e = by (Contains-cons_cases v [] x e)
        where
          by : (v ≡ x) ⊎ Contains [] x → v ≡ x
          by (inl f) = f
          by (inr n) = absurd (Contains-nil x n)
  pair_up-pairs c (u ∷ v ∷ vs) roots ready = by (nat_le (weight_of h u + weight_of h v) cap) refl (pair_up-pairs c vs)
    where
      by : (t : Bool) → nat_le (weight_of h u + weight_of h v) cap ≡ t →
          ((r : List ℕ) → IsReady c r vs → Pairs h cap block r vs (pair_up h cap k block r vs))
          → Pairs h cap block roots (u ∷ v ∷ vs) (if t then pair_up h cap k block (set roots (max u v) (min u v)) vs else roots)
      by true e rest = whole (rest (set roots (max u v) (min u v)) step.1)
        where
          step : Joins h cap block roots (set roots (max u v) (min u v)) × IsReady c (set roots (max u v) (min u v)) vs ×
              ((x : ℕ) → IsSingleton h (set roots (max u v) (min u v)) x → (x ≢ u) × (x ≢ v))
          step = pair_joins c roots u v vs ready (leb-true (weight_of h u + weight_of h v) cap e)

          whole : Pairs h cap block (set roots (max u v) (min u v)) vs (pair_up h cap k block (set roots (max u v) (min u v)) vs)
              → Pairs h cap block roots (u ∷ v ∷ vs) (pair_up h cap k block (set roots (max u v) (min u v)) vs)
          whole p = record {
            joins = joins_more h cap block roots (set roots (max u v) (min u v)) (pair_up h cap k block (set roots (max u v) (min u v)) vs) step.0 p.joins;
            most = λ x y d f differ s t. p.most x y (left x d (step.2 x (p.joins.fewer x s))) (left y f (step.2 y (p.joins.fewer y t))) differ s t;
          }
            where
              left : (x : ℕ) → Contains (u ∷ v ∷ vs) x → (x ≢ u) × (x ≢ v) → Contains vs x
              left x d n = two (Contains-cons_cases u (v ∷ vs) x d)
                where
                  three : (v ≡ x) ⊎ Contains vs x → Contains vs x
                  three (inl e) = absurd (n.1 (sym e))
                  three (inr d') = d'

                  two : (u ≡ x) ⊎ Contains (v ∷ vs) x → Contains vs x
                  two (inl e) = absurd (n.0 (sym e))
                  two (inr d') = three (Contains-cons_cases v vs x d')
      by false e rest = record {
        joins = joins_none h cap block roots ready.rooted;
        most = λ x y d f differ s t. let w = two_weigh u v vs ready.rising x y d f differ in let past = heavier (weight_of h u + weight_of h v) e in
            omega arith;
      }
        where
          heavier : (w : ℕ) → nat_le w cap ≡ false → cap < w
          heavier w f = two (cases_lt cap w)
            where
              two : (cap < w) ⊎ (w ≤ cap) → cap < w
              two (inl l) = l
              two (inr m) = absurd (true≢false (sym (le-leb w cap m) ∙ f))

  -- ---- the pins of a net

  module _ (pins : List ℕ) (rising : IsStrictlyIncreasing pins) (within : All (λ v. v < vertex_count h) pins) where
    pins_apart : AllPairs (λ u v. u ≢ v) pins
    pins_apart i j d l m =
        let less = less_than (get_or pins i d) (get_or pins j d) (strict_pairs nat_cmp_total pins (sorted_from_strictly_increasing pins rising) i j d l
        m) in
        λ e. absurd (omega arith)

    abbrev chosen : List ℕ → ℕ → ℕ → Bool
    chosen roots b v = is_single h roots v && nat_eq (block v) b

    lightest_contains : (roots : List ℕ) (b v : ℕ) → Contains (lightest_first h cap k block roots b pins) v → IsSingleton h roots v × (block v ≡ b)
    lightest_contains roots b v c =
        let d = Contains-permutation (lightest_first h cap k block roots b pins) (filter (chosen roots b) pins) v
        (IsPermutation-sym (filter (chosen roots b) pins) (lightest_first h cap k block roots b pins)
        (by_key-permutation lower_first (weight_of h) (filter (chosen roots b) pins))) c in
        let x = Contains-from_filter (chosen roots b) pins v d in
        let both = and_parts (is_single h roots v) (nat_eq (block v) b) x.1 in
        (single_is h roots v (All-contains (λ u. u < vertex_count h) pins v within x.0) both.0, eqb-true (block v) b both.1)

    contains_lightest : (roots : List ℕ) (b v : ℕ) → Contains pins v → IsSingleton h roots v → block v ≡ b →
        Contains (lightest_first h cap k block roots b pins) v
    contains_lightest roots b v c s e =
        Contains-permutation (filter (chosen roots b) pins) (lightest_first h cap k block roots b pins) v
        (by_key-permutation lower_first (weight_of h) (filter (chosen roots b) pins))
        (Contains_filter (chosen roots b) pins v c (and_from (is_single h roots v) (nat_eq (block v) b) (is_single_from h roots v s)
        (eq-eqb (block v) b e)))

    lightest_ready : (roots : List ℕ) (b : ℕ) → IsRooted h cap roots → IsReady b roots (lightest_first h cap k block roots b pins)
    lightest_ready roots b r = record {
      rooted = r;
      single = All-weaker (Contains (lightest_first h cap k block roots b pins)) (IsSingleton h roots) (λ v c. (lightest_contains roots b v c).0)
          (lightest_first h cap k block roots b pins) (All-contains_itself (lightest_first h cap k block roots b pins));
      same = All-weaker (Contains (lightest_first h cap k block roots b pins)) (λ v. block v ≡ b) (λ v c. (lightest_contains roots b v c).1)
          (lightest_first h cap k block roots b pins) (All-contains_itself (lightest_first h cap k block roots b pins));
      apart = AllPairs-from_IsDistinct Decides-eqb (lightest_first h cap k block roots b pins)
          (by_key-distinct lower_first (weight_of h) (filter (chosen roots b) pins) apart);
      rising = λ i j d l m. by (weight_of h (get_or (lightest_first h cap k block roots b pins) i d))
          (weight_of h (get_or (lightest_first h cap k block roots b pins) j d)) (get_or (lightest_first h cap k block roots b pins) i d)
          (get_or (lightest_first h cap k block roots b pins) j d)
          (lower_goes_first (weight_of h (get_or (lightest_first h cap k block roots b pins) i d), get_or (lightest_first h cap k block roots b pins) i d)
          (weight_of h (get_or (lightest_first h cap k block roots b pins) j d), get_or (lightest_first h cap k block roots b pins) j d)
          (by_key-pairs lower_first_total lower_first_exact (weight_of h) (filter (chosen roots b) pins) apart i j d l m));
    }
      where
        apart : AllPairs (λ u v. u ≢ v) (filter (chosen roots b) pins)
        apart = AllPairs-filter (λ u v. u ≢ v) (chosen roots b) pins pins_apart

        by : (w x u v : ℕ) → (w < x) ⊎ ((w ≡ x) × (u < v)) → w ≤ x
        by w x u v (inl l) = omega arith
        by w x u v (inr e) = let f = e.0 in omega arith

    -- the listed blocks are paired on the net
    record PairsBlocks (before blocks after : List ℕ) : Type 0 where
      joins : Joins h cap block before after
      most : (x y : ℕ) → Contains pins x → Contains pins y → x ≢ y → Contains blocks (block x) → block x ≡ block y → IsSingleton h after x →
          IsSingleton h after y
          → cap < weight_of h x + weight_of h y

    pair_blocks-pairs : (blocks roots : List ℕ) → IsRooted h cap roots → PairsBlocks roots blocks (pair_blocks h cap k block roots pins blocks)
    pair_blocks-pairs [] roots r = record { joins = joins_none h cap block roots r; most = λ x y c d n e. absurd (Contains-nil (block x) e) }
    pair_blocks-pairs (b ∷ blocks) roots r = by (pair_up-pairs b (lightest_first h cap k block roots b pins) roots (lightest_ready roots b r))
        (pair_blocks-pairs blocks)
      where
        by : Pairs h cap block roots (lightest_first h cap k block roots b pins) (pair_up h cap k block roots (lightest_first h cap k block roots b pins))
            → ((q : List ℕ) → IsRooted h cap q → PairsBlocks q blocks (pair_blocks h cap k block q pins blocks))
            → PairsBlocks roots (b ∷ blocks) (pair_blocks h cap k block (pair_up h cap k block roots (lightest_first h cap k block roots b pins)) pins
            blocks)
        by one rest = whole (rest (pair_up h cap k block roots (lightest_first h cap k block roots b pins)) one.joins.rooted)
          where
            whole : PairsBlocks (pair_up h cap k block roots (lightest_first h cap k block roots b pins)) blocks
                (pair_blocks h cap k block (pair_up h cap k block roots (lightest_first h cap k block roots b pins)) pins blocks)
                → PairsBlocks roots (b ∷ blocks) (pair_blocks h cap k block (pair_up h cap k block roots (lightest_first h cap k block roots b pins)) pins
                blocks)
            whole others = record {
              joins = joins_more h cap block roots (pair_up h cap k block roots (lightest_first h cap k block roots b pins))
                  (pair_blocks h cap k block (pair_up h cap k block roots (lightest_first h cap k block roots b pins)) pins blocks) one.joins others.joins;
              most = λ x y c d n e f s t. two x y c d n f s t (Contains-cons_cases b blocks (block x) e);
            }
              where
                two : (x y : ℕ) → Contains pins x → Contains pins y → x ≢ y → block x ≡ block y
                    → IsSingleton h (pair_blocks h cap k block (pair_up h cap k block roots (lightest_first h cap k block roots b pins)) pins blocks) x
                    → IsSingleton h (pair_blocks h cap k block (pair_up h cap k block roots (lightest_first h cap k block roots b pins)) pins blocks) y
                    → (b ≡ block x) ⊎ Contains blocks (block x) → cap < weight_of h x + weight_of h y
                two x y c d n f s t (inl e) =
                    let sx = others.joins.fewer x s in
                    let sy = others.joins.fewer y t in
                    one.most x y (contains_lightest roots b x c (one.joins.fewer x sx) (sym e)) (contains_lightest roots b y d (one.joins.fewer y sy)
                    (sym f ∙ sym e)) n sx sy
                two x y c d n f s t (inr e) = others.most x y c d n e f s t

  -- ---- all nets

  record PairsNets (before : List ℕ) (nets : List Net) (after : List ℕ) : Type 0 where
    joins : Joins h cap block before after
    most : (e : Net) (x y : ℕ) → Contains nets e → length e.pins ≤ 1000 → Contains e.pins x → Contains e.pins y → x ≢ y → block x < k → block x ≡ block y →
        IsSingleton h after x → IsSingleton h after y
        → cap < weight_of h x + weight_of h y

  pair_nets-pairs : (nets : List Net) (roots : List ℕ) → All (IsNet (vertex_count h)) nets → IsRooted h cap roots →
      PairsNets roots nets (pair_nets h cap k block roots nets)
  pair_nets-pairs [] roots good r = record { joins = joins_none h cap block roots r; most = λ e x y c. absurd (Contains-nil e c) }
  pair_nets-pairs (e ∷ nets) roots good r = by (is_small e) refl (λ q. pair_nets-pairs nets q (All-tail (IsNet (vertex_count h)) e nets good))
    where
      net : IsNet (vertex_count h) e
      net = All-head (IsNet (vertex_count h)) e nets good

      by : (t : Bool) → is_small e ≡ t → ((q : List ℕ) → IsRooted h cap q → PairsNets q nets (pair_nets h cap k block q nets))
          → PairsNets roots (e ∷ nets) (pair_nets h cap k block (if t then pair_blocks h cap k block roots e.pins (range_with_len 0 k) else roots) nets)
      by true small rest = whole (pair_blocks-pairs e.pins net.rising net.pins (range_with_len 0 k) roots r)
        where
          whole : PairsBlocks e.pins net.rising net.pins roots (range_with_len 0 k) (pair_blocks h cap k block roots e.pins (range_with_len 0 k))
              → PairsNets roots (e ∷ nets) (pair_nets h cap k block (pair_blocks h cap k block roots e.pins (range_with_len 0 k)) nets)
          whole one = two (rest (pair_blocks h cap k block roots e.pins (range_with_len 0 k)) one.joins.rooted)
            where
              two : PairsNets (pair_blocks h cap k block roots e.pins (range_with_len 0 k)) nets
                  (pair_nets h cap k block (pair_blocks h cap k block roots e.pins (range_with_len 0 k)) nets)
                  → PairsNets roots (e ∷ nets) (pair_nets h cap k block (pair_blocks h cap k block roots e.pins (range_with_len 0 k)) nets)
              two others = record {
                joins = joins_more h cap block roots (pair_blocks h cap k block roots e.pins (range_with_len 0 k))
                    (pair_nets h cap k block (pair_blocks h cap k block roots e.pins (range_with_len 0 k)) nets) one.joins others.joins;
                most = λ f x y c l d g n low same s t. three f x y l d g n low same s t (Contains-cons_cases e nets f c);
              }
                where
                  three : (f : Net) (x y : ℕ) → length f.pins ≤ 1000 → Contains f.pins x → Contains f.pins y → x ≢ y → block x < k → block x ≡ block y
                      → IsSingleton h (pair_nets h cap k block (pair_blocks h cap k block roots e.pins (range_with_len 0 k)) nets) x
                      → IsSingleton h (pair_nets h cap k block (pair_blocks h cap k block roots e.pins (range_with_len 0 k)) nets) y
                      → (e ≡ f) ⊎ Contains nets f → cap < weight_of h x + weight_of h y
                  three f x y l d g n low same s t (inl q) =
                      one.most x y (subst (λ (i : Net). Contains i.pins x) (sym q) d) (subst (λ (i : Net). Contains i.pins y) (sym q) g) n
                      (Contains_range 0 k (block x) (omega arith) (omega arith)) same (others.joins.fewer x s) (others.joins.fewer y t)
                  three f x y l d g n low same s t (inr c) = others.most f x y c l d g n low same s t
      by false large rest = whole (rest roots r)
        where
          whole : PairsNets roots nets (pair_nets h cap k block roots nets) → PairsNets roots (e ∷ nets) (pair_nets h cap k block roots nets)
          whole others = record {
            joins = others.joins;
            most = λ f x y c l d g n low same s t. two f x y l d g n low same s t (Contains-cons_cases e nets f c);
          }
            where
              two : (f : Net) (x y : ℕ) → length f.pins ≤ 1000 → Contains f.pins x → Contains f.pins y → x ≢ y → block x < k → block x ≡ block y
                  → IsSingleton h (pair_nets h cap k block roots nets) x → IsSingleton h (pair_nets h cap k block roots nets) y
                  → (e ≡ f) ⊎ Contains nets f → cap < weight_of h x + weight_of h y
              two f x y l d g n low same s t (inl q) =
                  absurd (true≢false (sym (le-leb (length e.pins) 1000 (subst (λ (i : Net). length i.pins ≤ 1000) (sym q) l)) ∙ large))
              two f x y l d g n low same s t (inr c) = others.most f x y c l d g n low same s t

-- ---- the laws

pub alone_is_rooted : AloneIsRooted
alone_is_rooted h cap = record {
  vertices = length-range_with_len 0 (vertex_count h);
  below = λ v low. let e = at v low in omega arith;
  own = λ v low. ap (λ w. get_or (vertices h) w 0) (at v low);
  capped = λ u v t. absurd (apart u v t);
  free = λ u v t. absurd (apart u v t);
}
  where
    at : (v : ℕ) → v < vertex_count h → get_or (vertices h) v 0 ≡ v
    at v low = let e = get_or-range_with_len 0 (vertex_count h) v 0 low in omega arith

    apart : (u v : ℕ) → AreTogether h (vertices h) u v → ⊥
    apart u v t = t.different (sym (at u t.first) ∙ t.cluster ∙ at v t.second)

plain_pairs : (h : Hyper) (cap : ℕ) (roots : List ℕ) → IsHypergraph h → IsRooted h cap roots → PairsNets h cap 1 (λ v. 0) roots h.nets
    (paired_from h cap roots)
plain_pairs h cap roots good r = pair_nets-pairs h cap 1 (λ v. 0) h.nets roots good.nets r

pub pairing-rooted : PairingIsRooted
pairing-rooted h cap roots good r = (plain_pairs h cap roots good r).joins.rooted

pub pairing-joins : PairingJoinsSingles
pairing-joins h cap roots good r = record { kept = p.joins.kept; joined = λ u v t. by u v (p.joins.joined u v t) }
  where
    p : PairsNets h cap 1 (λ v. 0) roots h.nets (paired_from h cap roots)
    p = plain_pairs h cap roots good r

    by : (u v : ℕ) → AreTogether h roots u v ⊎ (IsSingleton h roots u × IsSingleton h roots v × (◌≡◌ {A = ℕ} 0 0)) → AreTogether h roots u v ⊎
        (IsSingleton h roots u × IsSingleton h roots v)
    by u v (inl t) = inl t
    by u v (inr s) = inr (s.0, s.1)

pub pairing-maximal : PairingIsMaximal
pairing-maximal h cap roots good r i d low u v n =
    (plain_pairs h cap roots good r).most (get_or h.nets i d) u v (i, low, get_or_default h.nets i (get_or h.nets i d) d low) n.small n.first_pin
    n.second_pin
    n.different (omega arith) refl n.first n.second

-- neighbours by numbers are neighbours by roots
neighbours_by_roots : (h : Hyper) (roots : List ℕ) (e : Net) (u v : ℕ) → length roots ≡ vertex_count h → AreNeighbours h (numbered roots) e u v →
    AreNeighbours h roots e u v
neighbours_by_roots h roots e u v long n = record {
  small = n.small;
  first_pin = n.first_pin;
  second_pin = n.second_pin;
  different = n.different;
  first = (numbering_keeps_singles h roots u long).0 n.first;
  second = (numbering_keeps_singles h roots v long).0 n.second;
}

pub paired-clustering : PairedIsClustering
paired-clustering h cap good = numbers_are_clustering h cap (paired_from h cap (vertices h))
    (pairing-rooted h cap (vertices h) good (alone_is_rooted h cap))

pub paired-maximal : PairedIsMaximal
paired-maximal h cap good i d low u v n =
    pairing-maximal h cap (vertices h) good (alone_is_rooted h cap) i d low u v
    (neighbours_by_roots h (paired_from h cap (vertices h)) (get_or h.nets i d) u v
    (pairing-rooted h cap (vertices h) good (alone_is_rooted h cap)).vertices n)

-- ---- inside blocks

inside_pairs : (h : Hyper) (cap k : ℕ) (p roots : List ℕ) → IsHypergraph h → IsRooted h cap roots → PairsNets h cap k (block_of p) roots h.nets
    (paired_inside h cap k p roots)
inside_pairs h cap k p roots good r = pair_nets-pairs h cap k (block_of p) h.nets roots good.nets r

pub inside-rooted : PairingInsideIsRooted
inside-rooted h cap k p roots good r = (inside_pairs h cap k p roots good r).joins.rooted

pub inside-joins : PairingInsideJoinsSingles
inside-joins h cap k p roots good r = record { kept = x.joins.kept; joined = λ u v t. by u v (x.joins.joined u v t) }
  where
    x : PairsNets h cap k (block_of p) roots h.nets (paired_inside h cap k p roots)
    x = inside_pairs h cap k p roots good r

    by : (u v : ℕ) → AreTogether h roots u v ⊎ (IsSingleton h roots u × IsSingleton h roots v × (block_of p u ≡ block_of p v)) → AreTogether h roots u v ⊎
        (IsSingleton h roots u × IsSingleton h roots v)
    by u v (inl t) = inl t
    by u v (inr s) = inr (s.0, s.1)

pub inside-blocks : PairingInsideKeepsBlocks
inside-blocks h cap k p roots good r within u v t = by ((inside_pairs h cap k p roots good r).joins.joined u v t)
  where
    by : AreTogether h roots u v ⊎ (IsSingleton h roots u × IsSingleton h roots v × (block_of p u ≡ block_of p v)) → block_of p u ≡ block_of p v
    by (inl x) = within u v x
    by (inr s) = s.2

pub inside-maximal : PairingInsideIsMaximal
inside-maximal h cap k p roots good whole r i d low u v n same =
    (inside_pairs h cap k p roots good r).most (get_or h.nets i d) u v (i, low, get_or_default h.nets i (get_or h.nets i d) d low) n.small n.first_pin
    n.second_pin n.different
    (whole.blocks u 0 (let m = whole.vertices in let f = n.first.vertex in omega arith)) same n.first n.second

pub paired_inside-inside : PairedInsideIsInside
paired_inside-inside h cap k p roots good whole r within = record {
  clustering = numbers_are_clustering h cap (paired_inside h cap k p roots) (inside-rooted h cap k p roots good r);
  blocks = λ u v t. inside-blocks h cap k p roots good r within u v
      ((numbering_keeps_together h (paired_inside h cap k p roots) u v (inside-rooted h cap k p roots good r).vertices).0 t);
  maximal = λ i d low u v n same. inside-maximal h cap k p roots good whole r i d low u v
      (neighbours_by_roots h (paired_inside h cap k p roots) (get_or h.nets i d) u v (inside-rooted h cap k p roots good r).vertices n) same;
}

-- ---- roots in other blocks given up

-- where each number at which p is a goes with a number at which q is b, the weights do too
pub weight_in-into : (ws p q : List ℕ) (a b : ℕ) → length p ≤ length q → ((i : ℕ) → i < length p → get_or p i 0 ≡ a → get_or q i 0 ≡ b) →
    weight_in ws p a ≤ weight_in ws q b
weight_in-into [] p q a b l f = omega arith
weight_in-into (w ∷ ws) [] q a b l f = omega arith
weight_in-into (w ∷ ws) (x ∷ p) [] a b l f = absurd (omega arith)
weight_in-into (w ∷ ws) (x ∷ p) (y ∷ q) a b l f = by (nat_eq x a) refl (nat_eq y b) refl
    (weight_in-into ws p q a b (omega arith) (λ i m e. f (suc i) (omega arith) e))
  where
    by : (s : Bool) → nat_eq x a ≡ s → (t : Bool) → nat_eq y b ≡ t → weight_in ws p a ≤ weight_in ws q b → (if s then w else 0) + weight_in ws p a ≤
        (if t then w else 0) + weight_in ws q b
    by true e true g r = omega arith
    by true e false g r = absurd (true≢false (sym (eq-eqb y b (f 0 (omega arith) (eqb-true x a e))) ∙ g))
    by false e t g r = omega arith

module _ (h : Hyper) (cap : ℕ) (p roots : List ℕ) (r : IsRooted h cap roots) where
  abbrev kept_root : ℕ → ℕ
  kept_root v = if nat_eq (block_of p (get_or roots v 0)) (block_of p v) then get_or roots v 0 else v

  -- a vertex keeps its root, in its block, or becomes its own
  split_at : (v : ℕ) → v < vertex_count h → ((get_or (split_by p roots) v 0 ≡ get_or roots v 0) × (block_of p (get_or roots v 0) ≡ block_of p v)) ⊎
      (get_or (split_by p roots) v 0 ≡ v)
  split_at v low = by (nat_eq (block_of p (get_or roots v 0)) (block_of p v)) refl
    where
      at : get_or (split_by p roots) v 0 ≡ kept_root v
      at = get_or-map-range_with_len kept_root 0 (length roots) v v 0 (let n = r.vertices in omega arith) (omega arith)

      by : (t : Bool) → nat_eq (block_of p (get_or roots v 0)) (block_of p v) ≡ t →
          ((get_or (split_by p roots) v 0 ≡ get_or roots v 0) × (block_of p (get_or roots v 0) ≡ block_of p v)) ⊎ (get_or (split_by p roots) v 0 ≡ v)
      by true e = inl (at ∙ ap (λ (t : Bool). if t then get_or roots v 0 else v) e, eqb-true (block_of p (get_or roots v 0)) (block_of p v) e)
      by false e = inr (at ∙ ap (λ (t : Bool). if t then get_or roots v 0 else v) e)

  split-length : length (split_by p roots) ≡ vertex_count h
  split-length = length-map-range_with_len kept_root 0 (length roots) ∙ r.vertices

  split-together : (u v : ℕ) → AreTogether h (split_by p roots) u v → AreTogether h roots u v × (block_of p u ≡ block_of p v)
  split-together u v t = by (split_at u t.first) (split_at v t.second)
    where
      together : get_or roots u 0 ≡ get_or roots v 0 → AreTogether h roots u v
      together e = record { first = t.first; second = t.second; different = t.different; cluster = e }

      by : ((get_or (split_by p roots) u 0 ≡ get_or roots u 0) × (block_of p (get_or roots u 0) ≡ block_of p u)) ⊎ (get_or (split_by p roots) u 0 ≡ u)
          → ((get_or (split_by p roots) v 0 ≡ get_or roots v 0) × (block_of p (get_or roots v 0) ≡ block_of p v)) ⊎ (get_or (split_by p roots) v 0 ≡ v)
          → AreTogether h roots u v × (block_of p u ≡ block_of p v)
      by (inl x) (inl y) = let e : get_or roots u 0 ≡ get_or roots v 0 = sym x.0 ∙ t.cluster ∙ y.0 in (together e, sym x.1 ∙ ap (block_of p) e ∙ y.1)
      by (inl x) (inr y) =
          let e : get_or roots u 0 ≡ v = sym x.0 ∙ t.cluster ∙ y in
          (together (sym (r.own u t.first) ∙ ap (λ w. get_or roots w 0) e), sym x.1 ∙ ap (block_of p) e)
      by (inr x) (inl y) =
          let e : u ≡ get_or roots v 0 = sym x ∙ t.cluster ∙ y.0 in
          (together (ap (λ w. get_or roots w 0) e ∙ r.own v t.second), ap (block_of p) e ∙ y.1)
      by (inr x) (inr y) = absurd (t.different (sym x ∙ t.cluster ∙ y))

  split-own : (v : ℕ) → v < vertex_count h → get_or (split_by p roots) (get_or (split_by p roots) v 0) 0 ≡ get_or (split_by p roots) v 0
  split-own v low = by (split_at v low)
    where
      by : ((get_or (split_by p roots) v 0 ≡ get_or roots v 0) × (block_of p (get_or roots v 0) ≡ block_of p v)) ⊎ (get_or (split_by p roots) v 0 ≡ v) →
          get_or (split_by p roots) (get_or (split_by p roots) v 0) 0 ≡ get_or (split_by p roots) v 0
      by (inl x) = ap (λ w. get_or (split_by p roots) w 0) x.0 ∙ root (split_at (get_or roots v 0) (r.below v low)) ∙ sym x.0
        where
          root : ((get_or (split_by p roots) (get_or roots v 0) 0 ≡ get_or roots (get_or roots v 0) 0) × (block_of p (get_or roots (get_or roots v 0) 0) ≡
              block_of p (get_or roots v 0))) ⊎ (get_or (split_by p roots) (get_or roots v 0) 0 ≡ get_or roots v 0)
              → get_or (split_by p roots) (get_or roots v 0) 0 ≡ get_or roots v 0
          root (inl y) = y.0 ∙ r.own v low
          root (inr y) = y
      by (inr x) = ap (λ w. get_or (split_by p roots) w 0) x

  split-below : (v : ℕ) → v < vertex_count h → get_or (split_by p roots) v 0 < vertex_count h
  split-below v low = by (split_at v low)
    where
      by : ((get_or (split_by p roots) v 0 ≡ get_or roots v 0) × (block_of p (get_or roots v 0) ≡ block_of p v)) ⊎ (get_or (split_by p roots) v 0 ≡ v) →
          get_or (split_by p roots) v 0 < vertex_count h
      by (inl x) = let e = x.0 in let b = r.below v low in omega arith
      by (inr x) = omega arith

  split-weight : (u v : ℕ) → AreTogether h (split_by p roots) u v → weight_in h.weights (split_by p roots) (get_or (split_by p roots) u 0) ≤ cap
  split-weight u v t =
      let into = weight_in-into h.weights (split_by p roots) roots (get_or (split_by p roots) u 0) (get_or roots u 0) (let n = r.vertices in
      let m = split-length in omega arith) (λ i m e. by i (let n = split-length in omega arith) e (cases_eq i u)) in
      let low = r.capped u v (split-together u v t).0 in
      omega arith
    where
      by : (i : ℕ) → i < vertex_count h → get_or (split_by p roots) i 0 ≡ get_or (split_by p roots) u 0 → (i ≡ u) ⊎ (i ≢ u) → get_or roots i 0 ≡ get_or
          roots u
          0
      by i low e (inl f) = ap (λ w. get_or roots w 0) f
      by i low e (inr n) = (split-together i u (record { first = low; second = t.first; different = n; cluster = e })).0.cluster

pub split-rooted : SplitIsRooted
split-rooted h cap p roots r = record {
  vertices = split-length h cap p roots r;
  below = split-below h cap p roots r;
  own = split-own h cap p roots r;
  capped = split-weight h cap p roots r;
  free = λ u v t. r.free u v (split-together h cap p roots r u v t).0;
}

pub split-blocks : SplitKeepsBlocks
split-blocks h cap p roots r u v t = (split-together h cap p roots r u v t).1
