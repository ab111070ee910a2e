-- The nets and vertices of a pair by their numbers: what the lists of a region contain.
use Rattle.std.proofs.Common.{◌≡◌, ◌⊎◌, inl, inr, ℕ, suc, ◌<◌, ◌≤◌, Bool, true, false, ◌&&◌, not, nat_eq, if◌then◌else◌, List, [], ◌∷◌, ◌++◌}
use Rattle.std.proofs.Common.{map, filter, length, All, Contains, refl, sym, ap, subst, ◌∙◌, arith, true≢false}
use Rattle.std.specs.List.{list_any, flat_map, range_with_len}
use Rattle.std.specs.List.Sorted.{IsStrictlyIncreasing}
use Rattle.std.specs.Ordering.{nat_cmp}
use Rattle.std.specs.Set.{is_member}
use Rattle.std.proofs.lemmas.Bool.{and_parts, eqb-true, eq-eqb, le-leb, leb-true}
use Rattle.std.proofs.lemmas.Cmp.{nat_cmp_total}
use Rattle.std.proofs.lemmas.List.{get_or_default, length-map}
use Rattle.std.proofs.lemmas.List.Elements.{All-contains, All-contains_itself, All-weaker, Contains-append_left, Contains-append_right, Contains-append_cases}
use Rattle.std.proofs.lemmas.List.Kept.{IsStrictlyIncreasing-filter}
use Rattle.hg_defs.specs.declared.objective.TheConstants.{FREE}
use Rattle.hg_defs.specs.Sums.{total}
use Rattle.hg_defs.specs.Hypergraph.{Net, Hyper, pin_count, IsHypergraph, IsFree, fix_of, is_free, net_of, net_count, vertices, vertex_count}
use Rattle.hg_defs.specs.Incidence.{nets_of, is_on}
use Rattle.hg_defs.specs.Partition.{block_of}
use Rattle.hg_defs.specs.Sorting.{set_of}
use Rattle.hg_defs.proofs.SumLaws.{total-map}
use Rattle.hg_defs.proofs.ContractionLaws.{total-filter-le}
use Rattle.hg_defs.proofs.DistinctLaws.{Contains-map, Contains-from_map}
use Rattle.hg_defs.proofs.MoveLaws.{nets_by_number, net_is}
use Rattle.hg_defs.proofs.NumberingLaws.{Contains-from_filter, Contains_range, increasing-range}
use Rattle.hg_defs.proofs.PlacementLaws.{Contains_filter}
use Rattle.hg_defs.proofs.SortLaws.{nat_cmp_exact, increasing-set_of, Contains-set_of, Contains-from_set_of}
use Rattle.round_log.specs.Rounds.{has_pin, touching, is_near, is_next}
use Rattle.round_log.specs.RegionLaws.{IsNear, IsNext}
use Rattle.round_log.proofs.RegionLaws.{touching_has_both, near_is_told, next_is_told}
use Rattle.flow_pair.specs.Sides.{touching_nets, is_free_in, free_pins, is_small, small_nets}
use Rattle.flow_pair.specs.PairNetwork.{joins}
use Rattle.flow_pair.proofs.ApartLaws.{filter_same}
use Rattle.flow_pair.proofs.RegionLaws.{joins_inside, joins_outside}
use Rattle.flow_pair.proofs.MemberLaws.{any_is, any_from, member_true, member_of, Contains-flat_map, Contains-from_flat_map, filter-map, Contains-from_range}
use Rattle.flow_pair.proofs.MemberLaws.{rising_is_filter}

both_true : (s t : Bool) → s ≡ true → t ≡ true → (s && t) ≡ true
both_true s t e f = ap (λ x. x && t) e ∙ f

-- ---- the nets of a pair

pub touching_numbered : (h : Hyper) (p : List ℕ) (a b : ℕ) → map (net_of h) (touching_nets h p a b) ≡ touching h p a b
touching_numbered h p a b =
    sym (filter-map (net_of h) (λ e. has_pin p e a && has_pin p e b) (range_with_len 0 (net_count h)))
    ∙ ap (filter (λ e. has_pin p e a && has_pin p e b)) (sym (nets_by_number h))

pub touching_some : (h : Hyper) (p : List ℕ) (a b : ℕ) → touching_nets h p a b ≡ [] → touching h p a b ≡ []
touching_some h p a b e = sym (touching_numbered h p a b) ∙ ap (map (net_of h)) e

pub touching_none : (h : Hyper) (p : List ℕ) (a b : ℕ) → touching h p a b ≡ [] → touching_nets h p a b ≡ []
touching_none h p a b e = none (touching_nets h p a b) (touching_numbered h p a b ∙ e)
  where
    none : (xs : List ℕ) → map (net_of h) xs ≡ [] → xs ≡ []
    none [] e = refl
    none (x ∷ xs) e = absurd (let n = ap length e in omega arith)

pub touching_turned : (h : Hyper) (p : List ℕ) (a b : ℕ) → touching_nets h p b a ≡ touching_nets h p a b
touching_turned h p a b =
    filter_same (λ e. has_pin p (net_of h e) b && has_pin p (net_of h e) a) (λ e. has_pin p (net_of h e) a && has_pin p (net_of h e) b)
    (range_with_len 0 (net_count h)) (λ e. turned (has_pin p (net_of h e) b) (has_pin p (net_of h e) a))
  where
    turned : (s t : Bool) → (s && t) ≡ (t && s)
    turned true true = refl
    turned true false = refl
    turned false true = refl
    turned false false = refl

pub touching_below : (h : Hyper) (p : List ℕ) (a b e : ℕ) → Contains (touching_nets h p a b) e → e < net_count h
touching_below h p a b e c =
    Contains-from_range (net_count h) e
    (Contains-from_filter (λ e. has_pin p (net_of h e) a && has_pin p (net_of h e) b) (range_with_len 0 (net_count h)) e c).0

-- ---- all of a list

pub all_of : {A : Type 0} (P : A → Type 0) (xs : List A) → ((x : A) → Contains xs x → P x) → All P xs
all_of P xs f = All-weaker (Contains xs) P f xs (All-contains_itself xs)

pub touching_all : (h : Hyper) (p : List ℕ) (a b : ℕ) → All (λ e. e < net_count h) (touching_nets h p a b)
touching_all h p a b = all_of (λ e. e < net_count h) (touching_nets h p a b) (λ e c. touching_below h p a b e c)

pub kept_below : (test : ℕ → Bool) (n : ℕ) → All (λ v. v < n) (filter test (range_with_len 0 n))
kept_below test n = all_of (λ v. v < n) (filter test (range_with_len 0 n))
    (λ v c. Contains-from_range n v (Contains-from_filter test (range_with_len 0 n) v c).0)

pub kept_rises : (test : ℕ → Bool) (n : ℕ) → IsStrictlyIncreasing (filter test (range_with_len 0 n))
kept_rises test n = IsStrictlyIncreasing-filter test (range_with_len 0 n) (increasing-range 0 n)

pub small_each : (h : Hyper) (vs : List ℕ) → All (λ e. e < net_count h) (flat_map (small_nets h) vs)
small_each h vs = all_of (λ e. e < net_count h) (flat_map (small_nets h) vs) (λ e c. by e (Contains-from_flat_map (small_nets h) vs e c))
  where
    by : (e : ℕ) → ((v : ℕ) × Contains vs v × Contains (small_nets h v) e) → e < net_count h
    by e x =
        let on = Contains-from_filter (is_small h) (nets_of h x.0) e x.2 in
        Contains-from_range (net_count h) e (Contains-from_filter (is_on h x.0) (range_with_len 0 (net_count h)) e on.0).0

pub all_of_set : (P : ℕ → Type 0) (xs : List ℕ) → All P xs → All P (set_of nat_cmp xs)
all_of_set P xs all = all_of P (set_of nat_cmp xs) (λ e c. All-contains P xs e all (Contains-from_set_of nat_cmp_total nat_cmp_exact xs e c))

pub all_from_set : (P : ℕ → Type 0) (xs : List ℕ) → All P (set_of nat_cmp xs) → All P xs
all_from_set P xs all = all_of P xs (λ e c. All-contains P (set_of nat_cmp xs) e all (Contains-set_of nat_cmp_total nat_cmp_exact xs e c))

pub small_all : (h : Hyper) (vs : List ℕ) → All (λ e. e < net_count h) (set_of nat_cmp (flat_map (small_nets h) vs))
small_all h vs = all_of_set (λ e. e < net_count h) (flat_map (small_nets h) vs) (small_each h vs)

-- ---- near and next vertices

module _ (h : Hyper) (p : List ℕ) (a b : ℕ) (sound : IsHypergraph h) where
  pin_below : (e v : ℕ) → e < net_count h → Contains (net_of h e).pins v → v < vertex_count h
  pin_below e v low c = All-contains (λ u. u < vertex_count h) (net_of h e).pins v (net_is h e sound low).pins c

  free_in : (v : ℕ) → is_free_in h p a v ≡ true → IsFree h v × (block_of p v ≡ a)
  free_in v t = let both = and_parts (is_free h v) (nat_eq (block_of p v) a) t in (eqb-true (fix_of h v) FREE both.0, eqb-true (block_of p v) a both.1)

  is_in_free : (v : ℕ) → IsFree h v → block_of p v ≡ a → is_free_in h p a v ≡ true
  is_in_free v f e = both_true (is_free h v) (nat_eq (block_of p v) a) (eq-eqb (fix_of h v) FREE f) (eq-eqb (block_of p v) a e)

  pub near_listed : set_of nat_cmp (flat_map (free_pins h p a) (touching_nets h p a b)) ≡ filter (is_near h p a b) (vertices h)
  near_listed =
      rising_is_filter (set_of nat_cmp pins) (is_near h p a b) (vertex_count h) (increasing-set_of pins)
      (λ v c. to v (Contains-from_flat_map (free_pins h p a) (touching_nets h p a b) v (Contains-from_set_of nat_cmp_total nat_cmp_exact pins v c)))
      (λ v low t. Contains-set_of nat_cmp_total nat_cmp_exact pins v (from v ((near_is_told h p a b v).0 t)))
    where
      pins : List ℕ
      pins = flat_map (free_pins h p a) (touching_nets h p a b)

      to : (v : ℕ) → ((e : ℕ) × Contains (touching_nets h p a b) e × Contains (free_pins h p a e) v) → (v < vertex_count h) × (is_near h p a b v ≡ true)
      to v x =
          let pin = Contains-from_filter (is_free_in h p a) (net_of h x.0).pins v x.2 in
          let free = free_in v pin.1 in
          let net = subst (λ nets. Contains nets (net_of h x.0)) (touching_numbered h p a b) (Contains-map (net_of h) (touching_nets h p a b) x.0 x.1) in
          let both = (touching_has_both h p a b (net_of h x.0)).0 net in (
            pin_below x.0 v (touching_below h p a b x.0 x.1) pin.0,
            (near_is_told h p a b v).1 (record { free = free.0; block = free.1; net = (net_of h x.0, both.0, pin.0, both.1, both.2) }),
          )

      from : (v : ℕ) → IsNear h p a b v → Contains pins v
      from v n =
          let net = (touching_has_both h p a b n.net.0).1 (n.net.1, n.net.3, n.net.4) in
          let number = Contains-from_map (net_of h) (touching_nets h p a b) n.net.0
          (subst (λ nets. Contains nets n.net.0) (sym (touching_numbered h p a b)) net) in
          Contains-flat_map (free_pins h p a) (touching_nets h p a b) number.0 v number.1
          (Contains_filter (is_free_in h p a) (net_of h number.0).pins v (subst (λ (e : Net). Contains e.pins v) (sym number.2) n.net.2)
          (is_in_free v n.free n.block))

  -- the nets that hold near vertices, and the free vertices on them
  abbrev pub reached : List ℕ → List ℕ
  reached near = set_of nat_cmp (flat_map (free_pins h p a) (set_of nat_cmp (flat_map (small_nets h) near)))

  pub next_listed : (near : List ℕ) → near ≡ filter (is_near h p a b) (vertices h)
      → filter (λ v. not (is_member nat_eq near v)) (reached near) ≡ filter (is_next h p a b) (vertices h)
  next_listed near e =
      rising_is_filter (filter (λ v. not (is_member nat_eq near v)) (reached near)) (is_next h p a b) (vertex_count h)
      (IsStrictlyIncreasing-filter (λ v. not (is_member nat_eq near v)) (reached near) (increasing-set_of pins))
      (λ v c. let x = Contains-from_filter (λ v. not (is_member nat_eq near v)) (reached near) v c in
      to v x.1 (Contains-from_flat_map (free_pins h p a) nets v (Contains-from_set_of nat_cmp_total nat_cmp_exact pins v x.0)))
      (λ v low t. let n = (next_is_told h p a b v).0 t in
      Contains_filter (λ v. not (is_member nat_eq near v)) (reached near) v (Contains-set_of nat_cmp_total nat_cmp_exact pins v (from v n)) (other v n))
    where
      nets : List ℕ
      nets = set_of nat_cmp (flat_map (small_nets h) near)

      pins : List ℕ
      pins = flat_map (free_pins h p a) nets

      is_near_of : (v : ℕ) → Contains near v → IsNear h p a b v
      is_near_of v c = (near_is_told h p a b v).0 (Contains-from_filter (is_near h p a b) (vertices h) v (subst (λ xs. Contains xs v) e c)).1

      near_of : (v : ℕ) → v < vertex_count h → IsNear h p a b v → Contains near v
      near_of v low n =
          subst (λ xs. Contains xs v) (sym e)
          (Contains_filter (is_near h p a b) (vertices h) v (Contains_range 0 (vertex_count h) v (omega arith) (omega arith)) ((near_is_told h p a b v).1 n))

      away : (v : ℕ) (t : Bool) → is_member nat_eq near v ≡ t → not t ≡ true → v < vertex_count h → IsNear h p a b v → ⊥
      away v true f n low s = true≢false (sym n)
      away v false f n low s = true≢false (sym (member_true near v (near_of v low s)) ∙ f)

      to : (v : ℕ) → not (is_member nat_eq near v) ≡ true → ((i : ℕ) × Contains nets i × Contains (free_pins h p a i) v)
          → (v < vertex_count h) × (is_next h p a b v ≡ true)
      to v n x =
          let pin = Contains-from_filter (is_free_in h p a) (net_of h x.0).pins v x.2 in
          let free = free_in v pin.1 in
          let u = Contains-from_flat_map (small_nets h) near x.0 (Contains-from_set_of nat_cmp_total nat_cmp_exact (flat_map (small_nets h) near) x.0 x.1) in
          let small = Contains-from_filter (is_small h) (nets_of h u.0) x.0 u.2 in
          let on = Contains-from_filter (is_on h u.0) (range_with_len 0 (net_count h)) x.0 small.0 in
          let net = Contains-from_range (net_count h) x.0 on.0 in
          let low = pin_below x.0 v net pin.0 in (
            low,
            (next_is_told h p a b v).1 (record {
              free = free.0;
              block = free.1;
              other = away v (is_member nat_eq near v) refl n low;
              net = (
                net_of h x.0,
                (x.0, net, get_or_default h.nets x.0 (net_of h x.0) (record { weight = 0; pins = [] }) net),
                leb-true (length (net_of h x.0).pins) 1000 small.1,
                pin.0,
                (u.0, member_of (net_of h x.0).pins u.0 on.1, is_near_of u.0 u.1),
              );
            }),
          )

      other : (v : ℕ) → IsNext h p a b v → not (is_member nat_eq near v) ≡ true
      other v n = by (is_member nat_eq near v) refl
        where
          by : (t : Bool) → is_member nat_eq near v ≡ t → not t ≡ true
          by true f = absurd (n.other (is_near_of v (member_of near v f)))
          by false f = refl

      from : (v : ℕ) → IsNext h p a b v → Contains pins v
      from v n =
          let e = n.net.0 in
          let i = n.net.1.0 in
          let low : i < net_count h = n.net.1.1 in
          let is : net_of h i ≡ e = get_or_default h.nets i (record { weight = 0; pins = [] }) e low ∙ n.net.1.2 in
          let u = n.net.4.0 in
          let pin : Contains (net_of h i).pins u = subst (λ (x : Net). Contains x.pins u) (sym is) n.net.4.1 in
          let small : is_small h i ≡ true = le-leb (length (net_of h i).pins) 1000 (subst (λ (x : Net). length x.pins ≤ 1000) (sym is) n.net.2) in
          let on : Contains (nets_of h u) i =
          Contains_filter (is_on h u) (range_with_len 0 (net_count h)) i (Contains_range 0 (net_count h) i (omega arith) (omega arith))
          (member_true (net_of h i).pins u pin) in
          Contains-flat_map (free_pins h p a) nets i v
          (Contains-set_of nat_cmp_total nat_cmp_exact (flat_map (small_nets h) near) i
          (Contains-flat_map (small_nets h) near u i (near_of u (pin_below i u low pin) n.net.4.2) (Contains_filter (is_small h) (nets_of h u) i on small)))
          (Contains_filter (is_free_in h p a) (net_of h i).pins v (subst (λ (x : Net). Contains x.pins v) (sym is) n.net.3)
          (is_in_free v n.free n.block))

-- ---- the nets of a network

-- the numbers of the nets that join the network of a region
abbrev pub joined_numbers : Hyper → List ℕ → ℕ → ℕ → List ℕ → List ℕ
joined_numbers h p a b region = set_of nat_cmp (touching_nets h p a b ++ flat_map (nets_of h) region)

module _ (h : Hyper) (p : List ℕ) (a b : ℕ) (region : List ℕ) where
  abbrev candidates : List ℕ
  candidates = touching_nets h p a b ++ flat_map (nets_of h) region

  touches : (e : ℕ) → Contains (touching_nets h p a b) e → (has_pin p (net_of h e) a && has_pin p (net_of h e) b) ≡ true
  touches e c = (Contains-from_filter (λ i. has_pin p (net_of h i) a && has_pin p (net_of h i) b) (range_with_len 0 (net_count h)) e c).1

  touching_joins : (e : ℕ) → (has_pin p (net_of h e) a && has_pin p (net_of h e) b) ≡ true → joins p a b region (net_of h e) ≡ true
  touching_joins e t = by (list_any (is_member nat_eq region) (net_of h e).pins) refl
    where
      by : (m : Bool) → list_any (is_member nat_eq region) (net_of h e).pins ≡ m → joins p a b region (net_of h e) ≡ true
      by true f = joins_inside p a b region (net_of h e) f
      by false f = joins_outside p a b region (net_of h e) f ∙ t

  pub joined_below : (e : ℕ) → Contains (joined_numbers h p a b region) e → (e < net_count h) × (joins p a b region (net_of h e) ≡ true)
  joined_below e c =
      by (Contains-append_cases (touching_nets h p a b) (flat_map (nets_of h) region) e (Contains-from_set_of nat_cmp_total nat_cmp_exact candidates e c))
    where
      by : Contains (touching_nets h p a b) e ⊎ Contains (flat_map (nets_of h) region) e
          → (e < net_count h) × (joins p a b region (net_of h e) ≡ true)
      by (inl d) = (touching_below h p a b e d, touching_joins e (touches e d))
      by (inr d) =
          let v = Contains-from_flat_map (nets_of h) region e d in
          let on = Contains-from_filter (is_on h v.0) (range_with_len 0 (net_count h)) e v.2 in (
            Contains-from_range (net_count h) e on.0,
            joins_inside p a b region (net_of h e)
                (any_from (is_member nat_eq region) (net_of h e).pins v.0 (member_of (net_of h e).pins v.0 on.1) (member_true region v.0 v.1)),
          )

  pub joined_listed : map (net_of h) (joined_numbers h p a b region) ≡ filter (joins p a b region) h.nets
  joined_listed =
      ap (map (net_of h)) (rising_is_filter (joined_numbers h p a b region) (λ e. joins p a b region (net_of h e)) (net_count h)
      (increasing-set_of candidates) joined_below
      (λ e low t. Contains-set_of nat_cmp_total nat_cmp_exact candidates e (from e low (list_any (is_member nat_eq region) (net_of h e).pins) refl t)))
      ∙ sym (filter-map (net_of h) (joins p a b region) (range_with_len 0 (net_count h)))
      ∙ ap (filter (joins p a b region)) (sym (nets_by_number h))
    where
      from : (e : ℕ) → e < net_count h → (m : Bool) → list_any (is_member nat_eq region) (net_of h e).pins ≡ m → joins p a b region (net_of h e) ≡ true
          → Contains candidates e
      from e low true f t =
          let v = any_is (is_member nat_eq region) (net_of h e).pins f in
          Contains-append_right (touching_nets h p a b) (flat_map (nets_of h) region) e
          (Contains-flat_map (nets_of h) region v.0 e (member_of region v.0 v.2)
          (Contains_filter (is_on h v.0) (range_with_len 0 (net_count h)) e (Contains_range 0 (net_count h) e (omega arith) (omega arith))
          (member_true (net_of h e).pins v.0 v.1)))
      from e low false f t =
          Contains-append_left (touching_nets h p a b) (flat_map (nets_of h) region) e
          (Contains_filter (λ i. has_pin p (net_of h i) a && has_pin p (net_of h i) b) (range_with_len 0 (net_count h)) e
          (Contains_range 0 (net_count h) e (omega arith) (omega arith)) (sym (joins_outside p a b region (net_of h e) f) ∙ t))

-- the nets with a pin in the region, and those that touch both blocks without one
abbrev pub inside_numbers : Hyper → List ℕ → List ℕ
inside_numbers h region = set_of nat_cmp (flat_map (nets_of h) region)

abbrev pub other_numbers : Hyper → List ℕ → ℕ → ℕ → List ℕ → List ℕ
other_numbers h p a b region = filter (λ e. not (is_member nat_eq (inside_numbers h region) e)) (touching_nets h p a b)

module _ (h : Hyper) (region : List ℕ) where
  inside_below : (e : ℕ) → Contains (inside_numbers h region) e → (e < net_count h) × (list_any (is_member nat_eq region) (net_of h e).pins ≡ true)
  inside_below e c =
      let v = Contains-from_flat_map (nets_of h) region e (Contains-from_set_of nat_cmp_total nat_cmp_exact (flat_map (nets_of h) region) e c) in
      let on = Contains-from_filter (is_on h v.0) (range_with_len 0 (net_count h)) e v.2 in (
        Contains-from_range (net_count h) e on.0,
        any_from (is_member nat_eq region) (net_of h e).pins v.0 (member_of (net_of h e).pins v.0 on.1) (member_true region v.0 v.1),
      )

  inside_from : (e : ℕ) → e < net_count h → list_any (is_member nat_eq region) (net_of h e).pins ≡ true → Contains (inside_numbers h region) e
  inside_from e low t =
      let v = any_is (is_member nat_eq region) (net_of h e).pins t in
      Contains-set_of nat_cmp_total nat_cmp_exact (flat_map (nets_of h) region) e
      (Contains-flat_map (nets_of h) region v.0 e (member_of region v.0 v.2)
      (Contains_filter (is_on h v.0) (range_with_len 0 (net_count h)) e (Contains_range 0 (net_count h) e (omega arith) (omega arith))
      (member_true (net_of h e).pins v.0 v.1)))

  pub inside_all : All (λ e. e < net_count h) (inside_numbers h region)
  inside_all = all_of (λ e. e < net_count h) (inside_numbers h region) (λ e c. (inside_below e c).0)

  pub inside_each : All (λ e. e < net_count h) (flat_map (nets_of h) region)
  inside_each = all_from_set (λ e. e < net_count h) (flat_map (nets_of h) region) inside_all

  pub inside_rises : IsStrictlyIncreasing (inside_numbers h region)
  inside_rises = increasing-set_of (flat_map (nets_of h) region)

  pub inside_listed : map (net_of h) (inside_numbers h region) ≡ filter (λ e. list_any (is_member nat_eq region) e.pins) h.nets
  inside_listed =
      ap (map (net_of h)) (rising_is_filter (inside_numbers h region) (λ e. list_any (is_member nat_eq region) (net_of h e).pins) (net_count h)
      inside_rises inside_below inside_from)
      ∙ sym (filter-map (net_of h) (λ e. list_any (is_member nat_eq region) e.pins) (range_with_len 0 (net_count h)))
      ∙ ap (filter (λ e. list_any (is_member nat_eq region) e.pins)) (sym (nets_by_number h))

  module _ (p : List ℕ) (a b : ℕ) where
    pub other_all : All (λ e. e < net_count h) (other_numbers h p a b region)
    other_all =
        all_of (λ e. e < net_count h) (other_numbers h p a b region)
        (λ e c. touching_below h p a b e (Contains-from_filter (λ i. not (is_member nat_eq (inside_numbers h region) i)) (touching_nets h p a b) e c).0)

    pub other_listed : map (net_of h) (other_numbers h p a b region)
        ≡ filter (λ e. (has_pin p e a && has_pin p e b) && not (list_any (is_member nat_eq region) e.pins)) h.nets
    other_listed =
        ap (map (net_of h)) (rising_is_filter (other_numbers h p a b region)
        (λ e. (has_pin p (net_of h e) a && has_pin p (net_of h e) b) && not (list_any (is_member nat_eq region) (net_of h e).pins)) (net_count h)
        (IsStrictlyIncreasing-filter away (touching_nets h p a b) (kept_rises touches (net_count h))) to from)
        ∙ sym (filter-map (net_of h) (λ e. (has_pin p e a && has_pin p e b) && not (list_any (is_member nat_eq region) e.pins))
        (range_with_len 0 (net_count h)))
        ∙ ap (filter (λ e. (has_pin p e a && has_pin p e b) && not (list_any (is_member nat_eq region) e.pins))) (sym (nets_by_number h))
      where
        touches : ℕ → Bool
        touches e = has_pin p (net_of h e) a && has_pin p (net_of h e) b

        away : ℕ → Bool
        away e = not (is_member nat_eq (inside_numbers h region) e)

        inner : ℕ → Bool
        inner e = list_any (is_member nat_eq region) (net_of h e).pins

        to : (e : ℕ) → Contains (other_numbers h p a b region) e → (e < net_count h) × ((touches e && not (inner e)) ≡ true)
        to e c =
            let x = Contains-from_filter away (touching_nets h p a b) e c in
            let low = touching_below h p a b e x.0 in
            (low, both_true (touches e) (not (inner e)) (Contains-from_filter touches (range_with_len 0 (net_count h)) e x.0).1 (outer (inner e) refl))
          where
            outer : (t : Bool) → inner e ≡ t → not t ≡ true
            outer true f =
                let x = Contains-from_filter away (touching_nets h p a b) e c in
                sym (ap not (member_true (inside_numbers h region) e (inside_from e (touching_below h p a b e x.0) f))) ∙ x.1
            outer false f = refl

        from : (e : ℕ) → e < net_count h → (touches e && not (inner e)) ≡ true → Contains (other_numbers h p a b region) e
        from e low t =
            let both = and_parts (touches e) (not (inner e)) t in
            Contains_filter away (touching_nets h p a b) e
            (Contains_filter touches (range_with_len 0 (net_count h)) e (Contains_range 0 (net_count h) e (omega arith) (omega arith)) both.0)
            (kept (is_member nat_eq (inside_numbers h region) e) refl both.1)
          where
            kept : (t : Bool) → is_member nat_eq (inside_numbers h region) e ≡ t → not (inner e) ≡ true → not t ≡ true
            kept true f n =
                sym (ap not (inside_below e (member_of (inside_numbers h region) e f)).1) ∙ n
            kept false f n = refl

-- few nets with few pins
pub joined_few : (h : Hyper) (test : Net → Bool) (nets : List ℕ) → map (net_of h) nets ≡ filter test h.nets
    → (length nets ≤ net_count h) × (total (λ e. length (net_of h e).pins) nets ≤ pin_count h)
joined_few h test nets e = (
  let a = length-map nets (net_of h) in
      let b = ap length e in
      let c = length-filter-le h.nets in
      omega arith,
  let a = total-map (λ (n : Net). length n.pins) (net_of h) nets in
      let b = ap (total (λ (n : Net). length n.pins)) e in
      let c = total-filter-le (λ (n : Net). length n.pins) test h.nets in
      omega arith,
)
  where
    length-filter-le : (xs : List Net) → length (filter test xs) ≤ length xs
    length-filter-le [] = omega arith
    length-filter-le (x ∷ xs) = by (test x) (length-filter-le xs)
      where
        by : (t : Bool) → length (filter test xs) ≤ length xs → length (if t then x ∷ filter test xs else filter test xs) ≤ suc (length xs)
        by true l = omega arith
        by false l = omega arith
