-- Places in a region, and the arcs of pins and nets one after the other.
use Rattle.std.proofs.Common.{◌≡◌, ◌≢◌, ◌⊎◌, inl, inr, ℕ, zero, suc, ◌+◌, ◌*◌, ◌<◌, ◌≤◌, Bool, true, false, ◌&&◌, ◌||◌, not, nat_eq, nat_lt, if◌then◌else◌}
use Rattle.std.proofs.Common.{List, [], ◌∷◌, ◌++◌, length, map, replicate, drop, All, refl, sym, ap, ap₂, ◌∙◌, subst, arith}
use Rattle.std.proofs.Common.{slice_index, slice_set, get_or-set_same, get_or-set_other, append_assoc}
use Rattle.std.specs.List.{list_any, position_or_len}
use Rattle.std.specs.List.Sorted.{IsStrictlyIncreasing}
use Rattle.std.specs.Set.{is_member}
use Rattle.std.proofs.lemmas.Bool.{cases_lt, cases_eq, eq-eqb, ne_eqb, lt-ltb, le-ltb}
use Rattle.std.proofs.lemmas.List.{drop_more, drop_all, append-nil, length-append, length-map}
use Rattle.flow_net.specs.declared.network.Arc.{Arc}
use Rattle.flow_net.specs.Flow.{FlowNetwork}
use Rattle.hg_defs.specs.Hypergraph.{Net, Hyper, net_of}
use Rattle.hg_defs.specs.Partition.{block_of}
use Rattle.flow_pair.specs.PairNetwork.{node_of, unbounded, joins, has_pin_outside, pin_arcs, net_arcs, nets_arcs, joined_nets, pair_network, IsIdle, ArePlaces}

-- ---- places in rising lists

pub rising-tail : (x : ℕ) (xs : List ℕ) → IsStrictlyIncreasing (x ∷ xs) → IsStrictlyIncreasing xs
rising-tail x xs r k l =
    subst (λ n. slice_index (x ∷ xs) (suc k) < slice_index (x ∷ xs) n) (let z : suc k + 1 ≡ suc (k + 1) = omega arith in z) (r (suc k) (omega arith))

-- the first number is below the later ones
pub rising-first : (x : ℕ) (xs : List ℕ) (i : ℕ) → IsStrictlyIncreasing (x ∷ xs) → i < length xs → x < slice_index xs i
rising-first x [] i r l = absurd (omega arith)
rising-first x (y ∷ xs) zero r l = r 0 (omega arith)
rising-first x (y ∷ xs) (suc i) r l =
    let a : x < y = r 0 (omega arith) in
    let b = rising-first y xs i (rising-tail x (y ∷ xs) r) (omega arith) in
    omega arith

pub rising-le : (xs : List ℕ) → IsStrictlyIncreasing xs → (i j : ℕ) → i ≤ j → j < length xs → slice_index xs i ≤ slice_index xs j
rising-le [] r i j l m = absurd (omega arith)
rising-le (x ∷ xs) r zero zero l m = omega arith
rising-le (x ∷ xs) r zero (suc j) l m = let a = rising-first x xs j r (omega arith) in omega arith
rising-le (x ∷ xs) r (suc i) zero l m = absurd (omega arith)
rising-le (x ∷ xs) r (suc i) (suc j) l m = rising-le xs (rising-tail x xs r) i j (omega arith) (omega arith)

rising-lt : (xs : List ℕ) → IsStrictlyIncreasing xs → (i j : ℕ) → i < j → j < length xs → slice_index xs i < slice_index xs j
rising-lt xs r i j l m = let a = r i (omega arith) in let b = rising-le xs r (i + 1) j (omega arith) m in omega arith

pub position-here : (xs : List ℕ) (v i : ℕ) → IsStrictlyIncreasing xs → i < length xs → slice_index xs i ≡ v → position_or_len (nat_eq v) xs ≡ i
position-here [] v i r l e = absurd (omega arith)
position-here (x ∷ xs) v zero r l e = ap (λ t. if not t then 1 + position_or_len (nat_eq v) xs else 0) (eq-eqb v x (sym e))
position-here (x ∷ xs) v (suc i) r l e =
    let a = rising-first x xs i r (omega arith) in
    ap (λ t. if not t then 1 + position_or_len (nat_eq v) xs else 0) (ne_eqb v x (λ z. absurd (omega arith))) ∙
    (let b = position-here xs v i (rising-tail x xs r) (omega arith) e in let c : 1 + position_or_len (nat_eq v) xs ≡ suc i = omega arith in c)

pub position-none : (xs : List ℕ) (v : ℕ) → ((i : ℕ) → i < length xs → slice_index xs i ≢ v) → position_or_len (nat_eq v) xs ≡ length xs
position-none [] v h = refl
position-none (x ∷ xs) v h =
    ap (λ t. if not t then 1 + position_or_len (nat_eq v) xs else 0) (ne_eqb v x (λ z. h 0 (omega arith) (sym z))) ∙
    (let b = position-none xs v (λ i l e. h (suc i) (omega arith) e) in let c : 1 + position_or_len (nat_eq v) xs ≡ suc (length xs) = omega arith in c)

pub position-le : (xs : List ℕ) (v : ℕ) → position_or_len (nat_eq v) xs ≤ length xs
position-le [] v = omega arith
position-le (x ∷ xs) v = by (nat_eq v x) (position-le xs v)
  where
    by : (t : Bool) → position_or_len (nat_eq v) xs ≤ length xs → (if not t then 1 + position_or_len (nat_eq v) xs else 0) ≤ suc (length xs)
    by true l = omega arith
    by false l = omega arith

-- one place more is written
pub place_next : (region places : List ℕ) (i : ℕ) → IsStrictlyIncreasing region → All (λ v. v < length places) region → i < length region
    → ((j : ℕ) → j < i → slice_index places (slice_index region j) ≡ j)
    → (j : ℕ) → j < i + 1 → slice_index (slice_set places (slice_index region i) i) (slice_index region j) ≡ j
place_next region places i r all l placed j m = by (cases_eq j i)
  where
    by : (j ≡ i) ⊎ (j ≢ i) → slice_index (slice_set places (slice_index region i) i) (slice_index region j) ≡ j
    by (inl e) =
        ap (λ k. slice_index (slice_set places (slice_index region i) i) (slice_index region k)) e
        ∙ get_or-set_same places (slice_index region i) i 0 (all i 0 l) ∙ sym e
    by (inr n) =
        let below = rising-lt region r j i (omega arith) l in
        get_or-set_other places (slice_index region i) (slice_index region j) i 0 (λ e. absurd (omega arith)) ∙ placed j (omega arith)

-- a number that isn't at the place written for it is not in the list
pub place_none : (region places : List ℕ) (v : ℕ) → ArePlaces region places
    → (slice_index places v < length region → slice_index region (slice_index places v) ≢ v) → length region ≡ position_or_len (nat_eq v) region
place_none region places v placed none = sym (position-none region v (λ i l e.
    let at : slice_index places v ≡ i = ap (slice_index places) (sym e) ∙ placed i l in
    none (omega arith) (ap (slice_index region) at ∙ e)))

-- a number is in the list where it has a place
pub member-position : (xs : List ℕ) (v : ℕ) → is_member nat_eq xs v ≡ nat_lt (position_or_len (nat_eq v) xs) (length xs)
member-position [] v = refl
member-position (x ∷ xs) v = by (nat_eq v x) (member-position xs v)
  where
    more : (m n : ℕ) → nat_lt m n ≡ nat_lt (1 + m) (suc n)
    more m n = by_order (cases_lt m n)
      where
        by_order : (m < n) ⊎ (n ≤ m) → nat_lt m n ≡ nat_lt (1 + m) (suc n)
        by_order (inl l) = lt-ltb m n l ∙ sym (lt-ltb (1 + m) (suc n) (omega arith))
        by_order (inr l) = le-ltb m n l ∙ sym (le-ltb (1 + m) (suc n) (omega arith))

    by : (t : Bool) → is_member nat_eq xs v ≡ nat_lt (position_or_len (nat_eq v) xs) (length xs)
        → (t || is_member nat_eq xs v) ≡ nat_lt (if not t then 1 + position_or_len (nat_eq v) xs else 0) (suc (length xs))
    by true e = sym (lt-ltb 0 (suc (length xs)) (omega arith))
    by false e = e ∙ more (position_or_len (nat_eq v) xs) (length xs)

-- strictly rising numbers are at least their places, so they are no more than their bound
rising-at : (xs : List ℕ) (i : ℕ) → IsStrictlyIncreasing xs → i < length xs → i ≤ slice_index xs i
rising-at xs zero r l = omega arith
rising-at xs (suc i) r l =
    let a = rising-at xs i r (omega arith) in
    let b = r i (omega arith) in
    let c : slice_index xs (suc i) ≡ slice_index xs (i + 1) = ap (slice_index xs) (let z : suc i ≡ i + 1 = omega arith in z) in
    omega arith

pub rising-few : (xs : List ℕ) (n : ℕ) → IsStrictlyIncreasing xs → All (λ v. v < n) xs → length xs ≤ n
rising-few [] n r all = omega arith
rising-few (x ∷ xs) n r all =
    let a = rising-at (x ∷ xs) (length xs) r (omega arith) in
    let b = all (length xs) 0 (omega arith) in
    omega arith

-- ---- arcs, one after the other

module _ (h : Hyper) (p : List ℕ) (a b : ℕ) (region : List ℕ) where
  pub pin_arcs-cons : (at v : ℕ) (pins : List ℕ) → pin_arcs h p a b region at (v ∷ pins) ≡ pin_arcs h p a b region at (v ∷ []) ++ pin_arcs h p a b region at
      pins
  pin_arcs-cons at v pins =
      by (nat_eq (block_of p v) a || nat_eq (block_of p v) b) (record { from = node_of p a region v; to = at; cap = unbounded h })
      (record { from = at + 1; to = node_of p a region v; cap = unbounded h })
      (pin_arcs h p a b region at pins)
    where
      by : (t : Bool) (x y : Arc) (later : List Arc) → (if t then (x ∷ y ∷ later) else later) ≡ (if t then (x ∷ y ∷ []) else []) ++ later
      by true x y later = refl
      by false x y later = refl

  pub pin_arcs-few : (at v : ℕ) → length (pin_arcs h p a b region at (v ∷ [])) ≤ 2
  pin_arcs-few at v = by (nat_eq (block_of p v) a || nat_eq (block_of p v) b) (record { from = node_of p a region v; to = at; cap = unbounded h })
      (record { from = at + 1; to = node_of p a region v; cap = unbounded h })
    where
      by : (t : Bool) (x y : Arc) → length (if t then (x ∷ y ∷ []) else []) ≤ 2
      by true x y = omega arith
      by false x y = omega arith

  pub pins-rest : (before after target : List Arc) (pins : List ℕ) (at i : ℕ) → i < length pins → after ≡ before ++ pin_arcs h p a b region at
      (slice_index pins i ∷ [])
      → before ++ pin_arcs h p a b region at (drop i pins) ≡ target → after ++ pin_arcs h p a b region at (drop (i + 1) pins) ≡ target
  pins-rest before after target pins at i l e t =
      ap (λ xs. xs ++ pin_arcs h p a b region at (drop (i + 1) pins)) e
      ∙ append_assoc before (pin_arcs h p a b region at (slice_index pins i ∷ [])) (pin_arcs h p a b region at (drop (i + 1) pins))
      ∙ ap (λ xs. before ++ xs) (sym (pin_arcs-cons at (slice_index pins i) (drop (i + 1) pins)))
      ∙ ap (λ xs. before ++ pin_arcs h p a b region at xs) (sym (drop_more pins i 0 l)) ∙ t

  pub pins-few : (before after : List Arc) (at v : ℕ) → after ≡ before ++ pin_arcs h p a b region at (v ∷ []) → length after ≤ length before + 2
  pins-few before after at v e = let x = ap length e in let y = length-append before (pin_arcs h p a b region at (v ∷ [])) in let z = pin_arcs-few at v in
      omega arith

  -- one net more
  pub nets-rest : (before after : FlowNetwork) (target : List Arc) (nets : List ℕ) (i : ℕ) → i < length nets
      → after.nodes ≡ before.nodes + 2 → after.arcs ≡ before.arcs ++ net_arcs h p a b region before.nodes (net_of h (slice_index nets i))
      → before.arcs ++ nets_arcs h p a b region before.nodes (map (net_of h) (drop i nets)) ≡ target
      → after.arcs ++ nets_arcs h p a b region after.nodes (map (net_of h) (drop (i + 1) nets)) ≡ target
  nets-rest before after target nets i l nodes arcs t =
      let rest = map (net_of h) (drop (i + 1) nets) in
      ap (λ n. after.arcs ++ nets_arcs h p a b region n rest) nodes
      ∙ ap (λ xs. xs ++ nets_arcs h p a b region (before.nodes + 2) rest) arcs
      ∙ append_assoc before.arcs (net_arcs h p a b region before.nodes (net_of h (slice_index nets i))) (nets_arcs h p a b region (before.nodes + 2) rest)
      ∙ ap (λ xs. before.arcs ++ nets_arcs h p a b region before.nodes (map (net_of h) xs)) (sym (drop_more nets i 0 l)) ∙ t

  -- all of them
  pub nets-made : (network : FlowNetwork) (nets : List ℕ) (i : ℕ) → i ≤ length nets → length nets ≤ i
      → map (net_of h) nets ≡ joined_nets h p a b region → network.nodes ≡ 2 + length region + 2 * i
      → network.arcs ++ nets_arcs h p a b region network.nodes (map (net_of h) (drop i nets)) ≡ nets_arcs h p a b region (2 + length region)
      (map (net_of h) nets)
      → IsIdle network → network ≡ pair_network h p a b region
  nets-made network nets i most least is nodes arcs idle =
      let build : ℕ → List Arc → FlowNetwork = λ n xs. record { nodes = n; arcs = xs; flows = replicate (length xs) 0 } in
      let same : network ≡ build network.nodes network.arcs = ap (λ (xs : List ℕ). record network { flows = xs }) idle in
      same ∙ ap₂ build all_nodes all_arcs
    where
      all_nodes : network.nodes ≡ 2 + length region + 2 * length (joined_nets h p a b region)
      all_nodes = let e = ap length is in let f = length-map nets (net_of h) in omega arith

      all_arcs : network.arcs ≡ nets_arcs h p a b region (2 + length region) (joined_nets h p a b region)
      all_arcs =
          sym (append-nil network.arcs)
          ∙ ap (λ xs. network.arcs ++ nets_arcs h p a b region network.nodes (map (net_of h) xs)) (sym (drop_all i nets least))
          ∙ arcs ∙ ap (nets_arcs h p a b region (2 + length region)) is

-- ---- what a net without a pin in the region is tested for

pub any_outside : (p region : List ℕ) (pins : List ℕ) (c : ℕ) → list_any (is_member nat_eq region) pins ≡ false
    → list_any (λ v. nat_eq (block_of p v) c && not (is_member nat_eq region v)) pins ≡ list_any (λ v. nat_eq (block_of p v) c) pins
any_outside p region [] c none = refl
any_outside p region (v ∷ pins) c none = by (nat_eq (block_of p v) c) (is_member nat_eq region v) none (λ e. any_outside p region pins c e)
  where
    by : (s m : Bool) → (m || list_any (is_member nat_eq region) pins) ≡ false
        → (list_any (is_member nat_eq region) pins ≡ false → list_any (λ u. nat_eq (block_of p u) c && not (is_member nat_eq region u)) pins ≡ list_any
        (λ u. nat_eq (block_of p u) c) pins)
        → ((s && not m) || list_any (λ u. nat_eq (block_of p u) c && not (is_member nat_eq region u)) pins) ≡ (s || list_any (λ u. nat_eq (block_of p u) c)
        pins)
    by s true e r = absurd (let z : true ≡ false = e in cc)
    by true false e r = refl
    by false false e r = r e

pub joins_outside : (p : List ℕ) (a b : ℕ) (region : List ℕ) (e : Net) → list_any (is_member nat_eq region) e.pins ≡ false
    → joins p a b region e ≡ (list_any (λ v. nat_eq (block_of p v) a) e.pins && list_any (λ v. nat_eq (block_of p v) b) e.pins)
joins_outside p a b region e none =
    ap (λ t. t || (has_pin_outside p region e a && has_pin_outside p region e b)) none
    ∙ ap (λ t. t && has_pin_outside p region e b) (any_outside p region e.pins a none) ∙ ap (λ t. list_any (λ v. nat_eq (block_of p v) a) e.pins && t)
    (any_outside p region e.pins b none)

pub joins_inside : (p : List ℕ) (a b : ℕ) (region : List ℕ) (e : Net) → list_any (is_member nat_eq region) e.pins ≡ true → joins p a b region e ≡ true
joins_inside p a b region e some = ap (λ t. t || (has_pin_outside p region e a && has_pin_outside p region e b)) some
