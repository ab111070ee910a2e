-- The arcs of the solver's network, one after the other.
use Rattle.std.proofs.Common.{◌≡◌, ◌⊎◌, inl, inr, ℕ, suc, ◌+◌, ◌*◌, ◌<◌, ◌≤◌, Bool, true, false, ◌&&◌, ◌||◌, not, nat_eq, nat_lt}
use Rattle.std.proofs.Common.{if◌then◌else◌, List, [], ◌∷◌, ◌++◌, length, filter, map, replicate, drop, All, get_or, refl, sym, ap, ap₂, ◌∙◌, subst, arith}
use Rattle.std.proofs.Common.{slice_index, append_assoc}
use Rattle.std.specs.List.{list_any, position_or_len}
use Rattle.std.specs.Set.{is_member}
use Rattle.std.proofs.lemmas.Bool.{cases_lt, lt-ltb, le-ltb}
use Rattle.std.proofs.lemmas.List.{drop_more, drop_all, append-nil, length-append}
use Rattle.std.proofs.lemmas.List.Elements.{All-nil, All-cons}
use Rattle.flow_net.specs.declared.network.Arc.{Arc}
use Rattle.flow_net.specs.Flow.{FlowNetwork}
use Rattle.hg_defs.specs.Sums.{total}
use Rattle.hg_defs.specs.Hypergraph.{Net, Hyper, net_of}
use Rattle.hg_defs.proofs.SumLaws.{total-le, total-scale, total-map}
use Rattle.hg_defs.proofs.ContractionLaws.{total-filter-le}
use Rattle.round_log.specs.Rounds.{leaves, pair_price, has_pin}
use Rattle.flow_pair.specs.PairNetwork.{unbounded, net_price, joins, joined_nets, has_pin_outside, IsIdle}
use Rattle.flow_pair.specs.ShortNetwork.{inner_nodes, arcs_to_each, arcs_from_each, source_arcs, sink_arcs, inner_arcs, end_arcs}
use Rattle.flow_pair.specs.ShortNetwork.{outer_count, inner_count, end_count, short_arcs, short_count, all_short_arcs, fixed_price, inside_nets, short_network}
use Rattle.flow_pair.proofs.RegionLaws.{member-position, joins_inside, joins_outside}
use Rattle.flow_pair.proofs.CheapestLaws.{different, price-le}
use Rattle.flow_pair.proofs.NetLaws.{other_numbers, other_listed}

-- ---- a pin noted

pub kept_pin : (o t m : Bool) → m ≡ true → o ≡ (o || (t && not m))
kept_pin true t m e = refl
kept_pin false t false e = absurd (different (sym e))
kept_pin false true true e = refl
kept_pin false false true e = refl

pub noted_then : (o t m r : Bool) → o ≡ true → r ≡ o → r ≡ (o || (t && not m))
noted_then o t m r f g = g ∙ f ∙ sym (ap (λ x. x || (t && not m)) f)

pub noted_else : (o t m r : Bool) → m ≡ false → o ≡ false → r ≡ t → r ≡ (o || (t && not m))
noted_else o t m r e f g = g ∙ sym (by t) ∙ sym (ap (λ x. o || (t && not x)) e ∙ ap (λ x. x || (t && true)) f)
  where
    by : (t : Bool) → (t && true) ≡ t
    by true = refl
    by false = refl

pub pin_inside : (region : List ℕ) (v place : ℕ) → place ≡ position_or_len (nat_eq v) region → place < length region → is_member nat_eq region v ≡ true
pin_inside region v place e l = member-position region v ∙ lt-ltb (position_or_len (nat_eq v) region) (length region) (omega arith)

pub pin_outside : (region : List ℕ) (v place : ℕ) → place ≡ position_or_len (nat_eq v) region → length region ≤ place → is_member nat_eq region v ≡ false
pin_outside region v place e l = member-position region v ∙ le-ltb (position_or_len (nat_eq v) region) (length region) (omega arith)

-- ---- the nodes of pins

inner-cons : (region : List ℕ) (v : ℕ) (pins : List ℕ) → inner_nodes region (v ∷ pins) ≡ inner_nodes region (v ∷ []) ++ inner_nodes region pins
inner-cons region v pins = by (nat_lt (position_or_len (nat_eq v) region) (length region))
  where
    by : (t : Bool) → (if t then (2 + position_or_len (nat_eq v) region) ∷ inner_nodes region pins else inner_nodes region pins)
        ≡ (if t then (2 + position_or_len (nat_eq v) region) ∷ [] else []) ++ inner_nodes region pins
    by true = refl
    by false = refl

pub inner-rest : (region before after target pins : List ℕ) (i : ℕ) → i < length pins → after ≡ before ++ inner_nodes region (slice_index pins i ∷ [])
    → before ++ inner_nodes region (drop i pins) ≡ target → after ++ inner_nodes region (drop (i + 1) pins) ≡ target
inner-rest region before after target pins i l e t =
    ap (λ xs. xs ++ inner_nodes region (drop (i + 1) pins)) e
    ∙ append_assoc before (inner_nodes region (slice_index pins i ∷ [])) (inner_nodes region (drop (i + 1) pins))
    ∙ ap (λ xs. before ++ xs) (sym (inner-cons region (slice_index pins i) (drop (i + 1) pins)))
    ∙ ap (λ xs. before ++ inner_nodes region xs) (sym (drop_more pins i 0 l)) ∙ t

-- they are nodes of the region, and no more than the pins
pub inner-below : (region pins : List ℕ) (n : ℕ) → 2 + length region ≤ n → All (λ u. u < n) (inner_nodes region pins)
inner-below region [] n most = All-nil (λ u. u < n)
inner-below region (v ∷ pins) n most = by (cases_lt (position_or_len (nat_eq v) region) (length region)) (inner-below region pins n most)
  where
    by : (position_or_len (nat_eq v) region < length region) ⊎ (length region ≤ position_or_len (nat_eq v) region) → All (λ u. u < n) (inner_nodes region pins)
        → All (λ u. u < n) (if nat_lt (position_or_len (nat_eq v) region) (length region) then (2 + position_or_len (nat_eq v) region) ∷ inner_nodes region pins
        else inner_nodes region pins)
    by (inl l) r =
        subst (λ (t : Bool). All (λ u. u < n) (if t then (2 + position_or_len (nat_eq v) region) ∷ inner_nodes region pins else inner_nodes region pins))
        (sym (lt-ltb (position_or_len (nat_eq v) region) (length region) l))
        (All-cons (λ u. u < n) (2 + position_or_len (nat_eq v) region) (inner_nodes region pins) (omega arith) r)
    by (inr l) r =
        subst (λ (t : Bool). All (λ u. u < n) (if t then (2 + position_or_len (nat_eq v) region) ∷ inner_nodes region pins else inner_nodes region pins))
        (sym (le-ltb (position_or_len (nat_eq v) region) (length region) l)) r

pub inner-few : (region pins : List ℕ) → length (inner_nodes region pins) ≤ length pins
inner-few region [] = omega arith
inner-few region (v ∷ pins) = by (nat_lt (position_or_len (nat_eq v) region) (length region)) (inner-few region pins)
  where
    by : (t : Bool) → length (inner_nodes region pins) ≤ length pins
        → length (if t then (2 + position_or_len (nat_eq v) region) ∷ inner_nodes region pins else inner_nodes region pins) ≤ suc (length pins)
    by true l = omega arith
    by false l = omega arith

-- ---- how many nodes and arcs a net adds

length-to_each : (cap at : ℕ) (nodes : List ℕ) → length (arcs_to_each cap at nodes) ≡ length nodes
length-to_each cap at [] = refl
length-to_each cap at (n ∷ nodes) = ap suc (length-to_each cap at nodes)

length-from_each : (cap at : ℕ) (nodes : List ℕ) → length (arcs_from_each cap at nodes) ≡ length nodes
length-from_each cap at [] = refl
length-from_each cap at (n ∷ nodes) = ap suc (length-from_each cap at nodes)

end-few : (A B : Bool) (most price at : ℕ) (nodes : List ℕ) → length (end_arcs A B most price at nodes) ≤ 1 + 2 * length nodes
end-few true true most price at nodes = omega arith
end-few true false most price at nodes = by nodes
  where
    by : (xs : List ℕ) → length (source_arcs most price at xs) ≤ 1 + 2 * length xs
    by [] = omega arith
    by (x ∷ []) = omega arith
    by (x ∷ y ∷ xs) = let e = length-to_each most at (x ∷ y ∷ xs) in omega arith
end-few false true most price at nodes = by nodes
  where
    by : (xs : List ℕ) → length (sink_arcs most price at xs) ≤ 1 + 2 * length xs
    by [] = omega arith
    by (x ∷ []) = omega arith
    by (x ∷ y ∷ xs) = let e = length-from_each most at (x ∷ y ∷ xs) in omega arith
end-few false false most price at nodes = by nodes
  where
    by : (xs : List ℕ) → length (inner_arcs most price at xs) ≤ 1 + 2 * length xs
    by [] = omega arith
    by (x ∷ []) = omega arith
    by (x ∷ y ∷ []) = omega arith
    by (x ∷ y ∷ z ∷ xs) =
        let all = x ∷ y ∷ z ∷ xs in
        let e = length-from_each most at all in
        let f = length-to_each most (at + 1) all in
        let g = length-append (arcs_from_each most at all) (arcs_to_each most (at + 1) all) in
        omega arith

count-few : (A B : Bool) (nodes : List ℕ) → end_count A B nodes ≤ 2
count-few true true nodes = omega arith
count-few true false nodes = by nodes
  where
    by : (xs : List ℕ) → outer_count xs ≤ 2
    by [] = omega arith
    by (x ∷ []) = omega arith
    by (x ∷ y ∷ xs) = omega arith
count-few false true nodes = by nodes
  where
    by : (xs : List ℕ) → outer_count xs ≤ 2
    by [] = omega arith
    by (x ∷ []) = omega arith
    by (x ∷ y ∷ xs) = omega arith
count-few false false nodes = by nodes
  where
    by : (xs : List ℕ) → inner_count xs ≤ 2
    by [] = omega arith
    by (x ∷ []) = omega arith
    by (x ∷ y ∷ []) = omega arith
    by (x ∷ y ∷ z ∷ xs) = omega arith

-- ---- nets, one after the other

module _ (h : Hyper) (p : List ℕ) (a b : ℕ) (region : List ℕ) where
  pub short-few : (at : ℕ) (e : Net) → length (short_arcs h p a b region at e) ≤ 1 + 2 * length e.pins
  short-few at e =
      let x = end-few (has_pin_outside p region e a) (has_pin_outside p region e b) (unbounded h) (net_price h p a b e) at (inner_nodes region e.pins) in
      let y = inner-few region e.pins in
      omega arith

  pub short_count-few : (e : Net) → short_count p a b region e ≤ 2
  short_count-few e = count-few (has_pin_outside p region e a) (has_pin_outside p region e b) (inner_nodes region e.pins)

  -- a sum over the nets that are left
  pub sum-rest : (f : Net → ℕ) (nets : List ℕ) (i before after all : ℕ) → i < length nets → after ≡ before + f (net_of h (slice_index nets i))
      → before + total f (map (net_of h) (drop i nets)) ≡ all → after + total f (map (net_of h) (drop (i + 1) nets)) ≡ all
  sum-rest f nets i before after all l e t =
      let s = ap (λ xs. total f (map (net_of h) xs)) (drop_more nets i 0 l) in
      omega arith

  pub sum-part : (f : Net → ℕ) (nets : List ℕ) (i before all : ℕ) → i < length nets → before + total f (map (net_of h) (drop i nets)) ≡ all
      → before + f (net_of h (slice_index nets i)) ≤ all
  sum-part f nets i before all l t =
      let s = ap (λ xs. total f (map (net_of h) xs)) (drop_more nets i 0 l) in
      omega arith

  pub sum-all : (f : Net → ℕ) (nets : List ℕ) (i before all : ℕ) → length nets ≤ i → before + total f (map (net_of h) (drop i nets)) ≡ all → before ≡ all
  sum-all f nets i before all l t =
      let s = ap (λ xs. total f (map (net_of h) xs)) (drop_all i nets l) in
      omega arith

  pub short-rest : (before after : FlowNetwork) (target : List Arc) (nets : List ℕ) (i : ℕ) → i < length nets
      → after.nodes ≡ before.nodes + short_count p a b region (net_of h (slice_index nets i))
      → after.arcs ≡ before.arcs ++ short_arcs h p a b region before.nodes (net_of h (slice_index nets i))
      → before.arcs ++ all_short_arcs h p a b region before.nodes (map (net_of h) (drop i nets)) ≡ target
      → after.arcs ++ all_short_arcs h p a b region after.nodes (map (net_of h) (drop (i + 1) nets)) ≡ target
  short-rest before after target nets i l nodes arcs t =
      let rest = map (net_of h) (drop (i + 1) nets) in
      let e = net_of h (slice_index nets i) in
      ap (λ n. after.arcs ++ all_short_arcs h p a b region n rest) nodes
      ∙ ap (λ xs. xs ++ all_short_arcs h p a b region (before.nodes + short_count p a b region e) rest) arcs
      ∙ append_assoc before.arcs (short_arcs h p a b region before.nodes e) (all_short_arcs h p a b region (before.nodes + short_count p a b region e) rest)
      ∙ ap (λ xs. before.arcs ++ all_short_arcs h p a b region before.nodes (map (net_of h) xs)) (sym (drop_more nets i 0 l)) ∙ t

  -- the nets that join without a pin in the region have no arcs
  abbrev pub inner : Net → Bool
  inner e = list_any (is_member nat_eq region) e.pins

  short_inside : (at : ℕ) (nets : List Net)
      → all_short_arcs h p a b region at (filter (joins p a b region) nets) ≡ all_short_arcs h p a b region at (filter inner nets)
  short_inside at [] = refl
  short_inside at (e ∷ nets) = by (inner e) (joins p a b region e) refl refl (λ n. short_inside n nets)
    where
      rest : List Net → ℕ → List Arc
      rest xs n = all_short_arcs h p a b region n xs

      Same : Type 0
      Same = (n : ℕ) → rest (filter (joins p a b region) nets) n ≡ rest (filter inner nets) n

      cut : (A B : Bool) → (A && B) ≡ true → Same
          → end_arcs A B (unbounded h) (net_price h p a b e) at (inner_nodes region e.pins) ++ rest (filter (joins p a b region) nets)
          (at + end_count A B (inner_nodes region e.pins))
          ≡ rest (filter inner nets) at
      cut true true z r = ap (rest (filter (joins p a b region) nets)) (let z : at + 0 ≡ at = omega arith in z) ∙ r at
      cut true false z r = absurd (different (sym z))
      cut false B z r = absurd (different (sym z))

      by : (s t : Bool) → inner e ≡ s → joins p a b region e ≡ t → Same
          → rest (if t then e ∷ filter (joins p a b region) nets else filter (joins p a b region) nets) at
          ≡ rest (if s then e ∷ filter inner nets else filter inner nets) at
      by true true f g r = ap (λ xs. short_arcs h p a b region at e ++ xs) (r (at + short_count p a b region e))
      by true false f g r = absurd (different (sym (joins_inside p a b region e f) ∙ g))
      by false false f g r = r at
      by false true f g r =
          cut (has_pin_outside p region e a) (has_pin_outside p region e b)
          (sym (ap (λ m. m || (has_pin_outside p region e a && has_pin_outside p region e b)) f) ∙ g) r

  count_inside : (nets : List Net) → total (short_count p a b region) (filter (joins p a b region) nets) ≡ total (short_count p a b region) (filter inner nets)
  count_inside [] = refl
  count_inside (e ∷ nets) = by (inner e) (joins p a b region e) refl refl (count_inside nets)
    where
      count : Net → ℕ
      count = short_count p a b region

      cut : (A B : Bool) (nodes : List ℕ) → (A && B) ≡ true → end_count A B nodes ≡ 0
      cut true true nodes z = refl
      cut true false nodes z = absurd (different (sym z))
      cut false B nodes z = absurd (different (sym z))

      by : (s t : Bool) → inner e ≡ s → joins p a b region e ≡ t → total count (filter (joins p a b region) nets) ≡ total count (filter inner nets)
          → total count (if t then e ∷ filter (joins p a b region) nets else filter (joins p a b region) nets) ≡ total count
          (if s then e ∷ filter inner nets else filter inner nets)
      by true true f g r = ap (λ n. count e + n) r
      by true false f g r = absurd (different (sym (joins_inside p a b region e f) ∙ g))
      by false false f g r = r
      by false true f g r =
          let none = cut (has_pin_outside p region e a) (has_pin_outside p region e b) (inner_nodes region e.pins)
          (sym (ap (λ m. m || (has_pin_outside p region e a && has_pin_outside p region e b)) f) ∙ g) in
          omega arith

  -- and what they pay is fixed
  abbrev pub other : Net → Bool
  other e = (has_pin p e a && has_pin p e b) && not (inner e)

  pub fixed_split : (nets : List Net) → total (fixed_price h p a b region) (filter (joins p a b region) nets)
      ≡ total (fixed_price h p a b region) (filter inner nets) + total (net_price h p a b) (filter other nets)
  fixed_split [] = refl
  fixed_split (e ∷ nets) = by (inner e) (joins p a b region e) (has_pin p e a && has_pin p e b) refl refl refl (fixed_split nets)
    where
      fixed : Net → ℕ
      fixed = fixed_price h p a b region

      price : Net → ℕ
      price = net_price h p a b

      paid : (A : Bool) → (has_pin_outside p region e a && has_pin_outside p region e b) ≡ A → A ≡ true → (if A then price e else 0) ≡ price e
      paid true x z = refl
      paid false x z = absurd (different (sym z))

      by : (s t u : Bool) → inner e ≡ s → joins p a b region e ≡ t → (has_pin p e a && has_pin p e b) ≡ u
          → total fixed (filter (joins p a b region) nets) ≡ total fixed (filter inner nets) + total price (filter other nets)
          → total fixed (if t then e ∷ filter (joins p a b region) nets else filter (joins p a b region) nets)
          ≡ total fixed (if s then e ∷ filter inner nets else filter inner nets) + total price (if u && not s then e ∷ filter other nets else filter other nets)
      by true true true f g u r = omega arith
      by true true false f g u r = omega arith
      by true false u f g x r = absurd (different (sym (joins_inside p a b region e f) ∙ g))
      by false true true f g x r =
          let same : fixed e ≡ price e = paid (has_pin_outside p region e a && has_pin_outside p region e b) refl
          (sym (ap (λ m. m || (has_pin_outside p region e a && has_pin_outside p region e b)) f) ∙ g) in
          omega arith
      by false true false f g x r = absurd (different (sym g ∙ (joins_outside p a b region e f ∙ x)))
      by false false true f g x r = absurd (different (sym x ∙ (sym (joins_outside p a b region e f) ∙ g)))
      by false false false f g x r = r

  -- all of them
  pub short-made : (network : FlowNetwork) (nets : List ℕ) (i : ℕ) → length nets ≤ i
      → map (net_of h) nets ≡ inside_nets h region
      → network.nodes + total (short_count p a b region) (map (net_of h) (drop i nets)) ≡ 2 + length region + total (short_count p a b region)
      (map (net_of h) nets)
      → network.arcs ++ all_short_arcs h p a b region network.nodes (map (net_of h) (drop i nets)) ≡ all_short_arcs h p a b region (2 + length region)
      (map (net_of h) nets)
      → IsIdle network → network ≡ short_network h p a b region
  short-made network nets i least is nodes arcs idle =
      let build : ℕ → List Arc → FlowNetwork = λ n xs. record { nodes = n; arcs = xs; flows = replicate (length xs) 0 } in
      let same : network ≡ build network.nodes network.arcs = ap (λ (xs : List ℕ). record network { flows = xs }) idle in
      same ∙ ap₂ build all_nodes all_arcs
    where
      all_nodes : network.nodes ≡ 2 + length region + total (short_count p a b region) (joined_nets h p a b region)
      all_nodes =
          sum-all (short_count p a b region) nets i network.nodes (2 + length region + total (short_count p a b region) (map (net_of h) nets)) least nodes
          ∙ ap (λ xs. 2 + length region + total (short_count p a b region) xs) is
          ∙ ap (λ n. 2 + length region + n) (sym (count_inside h.nets))

      all_arcs : network.arcs ≡ all_short_arcs h p a b region (2 + length region) (joined_nets h p a b region)
      all_arcs =
          sym (append-nil network.arcs)
          ∙ ap (λ xs. network.arcs ++ all_short_arcs h p a b region network.nodes (map (net_of h) xs)) (sym (drop_all i nets least))
          ∙ arcs ∙ ap (all_short_arcs h p a b region (2 + length region)) is ∙ sym (short_inside (2 + length region) h.nets)

  -- what is fixed is less than what no net can pay
  fixed-small : total (fixed_price h p a b region) (joined_nets h p a b region) < unbounded h
  fixed-small =
      let part = total-filter-le (fixed_price h p a b region) (joins p a b region) h.nets in
      let each = total-le (fixed_price h p a b region) (λ (e : Net). 2 * e.weight) h.nets (λ i d l. one (get_or h.nets i d)) in
      let twice = total-scale 2 (λ (e : Net). e.weight) h.nets in
      omega arith
    where
      one : (e : Net) → fixed_price h p a b region e ≤ 2 * e.weight
      one e = by (has_pin_outside p region e a && has_pin_outside p region e b) (price-le h.objective (leaves p a b e) e.weight)
        where
          by : (t : Bool) → pair_price h.objective (leaves p a b e) e.weight ≤ 2 * e.weight → (if t then net_price h p a b e else 0) ≤ 2 * e.weight
          by true l = l
          by false l = omega arith

  pub inside-small : total (fixed_price h p a b region) (inside_nets h region) + total (net_price h p a b) (filter other h.nets) < unbounded h
  inside-small = let all = fixed_split h.nets in let small = fixed-small in omega arith

  pub others_pay : (nets : List ℕ) → nets ≡ other_numbers h p a b region
      → total (λ e. net_price h p a b (net_of h e)) nets ≡ total (net_price h p a b) (filter other h.nets)
  others_pay nets is =
      sym (total-map (net_price h p a b) (net_of h) nets) ∙ ap (λ es. total (net_price h p a b) (map (net_of h) es)) is
      ∙ ap (total (net_price h p a b)) (other_listed h region p a b)
