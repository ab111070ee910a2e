-- The cuts of a pair's network and the assignments of its region.
use Rattle.std.proofs.Common.{◌≡◌, ◌≢◌, ◌⊎◌, inl, inr, ℕ, zero, suc, ◌+◌, ◌<◌, ◌≤◌, Bool, true, false, ◌&&◌, ◌||◌, not, nat_eq, if◌then◌else◌}
use Rattle.std.proofs.Common.{List, [], ◌∷◌, ◌++◌, length, map, All, get_or, refl, sym, ap, ◌∙◌, arith, slice_index, append_assoc}
use Rattle.std.specs.List.{list_any, position_or_len}
use Rattle.std.proofs.lemmas.Bool.{cases_lt, eqb-true, ne_eqb, lt-ltb, le-ltb}
use Rattle.std.proofs.lemmas.List.{get_or_at, get_or_append_left, length-append, length-map}
use Rattle.std.proofs.lemmas.List.Elements.{All-nil, All-cons, All-head, All-tail, All-weaker}
use Rattle.flow_net.specs.declared.network.Arc.{Arc}
use Rattle.flow_net.specs.Flow.{is_in, cut_capacity}
use Rattle.hg_defs.specs.Sums.{total}
use Rattle.hg_defs.specs.Hypergraph.{Net, Hyper}
use Rattle.hg_defs.specs.Partition.{block_of}
use Rattle.hg_defs.proofs.SumLaws.{total-append}
use Rattle.round_log.specs.Rounds.{has_pin, pair_cost, IsAssignment}
use Rattle.flow_pair.specs.PairNetwork.{source_node, sink_node, node_of, unbounded, net_price, pin_arcs}
use Rattle.flow_pair.specs.PairNetwork.{net_arcs, nets_arcs, joined_nets, pair_network, AreOfPair}
use Rattle.flow_pair.specs.PairEnds.{reassigned}
use Rattle.flow_pair.specs.Laws.{AssignmentsAreCuts, CutsAreAssignments}
use Rattle.flow_pair.proofs.PairLaws.{IsRearranged, rearranged, in_pair}
use Rattle.flow_pair.proofs.ReassignLaws.{assigned_anew, anew_at, anew_places}
use Rattle.flow_pair.proofs.CheapestLaws.{crossing, cut-total, different, position-at, position-past, touched-all, HasPlaces, pair_cost-le}

-- each pin that passes a test makes it pass for the net
any_each : (test : ℕ → Bool) (pins : List ℕ) → All (λ v. test v ≡ true → list_any test pins ≡ true) pins
any_each test [] = All-nil (λ v. test v ≡ true → false ≡ true)
any_each test (v ∷ pins) =
    All-cons (λ u. test u ≡ true → (test v || list_any test pins) ≡ true) v pins (λ e. ap (λ t. t || list_any test pins) e)
    (All-weaker (λ u. test u ≡ true → list_any test pins ≡ true) (λ u. test u ≡ true → (test v || list_any test pins) ≡ true)
    (λ u f e. later (test v) (list_any test pins) (f e)) pins (any_each test pins))
  where
    later : (s t : Bool) → t ≡ true → (s || t) ≡ true
    later true t e = refl
    later false t e = e

not-not : (t : Bool) → not (not t) ≡ t
not-not true = refl
not-not false = refl

module _ (h : Hyper) (p : List ℕ) (a b : ℕ) (region : List ℕ) (q : List ℕ) (side : List Bool) (apart : a ≢ b) (r : IsRearranged p q a b)
    (nodes : (v : ℕ) → is_in side (node_of p a region v) ≡ nat_eq (block_of q v) a) where
  -- a vertex of the pair that is not in the first block is in the second one
  in_second : (v : ℕ) → in_pair p a b v ≡ true → nat_eq (block_of q v) a ≡ false → nat_eq (block_of q v) b ≡ true
  in_second v e f = ap (λ t. t || nat_eq (block_of q v) b) (sym f) ∙ r.pair v ∙ e

  -- ---- a side that fits the nets of an assignment

  pins-none : (at : ℕ) (A B : Bool) (pins : List ℕ) → is_in side at ≡ A → is_in side (at + 1) ≡ not B
      → All (λ v. nat_eq (block_of q v) a ≡ true → A ≡ true) pins → All (λ v. nat_eq (block_of q v) b ≡ true → B ≡ true) pins
      → total (crossing side) (pin_arcs h p a b region at pins) ≡ 0
  pins-none at A B [] e f first second = refl
  pins-none at A B (v ∷ pins) e f first second =
      by (in_pair p a b v) refl (pin_arcs h p a b region at pins)
      (pins-none at A B pins e f (All-tail (λ u. nat_eq (block_of q u) a ≡ true → A ≡ true) v pins first)
      (All-tail (λ u. nat_eq (block_of q u) b ≡ true → B ≡ true) v pins second))
    where
      node : ℕ
      node = node_of p a region v

      into : (X A : Bool) → (X ≡ true → A ≡ true) → (if X && not A then unbounded h else 0) ≡ 0
      into true true k = refl
      into true false k = absurd (different (sym (k refl)))
      into false A k = refl

      out : (X B : Bool) → (X ≡ false → B ≡ true) → (if not B && not X then unbounded h else 0) ≡ 0
      out true true k = refl
      out true false k = refl
      out false true k = refl
      out false false k = absurd (different (sym (k refl)))

      by : (t : Bool) → in_pair p a b v ≡ t → (later : List Arc) → total (crossing side) later ≡ 0
          → total (crossing side) (if t then (record { from = node_of p a region v; to = at; cap = unbounded h } ∷
          record { from = at + 1; to = node_of p a region v; cap = unbounded h } ∷ later) else later) ≡ 0
      by true t later z =
          let X = nat_eq (block_of q v) a in
          let x : (if is_in side (node_of p a region v) && not (is_in side at) then unbounded h else 0) ≡ 0 =
          ap (λ s. if s && not (is_in side at) then unbounded h else 0) (nodes v) ∙ ap (λ s. if X && not s then unbounded h else 0) e
          ∙ into X A (All-head (λ u. nat_eq (block_of q u) a ≡ true → A ≡ true) v pins first) in
          let y : (if is_in side (at + 1) && not (is_in side (node_of p a region v)) then unbounded h else 0) ≡ 0 =
          ap (λ s. if s && not (is_in side (node_of p a region v)) then unbounded h else 0) f ∙ ap (λ s. if not B && not s then unbounded h else 0)
          (nodes v)
          ∙ out X B (λ g. All-head (λ u. nat_eq (block_of q u) b ≡ true → B ≡ true) v pins second (in_second v t g)) in
          omega arith
      by false t later z = z

  -- the two nodes of each net stand where its pins want them
  abbrev pub FitsNets : ℕ → List Net → Type 0
  FitsNets at [] = Unit {0}
  FitsNets at (e ∷ nets) = (is_in side at ≡ has_pin q e a) × (is_in side (at + 1) ≡ not (has_pin q e b)) × FitsNets (at + 2) nets

  abbrev pub touched_price : Net → ℕ
  touched_price e = if has_pin q e a && has_pin q e b then net_price h p a b e else 0

  pub nets-cut : (at : ℕ) (nets : List Net) → FitsNets at nets → total (crossing side) (nets_arcs h p a b region at nets) ≡ total touched_price nets
  nets-cut at [] f = refl
  nets-cut at (e ∷ nets) f =
      let A = has_pin q e a in
      let B = has_pin q e b in
      let split = total-append (crossing side) (net_arcs h p a b region at e) (nets_arcs h p a b region (at + 2) nets) in
      let rest = nets-cut (at + 2) nets f.2 in
      let pins = pins-none at A B e.pins f.0 f.1 (any_each (λ v. nat_eq (block_of q v) a) e.pins) (any_each (λ v. nat_eq (block_of q v) b) e.pins) in
      let own : (if is_in side at && not (is_in side (at + 1)) then net_price h p a b e else 0) ≡ (if A && B then net_price h p a b e else 0) =
      ap (λ s. if s && not (is_in side (at + 1)) then net_price h p a b e else 0) f.0 ∙ ap (λ s. if A && not s then net_price h p a b e else 0) f.1
      ∙ ap (λ s. if A && s then net_price h p a b e else 0) (not-not B) in
      omega arith

  -- ---- any side

  pins-into : (at : ℕ) (pins : List ℕ) → list_any (λ v. nat_eq (block_of q v) a) pins ≡ true → is_in side at ≡ false → unbounded h ≤ total (crossing side)
      (pin_arcs h p a b region at pins)
  pins-into at [] e f = absurd (different (sym e))
  pins-into at (v ∷ pins) e f = by (in_pair p a b v) (nat_eq (block_of q v) a) refl refl e (λ g. pins-into at pins g f) (pin_arcs h p a b region at pins)
      (λ l. l)
    where
      by : (t X : Bool) → in_pair p a b v ≡ t → nat_eq (block_of q v) a ≡ X → (X || list_any (λ u. nat_eq (block_of q u) a) pins) ≡ true
          → (list_any (λ u. nat_eq (block_of q u) a) pins ≡ true → unbounded h ≤ total (crossing side) (pin_arcs h p a b region at pins))
          → (later : List Arc) → (unbounded h ≤ total (crossing side) (pin_arcs h p a b region at pins) → unbounded h ≤ total (crossing side) later)
          → unbounded h ≤ total (crossing side) (if t then (record { from = node_of p a region v; to = at; cap = unbounded h } ∷
          record { from = at + 1; to = node_of p a region v; cap = unbounded h } ∷ later) else later)
      by true true t x g rest later lift =
          let c : (if is_in side (node_of p a region v) && not (is_in side at) then unbounded h else 0) ≡ unbounded h =
          ap (λ s. if s && not (is_in side at) then unbounded h else 0) (nodes v ∙ x) ∙ ap (λ s. if not s then unbounded h else 0) f in
          omega arith
      by true false t x g rest later lift = let d = lift (rest g) in omega arith
      by false true t x g rest later lift = absurd (different (ap (λ s. s || nat_eq (block_of q v) b) (sym x) ∙ r.pair v ∙ t))
      by false false t x g rest later lift = lift (rest g)

  pins-out : (at : ℕ) (pins : List ℕ) → list_any (λ v. nat_eq (block_of q v) b) pins ≡ true → is_in side (at + 1) ≡ true →
      unbounded h ≤ total (crossing side)
      (pin_arcs h p a b region at pins)
  pins-out at [] e f = absurd (different (sym e))
  pins-out at (v ∷ pins) e f = by (in_pair p a b v) (nat_eq (block_of q v) b) refl refl e (λ g. pins-out at pins g f) (pin_arcs h p a b region at pins)
      (λ l. l)
    where
      not_first : nat_eq (block_of q v) b ≡ true → nat_eq (block_of q v) a ≡ false
      not_first x = ne_eqb (block_of q v) a (λ z. apart (sym z ∙ eqb-true (block_of q v) b x))

      right : (s t : Bool) → t ≡ true → (s || t) ≡ true
      right true t e = refl
      right false t e = e

      by : (t X : Bool) → in_pair p a b v ≡ t → nat_eq (block_of q v) b ≡ X → (X || list_any (λ u. nat_eq (block_of q u) b) pins) ≡ true
          → (list_any (λ u. nat_eq (block_of q u) b) pins ≡ true → unbounded h ≤ total (crossing side) (pin_arcs h p a b region at pins))
          → (later : List Arc) → (unbounded h ≤ total (crossing side) (pin_arcs h p a b region at pins) → unbounded h ≤ total (crossing side) later)
          → unbounded h ≤ total (crossing side) (if t then (record { from = node_of p a region v; to = at; cap = unbounded h } ∷
          record { from = at + 1; to = node_of p a region v; cap = unbounded h } ∷ later) else later)
      by true true t x g rest later lift =
          let c : (if is_in side (at + 1) && not (is_in side (node_of p a region v)) then unbounded h else 0) ≡ unbounded h =
          ap (λ s. if s && not (is_in side (node_of p a region v)) then unbounded h else 0) f ∙ ap (λ s. if not s then unbounded h else 0)
          (nodes v ∙ not_first x) in
          omega arith
      by true false t x g rest later lift = let d = lift (rest g) in omega arith
      by false true t x g rest later lift = absurd (different (sym (right (nat_eq (block_of q v) a) (nat_eq (block_of q v) b) x) ∙ r.pair v ∙ t))
      by false false t x g rest later lift = lift (rest g)

  net-within : (at : ℕ) (e : Net) → total (crossing side) (net_arcs h p a b region at e) < unbounded h → touched_price e ≤ total (crossing side)
      (net_arcs h p a b region at e)
  net-within at e small = by (has_pin q e a) (has_pin q e b) refl refl (is_in side at) (is_in side (at + 1)) refl refl
    where
      by : (A B : Bool) → has_pin q e a ≡ A → has_pin q e b ≡ B → (I O : Bool) → is_in side at ≡ I → is_in side (at + 1) ≡ O
          → (if A && B then net_price h p a b e else 0) ≤ (if I && not O then net_price h p a b e else 0) + total (crossing side)
          (pin_arcs h p a b region at e.pins)
      by true true x y true false i o = omega arith
      by true true x y true true i o = absurd (let c = pins-out at e.pins y o in omega arith)
      by true true x y false O i o = absurd (let c = pins-into at e.pins x i in omega arith)
      by true false x y I O i o = omega arith
      by false B x y I O i o = omega arith

  pub nets-within : (at : ℕ) (nets : List Net) → total (crossing side) (nets_arcs h p a b region at nets) < unbounded h → total touched_price nets ≤ total
      (crossing side) (nets_arcs h p a b region at nets)
  nets-within at [] small = omega arith
  nets-within at (e ∷ nets) small =
      let split = total-append (crossing side) (net_arcs h p a b region at e) (nets_arcs h p a b region (at + 2) nets) in
      let here = net-within at e (omega arith) in
      let rest = nets-within (at + 2) nets (omega arith) in
      omega arith

-- ---- the side of an assignment

abbrev net_flags : List ℕ → ℕ → ℕ → List Net → List Bool
net_flags q a b [] = []
net_flags q a b (e ∷ nets) = has_pin q e a ∷ not (has_pin q e b) ∷ net_flags q a b nets

abbrev pub region_flags : List ℕ → ℕ → List ℕ → List Bool
region_flags q a region = map (λ v. nat_eq (block_of q v) a) region

-- the source, the vertices in the first block, and each net's nodes where its pins want them
abbrev side_of : List ℕ → ℕ → ℕ → List ℕ → List Net → List Bool
side_of q a b region nets = true ∷ false ∷ (region_flags q a region ++ net_flags q a b nets)

-- a side that has the vertices of the region by their blocks has every node by its block
pub nodes-fit : (p q region : List ℕ) (a b : ℕ) (side : List Bool) → IsAssignment p a b region q → is_in side source_node ≡ true →
    is_in side sink_node ≡ false
    → ((i : ℕ) → i < length region → is_in side (2 + i) ≡ nat_eq (block_of q (slice_index region i)) a)
    → (v : ℕ) → is_in side (node_of p a region v) ≡ nat_eq (block_of q v) a
nodes-fit p q region a b side s source sink places v = by (cases_lt (position_or_len (nat_eq v) region) (length region))
  where
    outer : (t : Bool) → nat_eq (block_of p v) a ≡ t → is_in side (if t then source_node else sink_node) ≡ t
    outer true e = source
    outer false e = sink

    by : (position_or_len (nat_eq v) region < length region) ⊎ (length region ≤ position_or_len (nat_eq v) region) → is_in side (node_of p a region v) ≡
        nat_eq
        (block_of q v) a
    by (inl l) =
        ap (λ t. is_in side (if t then 2 + position_or_len (nat_eq v) region else (if nat_eq (block_of p v) a then source_node else sink_node)))
        (lt-ltb (position_or_len (nat_eq v) region) (length region) l)
        ∙ places (position_or_len (nat_eq v) region) l ∙ ap (λ u. nat_eq (block_of q u) a) (position-at region v l)
    by (inr l) =
        ap (λ t. is_in side (if t then 2 + position_or_len (nat_eq v) region else (if nat_eq (block_of p v) a then source_node else sink_node)))
        (le-ltb (position_or_len (nat_eq v) region) (length region) l)
        ∙ outer (nat_eq (block_of p v) a) refl ∙ ap (λ x. nat_eq x a) (sym (s.outside v (position-past region v l)))

flags-fit : (p q region : List ℕ) (a b : ℕ) (h : Hyper) (apart : a ≢ b) (r : IsRearranged p q a b) (side : List Bool)
    (nodes : (v : ℕ) → is_in side (node_of p a region v) ≡ nat_eq (block_of q v) a)
    → (before : List Bool) (nets : List Net) (at : ℕ) → at ≡ length before → side ≡ before ++ net_flags q a b nets → FitsNets h p a b region q side apart r
    nodes at nets
flags-fit p q region a b h apart r side nodes before [] at e is = tt
flags-fit p q region a b h apart r side nodes before (n ∷ nets) at e is =
    let A = has_pin q n a in
    let B = not (has_pin q n b) in
    let next : side ≡ (before ++ A ∷ B ∷ []) ++ net_flags q a b nets = is ∙ sym (append_assoc before (A ∷ B ∷ []) (net_flags q a b nets)) in
    let second : side ≡ (before ++ A ∷ []) ++ (B ∷ net_flags q a b nets) = is ∙ sym (append_assoc before (A ∷ []) (B ∷ net_flags q a b nets)) in
    let len_one : length (before ++ A ∷ []) ≡ at + 1 = (let x = length-append before (A ∷ []) in omega arith) in
    let len_two : at + 2 ≡ length (before ++ A ∷ B ∷ []) = (let x = length-append before (A ∷ B ∷ []) in omega arith) in (
      ap (λ s. is_in s at) is ∙ get_or_at before A (B ∷ net_flags q a b nets) false at (sym e),
      ap (λ s. is_in s (at + 1)) second ∙ get_or_at (before ++ A ∷ []) B (net_flags q a b nets) false (at + 1) len_one,
      flags-fit p q region a b h apart r side nodes (before ++ A ∷ B ∷ []) nets (at + 2) len_two next,
    )

pub get_or-map_at : (test : ℕ → Bool) (xs : List ℕ) (i : ℕ) → i < length xs → get_or (map test xs) i false ≡ test (slice_index xs i)
get_or-map_at test [] i l = absurd (omega arith)
get_or-map_at test (x ∷ xs) zero l = refl
get_or-map_at test (x ∷ xs) (suc i) l = get_or-map_at test xs i (omega arith)

module _ (h : Hyper) (p : List ℕ) (a b : ℕ) (region q : List ℕ) (apart : a ≢ b) (inside : AreOfPair p a b region) (s : IsAssignment p a b region q) where
  abbrev own_side : List Bool
  own_side = side_of q a b region (joined_nets h p a b region)

  own_arrangement : IsRearranged p q a b
  own_arrangement = rearranged p q region a b inside s

  own_place : (i : ℕ) → i < length region → is_in own_side (2 + i) ≡ nat_eq (block_of q (slice_index region i)) a
  own_place i l =
      ap (is_in own_side) (let z : 2 + i ≡ suc (suc i) = omega arith in z)
      ∙ get_or_append_left (region_flags q a region) (net_flags q a b (joined_nets h p a b region)) false i
      (let m = length-map region (λ v. nat_eq (block_of q v) a) in omega arith)
      ∙ get_or-map_at (λ v. nat_eq (block_of q v) a) region i l

  own_nodes : (v : ℕ) → is_in own_side (node_of p a region v) ≡ nat_eq (block_of q v) a
  own_nodes = nodes-fit p q region a b own_side s refl refl own_place

  own_fits : FitsNets h p a b region q own_side apart own_arrangement own_nodes (2 + length region) (joined_nets h p a b region)
  own_fits =
      flags-fit p q region a b h apart own_arrangement own_side own_nodes (true ∷ false ∷ region_flags q a region) (joined_nets h p a b region)
      (2 + length region)
      (let m = length-map region (λ v. nat_eq (block_of q v) a) in omega arith) refl

  own_cut : cut_capacity (nets_arcs h p a b region (2 + length region) (joined_nets h p a b region)) own_side ≡ pair_cost h q a b
  own_cut =
      cut-total (nets_arcs h p a b region (2 + length region) (joined_nets h p a b region)) own_side
      ∙ nets-cut h p a b region q own_side apart own_arrangement own_nodes (2 + length region) (joined_nets h p a b region) own_fits
      ∙ touched-all h p q region a b apart own_arrangement s

-- each assignment is a cut
pub assignments_are_cuts : AssignmentsAreCuts
assignments_are_cuts h p a b region q apart inside s = (own_side h p a b region q apart inside s, refl, refl, own_cut h p a b region q apart inside s)

-- ---- the assignment of a cut

-- the block of each vertex of a region by the sides of the nodes from a number on
abbrev side_blocks : List Bool → ℕ → ℕ → ℕ → List ℕ → List ℕ
side_blocks side a b n [] = []
side_blocks side a b n (v ∷ vs) = (if is_in side n then a else b) ∷ side_blocks side a b (suc n) vs

side_blocks-long : (side : List Bool) (a b n : ℕ) (vs : List ℕ) → length (side_blocks side a b n vs) ≡ length vs
side_blocks-long side a b n [] = refl
side_blocks-long side a b n (v ∷ vs) = ap suc (side_blocks-long side a b (suc n) vs)

side_blocks-at : (side : List Bool) (a b n : ℕ) (vs : List ℕ) (i : ℕ) → i < length vs
    → slice_index (side_blocks side a b n vs) i ≡ (if is_in side (n + i) then a else b)
side_blocks-at side a b n [] i l = absurd (omega arith)
side_blocks-at side a b n (v ∷ vs) zero l = ap (λ m. if is_in side m then a else b) (let z : n ≡ n + zero = omega arith in z)
side_blocks-at side a b n (v ∷ vs) (suc i) l =
    side_blocks-at side a b (suc n) vs i (omega arith) ∙ ap (λ m. if is_in side m then a else b) (let z : suc n + i ≡ n + suc i = omega arith in z)

pub cuts_are_assignments : CutsAreAssignments
cuts_are_assignments h p a b region side apart inside rises within source sink =
    let blocks = side_blocks side a b 2 region in
    let long = side_blocks-long side a b 2 region in
    let each : (i : ℕ) → i < length blocks → slice_index blocks i ≡ (if is_in side (2 + i) then a else b) =
    λ i l. side_blocks-at side a b 2 region i (omega arith) in
    let q = reassigned p region blocks in
    let s = assigned_anew p a b region blocks side apart rises within long each in (
      q,
      s,
      anew_at p a b region blocks side apart rises within long each,
      by q s (anew_places p a b region blocks side apart rises within long each)
          (cases_lt (cut_capacity (pair_network h p a b region).arcs side) (unbounded h)),
    )
  where
    by : (q : List ℕ) → IsAssignment p a b region q → HasPlaces a region q side
        → (cut_capacity (pair_network h p a b region).arcs side < unbounded h) ⊎ (unbounded h ≤ cut_capacity (pair_network h p a b region).arcs side)
        → pair_cost h q a b ≤ cut_capacity (pair_network h p a b region).arcs side
    by q s places (inr most) = let small = pair_cost-le h q a b in omega arith
    by q s places (inl small) =
        let r = rearranged p q region a b inside s in
        let fit = nodes-fit p q region a b side s source sink places in
        let all = cut-total (nets_arcs h p a b region (2 + length region) (joined_nets h p a b region)) side in
        let within = nets-within h p a b region q side apart r fit (2 + length region) (joined_nets h p a b region) (omega arith) in
        let paid = touched-all h p q region a b apart r s in
        omega arith
