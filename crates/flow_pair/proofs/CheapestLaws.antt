-- A network of a region whose cuts, with a constant, cost what assignments of the region pay: its minimum cut is a cheapest assignment.
use Rattle.std.proofs.Common.{◌≡◌, ◌≢◌, ℕ, suc, ◌+◌, ◌*◌, ◌<◌, ◌≤◌, Bool, true, false, ◌&&◌, ◌||◌, not, nat_eq, if◌then◌else◌}
use Rattle.std.proofs.Common.{List, [], ◌∷◌, length, All, get_or, refl, sym, ap, ◌∙◌, arith, slice_index}
use Rattle.std.specs.List.{list_any, position_or_len}
use Rattle.std.specs.Set.{is_member}
use Rattle.std.proofs.lemmas.Bool.{eqb-true, eqb-false}
use Rattle.std.proofs.lemmas.List.Elements.{All-nil, All-cons}
use Rattle.flow_net.specs.declared.network.Arc.{Arc}
use Rattle.flow_net.specs.Flow.{FlowNetwork, is_in, cut_capacity, IsNetwork, IsFlow, IsFilledCut}
use Rattle.flow_net.proofs.CutLaws.{flow_within_cut}
use Rattle.hg_defs.specs.declared.objective.Objective.{Objective}
use Rattle.hg_defs.specs.declared.objective.Objective.TheVariants.{Connectivity, CutNet, ExternalDegree}
use Rattle.hg_defs.specs.Sums.{total}
use Rattle.hg_defs.specs.Hypergraph.{Net, Hyper, IsHypergraph}
use Rattle.hg_defs.specs.Partition.{block_of, IsPartition}
use Rattle.hg_defs.specs.Cost.{cost}
use Rattle.hg_defs.proofs.SumLaws.{total-filter, total-same_each, total-le, total-by_index, total-scale}
use Rattle.round_log.specs.Rounds.{has_pin, leaves, pair_price, pair_cost, IsAssignment}
use Rattle.flow_pair.specs.PairNetwork.{source_node, sink_node, joins, unbounded, net_price, joined_nets, AreOfPair}
use Rattle.flow_pair.proofs.PairLaws.{IsRearranged, same_leaves, pair_total, assignments_cost}
use Rattle.flow_pair.proofs.RegionLaws.{joins_inside, joins_outside}

-- what an arc adds to a cut
abbrev pub crossing : List Bool → Arc → ℕ
crossing side arc = if is_in side arc.from && not (is_in side arc.to) then arc.cap else 0

pub cut-total : (arcs : List Arc) (side : List Bool) → cut_capacity arcs side ≡ total (crossing side) arcs
cut-total arcs side = sym (total-by_index (crossing side) (record { from = 0; to = 0; cap = 0 }) arcs)

pub different : true ≡ false → ⊥
different e = cc

-- ---- places in a region

pub position-at : (xs : List ℕ) (v : ℕ) → position_or_len (nat_eq v) xs < length xs → slice_index xs (position_or_len (nat_eq v) xs) ≡ v
position-at [] v l = absurd (omega arith)
position-at (x ∷ xs) v l = by (nat_eq v x) refl l (position-at xs v)
  where
    by : (t : Bool) → nat_eq v x ≡ t → (if not t then 1 + position_or_len (nat_eq v) xs else 0) < suc (length xs)
        → (position_or_len (nat_eq v) xs < length xs → slice_index xs (position_or_len (nat_eq v) xs) ≡ v)
        → slice_index (x ∷ xs) (if not t then 1 + position_or_len (nat_eq v) xs else 0) ≡ v
    by true e m r = sym (eqb-true v x e)
    by false e m r =
        ap (slice_index (x ∷ xs)) (let z : 1 + position_or_len (nat_eq v) xs ≡ suc (position_or_len (nat_eq v) xs) = omega arith in z) ∙ r (omega arith)

pub position-past : (xs : List ℕ) (v : ℕ) → length xs ≤ position_or_len (nat_eq v) xs → All (λ u. u ≢ v) xs
position-past [] v l = All-nil (λ u. u ≢ v)
position-past (x ∷ xs) v l = by (nat_eq v x) refl l (position-past xs v)
  where
    by : (t : Bool) → nat_eq v x ≡ t → suc (length xs) ≤ (if not t then 1 + position_or_len (nat_eq v) xs else 0)
        → (length xs ≤ position_or_len (nat_eq v) xs → All (λ u. u ≢ v) xs) → All (λ u. u ≢ v) (x ∷ xs)
    by true e m r = absurd (omega arith)
    by false e m r = All-cons (λ u. u ≢ v) x xs (λ z. eqb-false v x e (sym z)) (r (omega arith))

-- a side has the vertices of the region by their blocks in an assignment
abbrev pub HasPlaces : ℕ → List ℕ → List ℕ → List Bool → Type 0
HasPlaces a region q side = (i : ℕ) → i < length region → is_in side (2 + i) ≡ nat_eq (block_of q (slice_index region i)) a

-- ---- what the nets of a network pay

-- what the joined nets pay is what all nets pay
pub touched-all : (h : Hyper) (p q region : List ℕ) (a b : ℕ) (apart : a ≢ b) (r : IsRearranged p q a b) → IsAssignment p a b region q
    → total (λ e. if has_pin q e a && has_pin q e b then net_price h p a b e else 0) (joined_nets h p a b region) ≡ pair_cost h q a b
touched-all h p q region a b apart r s =
    total-filter (λ e. if has_pin q e a && has_pin q e b then net_price h p a b e else 0) (joins p a b region) h.nets
    ∙ total-same_each (λ e. if joins p a b region e then (if has_pin q e a && has_pin q e b then net_price h p a b e else 0) else 0)
    (λ e. if has_pin q e a &&
    has_pin q e b then pair_price h.objective (leaves q a b e) e.weight else 0) each h.nets
    ∙ sym (pair_total h q a b)
  where
    same_block : (c : ℕ) (pins : List ℕ) → list_any (is_member nat_eq region) pins ≡ false → list_any (λ v. nat_eq (block_of p v) c) pins ≡ list_any
        (λ v. nat_eq (block_of q v) c) pins
    same_block c [] e = refl
    same_block c (v ∷ pins) e = by (is_member nat_eq region v) refl e (same_block c pins)
      where
        absent : (xs : List ℕ) → is_member nat_eq xs v ≡ false → All (λ u. u ≢ v) xs
        absent [] f = All-nil (λ u. u ≢ v)
        absent (x ∷ xs) f = cases (nat_eq v x) refl f (absent xs)
          where
            cases : (t : Bool) → nat_eq v x ≡ t → (t || is_member nat_eq xs v) ≡ false → (is_member nat_eq xs v ≡ false → All (λ u. u ≢ v) xs) →
                All (λ u. u ≢ v) (x ∷ xs)
            cases true g f rest = absurd (different f)
            cases false g f rest = All-cons (λ u. u ≢ v) x xs (λ z. eqb-false v x g (sym z)) (rest f)

        by : (m : Bool) → is_member nat_eq region v ≡ m → (m || list_any (is_member nat_eq region) pins) ≡ false
            → (list_any (is_member nat_eq region) pins ≡ false → list_any (λ u. nat_eq (block_of p u) c) pins ≡ list_any (λ u. nat_eq (block_of q u) c)
            pins)
            → (nat_eq (block_of p v) c || list_any (λ u. nat_eq (block_of p u) c) pins) ≡ (nat_eq (block_of q v) c ||
            list_any (λ u. nat_eq (block_of q u) c)
            pins)
        by true f g rest = absurd (different g)
        by false f g rest = ap (λ x. nat_eq x c || list_any (λ u. nat_eq (block_of p u) c) pins) (sym (s.outside v (absent region f))) ∙
            ap (λ t. nat_eq (block_of q v) c || t) (rest g)

    each : (e : Net) → (if joins p a b region e then (if has_pin q e a && has_pin q e b then net_price h p a b e else 0) else 0)
        ≡ (if has_pin q e a && has_pin q e b then pair_price h.objective (leaves q a b e) e.weight else 0)
    each e = by (has_pin q e a && has_pin q e b) refl (list_any (is_member nat_eq region) e.pins) refl
      where
        price : net_price h p a b e ≡ pair_price h.objective (leaves q a b e) e.weight
        price = ap (λ t. pair_price h.objective t e.weight) (sym (same_leaves p q a b e r))

        nothing : (t : Bool) (z : ℕ) → (if t then z else z) ≡ z
        nothing true z = refl
        nothing false z = refl

        by : (t : Bool) → (has_pin q e a && has_pin q e b) ≡ t → (m : Bool) → list_any (is_member nat_eq region) e.pins ≡ m
            → (if joins p a b region e then (if t then net_price h p a b e else 0) else 0) ≡ (if t then pair_price h.objective (leaves q a b e)
            e.weight else 0)
        by false f m g = nothing (joins p a b region e) 0
        by true f true g = ap (λ t. if t then net_price h p a b e else 0) (joins_inside p a b region e g) ∙ price
        by true f false g =
            ap (λ t. if t then net_price h p a b e else 0)
            (joins_outside p a b region e g ∙ ap (λ t. t && list_any (λ v. nat_eq (block_of p v) b) e.pins) (same_block a e.pins g) ∙
            ap (λ t. has_pin q e a && t) (same_block b e.pins g) ∙ f)
            ∙ price

-- ---- the least of all

-- each assignment is a cut of the arcs, of a capacity that a constant takes to what its nets pay, and no smaller cut is one of the assignment
pub record CutsPay (h : Hyper) (p : List ℕ) (a b : ℕ) (region : List ℕ) (arcs : List Arc) (c : ℕ) : Type 0 where
  pub exact : (q : List ℕ) → IsAssignment p a b region q
      → (side : List Bool) × (is_in side source_node ≡ true) × (is_in side sink_node ≡ false) × (cut_capacity arcs side + c ≡ pair_cost h q a b)
  pub within : (q : List ℕ) (side : List Bool) → IsAssignment p a b region q → is_in side source_node ≡ true → is_in side sink_node ≡ false
      → HasPlaces a region q side → cut_capacity arcs side < unbounded h → pair_cost h q a b ≤ cut_capacity arcs side + c

pub price-le : (o : Objective) (L : Bool) (w : ℕ) → pair_price o L w ≤ 2 * w
price-le Connectivity L w = omega arith
price-le CutNet true w = omega arith
price-le CutNet false w = omega arith
price-le ExternalDegree true w = omega arith
price-le ExternalDegree false w = omega arith

pub pair_cost-le : (h : Hyper) (q : List ℕ) (a b : ℕ) → pair_cost h q a b < unbounded h
pair_cost-le h q a b =
    let each = total-le (λ (e : Net). if has_pin q e a && has_pin q e b then pair_price h.objective (leaves q a b e) e.weight else 0)
    (λ (e : Net). 2 * e.weight) h.nets
    (λ i d l. by (has_pin q (get_or h.nets i d) a && has_pin q (get_or h.nets i d) b) (pair_price h.objective (leaves q a b (get_or h.nets i d))
    (get_or h.nets i d).weight) (get_or h.nets i d).weight (price-le h.objective (leaves q a b (get_or h.nets i d)) (get_or h.nets i d).weight)) in
    let all = pair_total h q a b in
    let twice = total-scale 2 (λ (e : Net). e.weight) h.nets in
    omega arith
  where
    by : (t : Bool) (x w : ℕ) → x ≤ 2 * w → (if t then x else 0) ≤ 2 * w
    by true x w l = l
    by false x w l = omega arith

module _ (h : Hyper) (k : ℕ) (p : List ℕ) (a b : ℕ) (region q : List ℕ) (network : FlowNetwork) (value : ℕ) (side : List Bool) (c : ℕ)
    (sound : IsHypergraph h) (parted : IsPartition h k p) (first : a < k) (second : b < k) (apart : a ≢ b) (inside : AreOfPair p a b region)
    (nodes : source_node < network.nodes) (pays : CutsPay h p a b region network.arcs c)
    (joined : IsNetwork network) (flow : IsFlow network source_node sink_node) (cut : IsFilledCut network source_node sink_node value side)
    (s : IsAssignment p a b region q) (places : HasPlaces a region q side) where
  value-le : (other : List ℕ) → IsAssignment p a b region other → value + c ≤ pair_cost h other a b
  value-le other t =
      let w = pays.exact other t in
      let within = flow_within_cut network source_node sink_node w.0 joined nodes flow w.1 w.2 in
      let capacity = w.3 in
      let filled = cut.flow in
      omega arith

  kept : IsAssignment p a b region p
  kept = record { vertices = refl; inside = inside; outside = λ v n. refl }

  value-small : value + c < unbounded h
  value-small = let x = value-le p kept in let y = pair_cost-le h p a b in omega arith

  cost-le : pair_cost h q a b ≤ value + c
  cost-le =
      let small = value-small in
      let filled = cut.capacity in
      let within = pays.within q side s cut.holds_source cut.lacks_sink places (omega arith) in
      omega arith

  pub value-is : value + c ≡ pair_cost h q a b
  value-is = let x = value-le q s in let y = cost-le in omega arith

  pub value-bound : value + c < unbounded h
  value-bound = value-small

  pub cheapest : (other : List ℕ) → IsAssignment p a b region other → cost h q ≤ cost h other
  cheapest other t =
      let x = assignments_cost h k p a b region q other sound parted first second apart inside s t in
      let y = value-le other t in
      let z = value-is in
      omega arith
