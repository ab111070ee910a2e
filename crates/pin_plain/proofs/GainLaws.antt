-- A gain by the pin counts: what the nets of the vertex save, less what they lose.
use Rattle.std.proofs.Common.{◌≡◌, ◌≢◌, ℕ, zero, suc, ◌+◌, ◌*◌, ◌<◌, ◌≤◌, Bool, true, false, not, ◌&&◌, if◌then◌else◌, nat_eq, nat_lt, List, [], ◌∷◌}
use Rattle.std.proofs.Common.{length, map, All, Contains, get_or, slice_set, pos, ◌-ℤ◌, refl, sym, ap, ◌∙◌, subst, arith}
use Rattle.std.proofs.lemmas.Bool.{eqb-true, eqb-false, ne_eqb, eq-eqb, ltb-true, ltb-false}
use Rattle.std.proofs.lemmas.List.{length-set}
use Rattle.std.proofs.lemmas.List.Elements.{All-set, filter_passes}
use Rattle.std.proofs.lemmas.Bool.Decides.{Decides-eqb}
use Rattle.std.proofs.lemmas.Map.Made.{is_member-Decides}
use Rattle.std.proofs.lemmas.Int.{ints}
use Rattle.std.specs.List.{range_with_len}
use Rattle.hg_defs.specs.declared.objective.Objective.{Objective}
use Rattle.hg_defs.specs.declared.objective.Objective.TheVariants.{Connectivity, CutNet, ExternalDegree}
use Rattle.hg_defs.specs.Sums.{total, sum_below}
use Rattle.hg_defs.specs.Hypergraph.{Hyper, IsNet, IsHypergraph, vertex_count, net_count, net_of}
use Rattle.hg_defs.specs.Partition.{IsPartition, block_of}
use Rattle.hg_defs.specs.Cost.{connectivity, price}
use Rattle.hg_defs.specs.Pins.{pins_in, present}
use Rattle.hg_defs.specs.Moves.{moved, gain}
use Rattle.hg_defs.specs.MoveLaws.{connectivity_after, net_gain}
use Rattle.hg_defs.proofs.SumLaws.{sum_below-only, sum_below-change, sum_below-zero_each, sum_below_at-le, total_z-difference, total_z-same}
use Rattle.hg_defs.proofs.DistinctLaws.{present-zero, present-positive, pins_in-sum, connectivity-sum, pins_in-set_new, connectivity-set}
use Rattle.hg_defs.proofs.DistinctLaws.{blocks_of_pins, pins_in-times, times_of-positive, Contains-map, connectivity-positive}
use Rattle.hg_defs.proofs.SortLaws.{Contains-nil}
use Rattle.hg_defs.proofs.MoveLaws.{gain_is_local}
use Rattle.hg_defs.specs.Incidence.{is_on, nets_of}
use Rattle.incidence.proofs.IndexLaws.{nets_of-below}
use Rattle.pin_plain.specs.Savings.{saved, lost, net_saved, net_lost}

-- ---- the price of a net, by the number of blocks

price_connectivity : (d : ℕ) → 0 < d → price Connectivity d + 1 ≡ d
price_connectivity zero h = absurd (omega arith)
price_connectivity (suc zero) h = refl
price_connectivity (suc (suc d)) h = omega arith

price_cut : (d : ℕ) → 0 < d → price CutNet d ≡ (if nat_eq d 1 then 0 else 1)
price_cut zero h = absurd (omega arith)
price_cut (suc zero) h = refl
price_cut (suc (suc d)) h = ap (λ t. if t then 0 else 1) (sym (ne_eqb (suc (suc d)) 1 (λ e. absurd (omega arith))))

price_degree : (d : ℕ) → price ExternalDegree d ≡ price Connectivity d + price CutNet d
price_degree zero = refl
price_degree (suc zero) = refl
price_degree (suc (suc d)) = omega arith

-- ---- one pin moved, on a net of weight 1 with d blocks before and d' after, a pins in the old block and b in the new one

record Moves (d d' a b size : ℕ) : Type 0 where
  before : 0 < d
  after : 0 < d'
  old : 0 < a
  all : a + b ≤ size
  change : d' + (if nat_eq a 1 then 1 else 0) ≡ d + (if nat_eq b 0 then 1 else 0)
  whole_before : nat_eq d 1 ≡ nat_eq a size
  whole_after : nat_eq d' 1 ≡ nat_eq (b + 1) size

connectivity_change : (d d' a b size : ℕ) → Moves d d' a b size → price Connectivity d' + saved Connectivity b size ≡ price Connectivity d + lost
    Connectivity
    a size
connectivity_change d d' a b size m =
    let x = price_connectivity d m.before in
    let y = price_connectivity d' m.after in
    by (nat_eq a 1) (nat_eq b 0) (nat_lt 0 b) refl refl refl m.change x y
  where
    by : (s t u : Bool) → nat_eq a 1 ≡ s → nat_eq b 0 ≡ t → nat_lt 0 b ≡ u → d' + (if s then 1 else 0) ≡ d + (if t then 1 else 0) →
        price Connectivity d + 1 ≡ d → price Connectivity d' + 1 ≡ d' → price Connectivity d' + (if u then 1 else 0) ≡ price Connectivity d +
        (if s then 0 else 1)
    by s true true e f g c x y = let r = eqb-true b 0 f in let q = ltb-true 0 b g in absurd (omega arith)
    by s false false e f g c x y = let r = eqb-false b 0 f in let q = ltb-false 0 b g in absurd (r (omega arith))
    by true true false e f g c x y = omega arith
    by true false true e f g c x y = omega arith
    by false true false e f g c x y = omega arith
    by false false true e f g c x y = omega arith

cut_change : (d d' a b size : ℕ) → Moves d d' a b size → price CutNet d' + saved CutNet b size ≡ price CutNet d + lost CutNet a size
cut_change d d' a b size m =
    let x = price_cut d m.before ∙ ap (λ t. if t then 0 else 1) m.whole_before in
    let y = price_cut d' m.after ∙ ap (λ t. if t then 0 else 1) m.whole_after in
    by (nat_eq a size) (nat_eq (b + 1) size) (nat_eq size 1) (nat_lt 0 b) refl refl refl refl x y
  where
    by : (s t u w : Bool) → nat_eq a size ≡ s → nat_eq (b + 1) size ≡ t → nat_eq size 1 ≡ u → nat_lt 0 b ≡ w
        → price CutNet d ≡ (if s then 0 else 1) → price CutNet d' ≡ (if t then 0 else 1)
        → price CutNet d' + (if w && t then 1 else 0) ≡ price CutNet d + (if s && not u then 1 else 0)
    by true true true true e f g i x y = let p = eqb-true a size e in let q = eqb-true (b + 1) size f in let r = eqb-true size 1 g in
        let z = ltb-true 0 b i in
        let all = m.all in let old = m.old in omega arith
    by true true true false e f g i x y = let p = eqb-true a size e in let q = eqb-true (b + 1) size f in let r = eqb-true size 1 g in
        let z = ltb-false 0 b i in let all = m.all in let old = m.old in omega arith
    by true true false true e f g i x y = let p = eqb-true a size e in let q = eqb-true (b + 1) size f in let r = eqb-false size 1 g in
        let z = ltb-true 0 b i in let all = m.all in let old = m.old in omega arith
    by true true false false e f g i x y = let p = eqb-true a size e in let q = eqb-true (b + 1) size f in let r = eqb-false size 1 g in
        let z = ltb-false 0 b i in let all = m.all in let old = m.old in omega arith
    by true false true true e f g i x y = let p = eqb-true a size e in let q = eqb-false (b + 1) size f in let r = eqb-true size 1 g in
        let z = ltb-true 0 b i in let all = m.all in let old = m.old in omega arith
    by true false true false e f g i x y = let p = eqb-true a size e in let q = eqb-false (b + 1) size f in let r = eqb-true size 1 g in
        let z = ltb-false 0 b i in let all = m.all in let old = m.old in omega arith
    by true false false true e f g i x y = let p = eqb-true a size e in let q = eqb-false (b + 1) size f in let r = eqb-false size 1 g in
        let z = ltb-true 0 b i in let all = m.all in let old = m.old in omega arith
    by true false false false e f g i x y = let p = eqb-true a size e in let q = eqb-false (b + 1) size f in let r = eqb-false size 1 g in
        let z = ltb-false 0 b i in let all = m.all in let old = m.old in omega arith
    by false true true true e f g i x y = let p = eqb-false a size e in let q = eqb-true (b + 1) size f in let r = eqb-true size 1 g in
        let z = ltb-true 0 b i in let all = m.all in let old = m.old in omega arith
    by false true true false e f g i x y = let p = eqb-false a size e in let q = eqb-true (b + 1) size f in let r = eqb-true size 1 g in
        let z = ltb-false 0 b i in let all = m.all in let old = m.old in omega arith
    by false true false true e f g i x y = let p = eqb-false a size e in let q = eqb-true (b + 1) size f in let r = eqb-false size 1 g in
        let z = ltb-true 0 b i in let all = m.all in let old = m.old in omega arith
    by false true false false e f g i x y = let p = eqb-false a size e in let q = eqb-true (b + 1) size f in let r = eqb-false size 1 g in
        let z = ltb-false 0 b i in let all = m.all in let old = m.old in omega arith
    by false false true true e f g i x y = let p = eqb-false a size e in let q = eqb-false (b + 1) size f in let r = eqb-true size 1 g in
        let z = ltb-true 0 b i in let all = m.all in let old = m.old in omega arith
    by false false true false e f g i x y = let p = eqb-false a size e in let q = eqb-false (b + 1) size f in let r = eqb-true size 1 g in
        let z = ltb-false 0 b i in let all = m.all in let old = m.old in omega arith
    by false false false true e f g i x y = let p = eqb-false a size e in let q = eqb-false (b + 1) size f in let r = eqb-false size 1 g in
        let z = ltb-true 0 b i in let all = m.all in let old = m.old in omega arith
    by false false false false e f g i x y = let p = eqb-false a size e in let q = eqb-false (b + 1) size f in let r = eqb-false size 1 g in
        let z = ltb-false 0 b i in let all = m.all in let old = m.old in omega arith

one_change : (o : Objective) (d d' a b size : ℕ) → Moves d d' a b size → price o d' + saved o b size ≡ price o d + lost o a size
one_change Connectivity d d' a b size m = connectivity_change d d' a b size m
one_change CutNet d d' a b size m = cut_change d d' a b size m
one_change ExternalDegree d d' a b size m =
    let x = connectivity_change d d' a b size m in
    let y = cut_change d d' a b size m in
    let z = price_degree d in
    let w = price_degree d' in
    omega arith

-- ---- one block alone

-- f without its value at a
abbrev apart_from : (ℕ → ℕ) → ℕ → ℕ → ℕ
apart_from f a i = if nat_eq i a then 0 else f i

apart_at : (f : ℕ → ℕ) (a : ℕ) → apart_from f a a ≡ 0
apart_at f a = ap (λ t. if t then 0 else f a) (eq-eqb a a refl)

apart_other : (f : ℕ → ℕ) (a i : ℕ) → i ≢ a → apart_from f a i ≡ f i
apart_other f a i r = ap (λ t. if t then 0 else f i) (ne_eqb i a r)

sum_apart : (f : ℕ → ℕ) (k a : ℕ) → a < k → sum_below f k ≡ sum_below (apart_from f a) k + f a
sum_apart f k a l =
    let change = sum_below-change f (apart_from f a) k a l (λ i n r. sym (apart_other f a i r)) in
    let at = apart_at f a in
    omega arith

others_zero : (f : ℕ → ℕ) (k a : ℕ) → a < k → sum_below f k ≡ f a → (j : ℕ) → j < k → j ≢ a → f j ≡ 0
others_zero f k a l e j m q =
    let parts = sum_apart f k a l in
    sym (apart_other f a j q) ∙ sum_below-zero_each (apart_from f a) k (omega arith) j m

pub two_within : (f : ℕ → ℕ) (k a b : ℕ) → a < k → b < k → b ≢ a → f a + f b ≤ sum_below f k
two_within f k a b l m q =
    let parts = sum_apart f k a l in
    let one = sum_below_at-le (apart_from f a) k b m in
    let same = apart_other f a b q in
    omega arith

positive_or_zero : (n : ℕ) → present n ≡ 0 → n ≡ 0
positive_or_zero zero e = refl
positive_or_zero (suc n) e = let p = present-positive (suc n) (omega arith) in absurd (omega arith)

-- the numbers below k at which f is positive are one exactly where it holds the whole sum
pub alone : (f : ℕ → ℕ) (k a : ℕ) → a < k → 0 < f a → nat_eq (sum_below (λ b. present (f b)) k) 1 ≡ nat_eq (f a) (sum_below f k)
alone f k a l h = by (nat_eq (f a) (sum_below f k)) refl
  where
    one : present (f a) ≡ 1
    one = present-positive (f a) h

    by : (t : Bool) → nat_eq (f a) (sum_below f k) ≡ t → nat_eq (sum_below (λ b. present (f b)) k) 1 ≡ t
    by true e =
        let others = others_zero f k a l (sym (eqb-true (f a) (sum_below f k) e)) in
        eq-eqb (sum_below (λ b. present (f b)) k) 1 (sum_below-only (λ b. present (f b)) k a l (λ j m q. present-zero (f j) (others j m q)) ∙ one)
    by false e =
        ne_eqb (sum_below (λ b. present (f b)) k) 1
        (λ r.
        let others = others_zero (λ b. present (f b)) k a l (r ∙ sym one) in
        let whole = sum_below-only f k a l (λ j m q. positive_or_zero (f j) (others j m q)) in
        eqb-false (f a) (sum_below f k) e (sym whole))

pub some_blocks : (p pins : List ℕ) (v : ℕ) → Contains pins v → 0 < connectivity p pins
some_blocks p [] v c = absurd (Contains-nil v c)
some_blocks p (u ∷ pins) v c = connectivity-positive p u pins

scaled : (w before after saving losing : ℕ) → after + saving ≡ before + losing → pos (w * before) -ℤ pos (w * after) ≡ pos (w * saving) -ℤ pos (w * losing)
scaled w before after saving losing e =
    let f = ap (λ x. w * x) e in
    let g : w * after + w * saving ≡ w * before + w * losing = omega (arith, f) in
    omega (arith, ints)

-- the nets of a vertex hold it
pub nets_of-hold : (h : Hyper) (v : ℕ) → All (λ e. Contains (net_of h e).pins v) (nets_of h v)
nets_of-hold h v i d l =
    (is_member-Decides Decides-eqb (net_of h (get_or (nets_of h v) i d)).pins v).0 (filter_passes (is_on h v) (range_with_len 0 (net_count h)) i d l)

-- ---- a net that holds the moved vertex

module _ (h : Hyper) (k : ℕ) (p : List ℕ) (v b e : ℕ) (good : IsHypergraph h) (whole : IsPartition h k p) (vertex : v < vertex_count h) (block : b < k)
    (other : b ≢ block_of p v) (net : e < net_count h) (pin : Contains (net_of h e).pins v) where
  pins : List ℕ
  pins = (net_of h e).pins

  is_net : IsNet (vertex_count h) (net_of h e)
  is_net = good.nets e (record { weight = 0; pins = [] }) net

  inside : v < length p
  inside = let x = whole.vertices in omega arith

  old_block : block_of p v < k
  old_block = whole.blocks v 0 inside

  below : All (λ u. u < length p) (net_of h e).pins
  below = subst (λ n. All (λ u. u < n) (net_of h e).pins) (sym whole.vertices) is_net.pins

  moved_blocks : All (λ c. c < k) (slice_set p v b)
  moved_blocks = All-set (λ c. c < k) p v b block whole.blocks

  moved_below : All (λ u. u < length (slice_set p v b)) (net_of h e).pins
  moved_below = subst (λ n. All (λ u. u < n) (net_of h e).pins) (sym (length-set p v b)) below

  moves : Moves (connectivity p (net_of h e).pins) (connectivity (moved p v b) (net_of h e).pins) (pins_in p (net_of h e).pins (block_of p v))
      (pins_in p (net_of h e).pins b) (length (net_of h e).pins)
  moves = record {
    before = some_blocks p (net_of h e).pins v pin;
    after = some_blocks (moved p v b) (net_of h e).pins v pin;
    old = old_positive;
    all =
        let sum = pins_in-sum k p (net_of h e).pins (blocks_of_pins k p (net_of h e).pins whole.blocks below) in
        let two = two_within (pins_in p (net_of h e).pins) k (block_of p v) b old_block block other in
        omega arith;
    change = connectivity-set p (net_of h e).pins v b inside is_net.rising pin other;
    whole_before =
        let low = blocks_of_pins k p (net_of h e).pins whole.blocks below in
        ap (λ n. nat_eq n 1) (connectivity-sum k p (net_of h e).pins low)
        ∙ alone (pins_in p (net_of h e).pins) k (block_of p v) old_block old_positive
        ∙ ap (nat_eq (pins_in p (net_of h e).pins (block_of p v))) (pins_in-sum k p (net_of h e).pins low);
    whole_after =
        let low = blocks_of_pins k (moved p v b) (net_of h e).pins moved_blocks moved_below in
        let new = pins_in-set_new p (net_of h e).pins v b inside is_net.rising pin other in
        ap (λ n. nat_eq n 1) (connectivity-sum k (moved p v b) (net_of h e).pins low)
        ∙ alone (pins_in (moved p v b) (net_of h e).pins) k b block (omega arith)
        ∙ ap (λ n. nat_eq n (sum_below (pins_in (moved p v b) (net_of h e).pins) k)) new
        ∙ ap (nat_eq (pins_in p (net_of h e).pins b + 1)) (pins_in-sum k (moved p v b) (net_of h e).pins low);
  }
    where
      old_positive : 0 < pins_in p (net_of h e).pins (block_of p v)
      old_positive =
          let times = times_of-positive (map (block_of p) (net_of h e).pins) (block_of p v) (Contains-map (block_of p) (net_of h e).pins v pin) in
          let same = pins_in-times p (net_of h e).pins (block_of p v) in
          omega arith

  pub net_gain_counted : net_gain h p v b (net_of h e) ≡ pos (net_saved h p b e) -ℤ pos (net_lost h p (block_of p v) e)
  net_gain_counted =
      let m = moves in
      let after : connectivity_after p (net_of h e).pins (block_of p v) b ≡ connectivity (moved p v b) (net_of h e).pins = let c = m.change in
      omega arith in
      let one =
      one_change h.objective (connectivity p (net_of h e).pins) (connectivity (moved p v b) (net_of h e).pins) (pins_in p (net_of h e).pins (block_of p v))
      (pins_in p (net_of h e).pins b)
      (length (net_of h e).pins) m in
      ap (λ c. pos ((net_of h e).weight * price h.objective (connectivity p (net_of h e).pins)) -ℤ pos ((net_of h e).weight * price h.objective c)) after
      ∙ scaled (net_of h e).weight (price h.objective (connectivity p (net_of h e).pins)) (price h.objective (connectivity (moved p v b) (net_of h e).pins))
      (saved h.objective (pins_in p (net_of h e).pins b) (length (net_of h e).pins))
      (lost h.objective (pins_in p (net_of h e).pins (block_of p v)) (length (net_of h e).pins)) one

-- ---- all nets of the vertex

pub gain_counted : (h : Hyper) (k : ℕ) (p : List ℕ) (v b : ℕ) → IsHypergraph h → IsPartition h k p → v < vertex_count h → b < k → b ≢ block_of p v →
    gain h p v b ≡ pos (total (net_saved h p b) (nets_of h v)) -ℤ pos (total (net_lost h p (block_of p v)) (nets_of h v))
gain_counted h k p v b good whole vertex block other =
    gain_is_local h p v b good whole.vertices vertex other
    ∙ total_z-same (λ e. net_gain h p v b (net_of h e)) (λ e. pos (net_saved h p b e) -ℤ pos (net_lost h p (block_of p v) e)) (nets_of h v)
    (λ i d l. net_gain_counted h k p v b (get_or (nets_of h v) i d) good whole vertex block other (nets_of-below h v i d l) (nets_of-hold h v i d l))
    ∙ total_z-difference (net_saved h p b) (net_lost h p (block_of p v)) (nets_of h v)
