-- A vertex may go to a block where one of its nets has a pin, exactly where that is a possible move.
use Rattle.std.proofs.Common.{◌≡◌, ◌≢◌, ℕ, ◌+◌, ◌<◌, ◌≤◌, Bool, true, false, ◌||◌, nat_eq, nat_lt, if◌then◌else◌, List, [], ◌∷◌, length, map, All, Contains}
use Rattle.std.proofs.Common.{zero-add, refl, sym, ap, subst, ◌∙◌, arith}
use Rattle.std.specs.List.{list_any, range_with_len}
use Rattle.std.proofs.lemmas.Bool.{ltb-true, ltb-false, lt-ltb, ne_eqb, eq-eqb}
use Rattle.std.proofs.lemmas.List.{get_or_default}
use Rattle.std.proofs.lemmas.Bool.Decides.{Decides-eqb}
use Rattle.std.proofs.lemmas.Map.Made.{is_member-Decides}
use Rattle.std.proofs.lemmas.List.Elements.{All-contains, Contains-get_or}
use Rattle.hg_defs.specs.Hypergraph.{Net, Hyper, vertex_count, net_count, net_of}
use Rattle.hg_defs.specs.Partition.{block_of}
use Rattle.hg_defs.specs.Cost.{connectivity}
use Rattle.hg_defs.specs.Pins.{pins_in, present}
use Rattle.hg_defs.specs.Incidence.{is_on, nets_of}
use Rattle.hg_defs.proofs.SumLaws.{sum_below-change, sum_below_at-le}
use Rattle.hg_defs.proofs.DistinctLaws.{present-positive, connectivity-sum, blocks_of_pins, pins_in-times, times_of-positive, Contains-map}
use Rattle.hg_defs.proofs.NumberingLaws.{Contains_range}
use Rattle.hg_defs.proofs.PlacementLaws.{Contains_filter}
use Rattle.pin_plain.specs.Parted.{IsParted}
use Rattle.incidence.proofs.IndexLaws.{nets_of-below}
use Rattle.pin_plain.proofs.GainLaws.{nets_of-hold}
use Rattle.round_log.specs.Passes.{IsPossible, HasPossible}
use Rattle.fm_search.specs.Possible.{MayGo, IsLowest, IsFirst}

-- a net has a pin in a block where it has more than none
has_pin-count : (p pins : List ℕ) (b : ℕ) → list_any (λ v. nat_eq (block_of p v) b) pins ≡ nat_lt 0 (pins_in p pins b)
has_pin-count p [] b = refl
has_pin-count p (v ∷ pins) b = by (nat_eq (block_of p v) b) (has_pin-count p pins b)
  where
    positive : (n : ℕ) → nat_lt 0 (1 + n) ≡ true
    positive n = lt-ltb 0 (1 + n) (omega arith)

    by : (t : Bool) → list_any (λ u. nat_eq (block_of p u) b) pins ≡ nat_lt 0 (pins_in p pins b)
        → (t || list_any (λ u. nat_eq (block_of p u) b) pins) ≡ nat_lt 0 ((if t then 1 else 0) + pins_in p pins b)
    by true rest = sym (positive (pins_in p pins b))
    by false rest = rest ∙ ap (nat_lt 0) (sym (zero-add (pins_in p pins b)))

pins_in-positive : (p pins : List ℕ) (v : ℕ) → Contains pins v → 0 < pins_in p pins (block_of p v)
pins_in-positive p pins v c =
    subst (λ n. 0 < n) (pins_in-times p pins (block_of p v)) (times_of-positive (map (block_of p) pins) (block_of p v) (Contains-map (block_of p) pins v c))

-- a net with pins in two blocks touches two at least
two_blocks : (k : ℕ) (p pins : List ℕ) (a b : ℕ) → All (λ v. block_of p v < k) pins → a < k → b < k → a ≢ b → 0 < pins_in p pins a → 0 < pins_in p pins b
    → 2 ≤ connectivity p pins
two_blocks k p pins a b low la lb apart here there =
    let f : ℕ → ℕ = λ c. present (pins_in p pins c) in
    let g : ℕ → ℕ = λ c. if nat_eq c a then 0 else f c in
    let sum = connectivity-sum k p pins low in
    let change = sum_below-change f g k a la (λ j l n. sym (ap (λ t. if t then 0 else f j) (ne_eqb j a n))) in
    let most = sum_below_at-le g k b lb in
    let one : f a ≡ 1 = present-positive (pins_in p pins a) here in
    let other : f b ≡ 1 = present-positive (pins_in p pins b) there in
    let none : g a ≡ 0 = ap (λ t. if t then 0 else f a) (eq-eqb a a refl) in
    let same : g b ≡ f b = ap (λ t. if t then 0 else f b) (ne_eqb b a (λ e. apart (sym e))) in
    omega arith

module _ (h : Hyper) (k l : ℕ) (p : List ℕ) (s : IsParted h k p) where
  -- a net of a vertex
  held : (v e : ℕ) → Contains (nets_of h v) e → (e < net_count h) × Contains (net_of h e).pins v
  held v e c = (
    All-contains (λ d. d < net_count h) (nets_of h v) e (nets_of-below h v) c,
    All-contains (λ d. Contains (net_of h d).pins v) (nets_of h v) e (nets_of-hold h v) c,
  )

  pub possible_from : (v b : ℕ) → MayGo h k l p v b → IsPossible h k l p v b
  possible_from v b m =
      let e = m.near.0 in
      let net = held v e m.near.1 in
      let inside : v < length p = let x = s.partition.vertices in let y = m.allowed.vertex in omega arith in
      let below = blocks_of_pins k p (net_of h e).pins s.partition.blocks
      (subst (λ n. All (λ u. u < n) (net_of h e).pins) (sym s.partition.vertices) (s.sound.nets e (record { weight = 0; pins = [] }) net.0).pins) in
      record {
        net = (
          net_of h e,
          Contains-get_or h.nets e (record { weight = 0; pins = [] }) net.0,
          net.1,
          two_blocks k p (net_of h e).pins (block_of p v) b below (s.partition.blocks v 0 inside) m.allowed.block (λ q. m.allowed.other (sym q))
              (pins_in-positive p (net_of h e).pins v net.1) m.near.2,
          has_pin-count p (net_of h e).pins b ∙ lt-ltb 0 (pins_in p (net_of h e).pins b) m.near.2,
        );
        allowed = m.allowed;
      }

  pub possible_to : (v b : ℕ) → IsPossible h k l p v b → MayGo h k l p v b
  possible_to v b m =
      let e = m.net.0 in
      let at = m.net.1 in
      let i = at.0 in
      let same : net_of h i ≡ e = get_or_default h.nets i (record { weight = 0; pins = [] }) e at.1 ∙ at.2 in
      let on : is_on h v i ≡ true = (is_member-Decides Decides-eqb (net_of h i).pins v).1 (subst (λ (n : Net). Contains n.pins v) (sym same) m.net.2) in
      record {
        allowed = m.allowed;
        near = (
          i,
          Contains_filter (is_on h v) (range_with_len 0 (net_count h)) i (Contains_range 0 (net_count h) i (omega arith) (omega (arith, at.1))) on,
          subst (λ (n : Net). 0 < pins_in p n.pins b) (sym same) (ltb-true 0 (pins_in p e.pins b) (sym (has_pin-count p e.pins b) ∙ m.net.4)),
        );
      }

  -- the lowest block of the first vertex that may go anywhere is the first possible move
  pub first_from : (v b : ℕ) → IsLowest h k l p v b → ((u c : ℕ) → u < v → MayGo h k l p u c → ⊥) → IsFirst h k l p v b
  first_from v b low none = record {
    possible = possible_from v b low.here;
    vertex = λ u c m. by u c m (nat_lt u v) refl;
    block = λ c m. low.least c (possible_to v c m);
  }
    where
      by : (u c : ℕ) → IsPossible h k l p u c → (t : Bool) → nat_lt u v ≡ t → v ≤ u
      by u c m true e = absurd (none u c (ltb-true u v e) (possible_to u c m))
      by u c m false e = ltb-false u v e

  -- a vertex that may go somewhere has a possible move
  pub possible_by : (v b : ℕ) → IsLowest h k l p v b → HasPossible h k l p
  possible_by v b low = (v, b, possible_from v b low.here)

  pub none_possible : ((u c : ℕ) → u < vertex_count h → MayGo h k l p u c → ⊥) → HasPossible h k l p → ⊥
  none_possible none m = none m.0 m.1 m.2.allowed.vertex (possible_to m.0 m.1 m.2)
