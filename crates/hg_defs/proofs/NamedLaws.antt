-- The laws of the named placements and of the cheapest of them.
use Rattle.std.proofs.Common.{◌≡◌, ◌⊎◌, inl, inr, ℕ, zero, suc, ◌<◌, ◌≤◌, Bool, true, false, ◌&&◌, nat_le, if◌then◌else◌, List, [], ◌∷◌, map}
use Rattle.std.proofs.Common.{length, get_or, All, Option, Some, None, refl, sym, ap, subst, ◌∙◌, arith, true≢false}
use Rattle.std.specs.List.{range_with_len}
use Rattle.std.proofs.lemmas.Bool.{leb-true, le-leb, cases_lt}
use Rattle.std.proofs.lemmas.List.Elements.{All-nil, All-cons, All-head, All-map}
use Rattle.hg_defs.specs.Hypergraph.{Hyper}
use Rattle.hg_defs.specs.Partition.{IsPartition, Fits, Obeys, is_fitting}
use Rattle.hg_defs.specs.Cost.{cost}
use Rattle.hg_defs.specs.LeastLoaded.{least_loaded, greedy}
use Rattle.hg_defs.specs.Placement.{drawn_order, named, is_as_cheap, first_cheapest}
use Rattle.hg_defs.specs.NamedLaws.{partition_at, IsCheapestAt, CheapestIsFirst, OnlyCheapestIsFirst}
use Rattle.hg_defs.specs.NamedLaws.{NoneIsCheapestWhereNoneFits, NamedArePartitions, NamedObey, OneFitsWhereGreedyDoes}
use Rattle.hg_defs.proofs.PlacementLaws.{least_loaded-partition, least_loaded-obeys, greedy-partition, greedy-obeys, greedy-fits}
use Rattle.hg_defs.proofs.ReplayLaws.{fitting_is_tested}

pub named-partitions : NamedArePartitions
named-partitions h k seed good fixed some =
    All-cons (IsPartition h k) (greedy h k) (map (λ stream. least_loaded h k (drawn_order h seed stream)) (range_with_len 0 8))
    (greedy-partition h k good fixed some)
    (All-map (IsPartition h k) (λ stream. least_loaded h k (drawn_order h seed stream)) (range_with_len 0 8)
    (λ i d low. least_loaded-partition h k (drawn_order h seed (get_or (range_with_len 0 8) i d)) good fixed some))

pub named-obey : NamedObey
named-obey h k seed good fixed some =
    All-cons (Obeys h) (greedy h k) (map (λ stream. least_loaded h k (drawn_order h seed stream)) (range_with_len 0 8)) (greedy-obeys h k good fixed some)
    (All-map (Obeys h) (λ stream. least_loaded h k (drawn_order h seed stream)) (range_with_len 0 8)
    (λ i d low. least_loaded-obeys h k (drawn_order h seed (get_or (range_with_len 0 8) i d)) good fixed some))

-- ---- the first of the cheapest

module _ (h : Hyper) (k l : ℕ) where
  -- what is found of a list: nothing where none fits, or the first of the cheapest that fit
  abbrev Found : List (List ℕ) → Option (List ℕ) → Type 0
  Found ps None = All (λ p. Fits h k l p → ⊥) ps
  Found ps (Some p) = (i : ℕ) × IsCheapestAt h k l ps i × (p ≡ partition_at ps i)

  -- one more in front of the list, where it is the best
  front : (p : List ℕ) (ps : List (List ℕ)) → Fits h k l p → ((j : ℕ) → j < length ps → Fits h k l (partition_at ps j) →
      cost h p ≤ cost h (partition_at ps j)) → IsCheapestAt h k l (p ∷ ps) 0
  front p ps f low = record { within = omega arith; fits = f; cheapest = each; first = λ j m g. absurd (omega arith) }
    where
      each : (j : ℕ) → j < suc (length ps) → Fits h k l (partition_at (p ∷ ps) j) → cost h p ≤ cost h (partition_at (p ∷ ps) j)
      each zero m g = omega arith
      each (suc j) m g = low j (omega arith) g

  -- one more in front, where it isn't
  behind : (p : List ℕ) (ps : List (List ℕ)) (i : ℕ) → IsCheapestAt h k l ps i → (Fits h k l p → cost h (partition_at ps i) < cost h p) →
      IsCheapestAt h k l (p ∷ ps) (suc i)
  behind p ps i s dear = record { within = (let w = s.within in omega arith); fits = s.fits; cheapest = each; first = before }
    where
      each : (j : ℕ) → j < suc (length ps) → Fits h k l (partition_at (p ∷ ps) j) → cost h (partition_at ps i) ≤ cost h (partition_at (p ∷ ps) j)
      each zero m g = let d = dear g in omega arith
      each (suc j) m g = s.cheapest j (omega arith) g

      before : (j : ℕ) → j < suc i → Fits h k l (partition_at (p ∷ ps) j) → cost h (partition_at ps i) < cost h (partition_at (p ∷ ps) j)
      before zero m g = dear g
      before (suc j) m g = s.first j (omega arith) g

  found : (ps : List (List ℕ)) → Found ps (first_cheapest h k l ps)
  found [] = All-nil (λ p. Fits h k l p → ⊥)
  found (p ∷ ps) = by (is_fitting h k l p) (fitting_is_tested h k l p) (first_cheapest h k l ps) (found ps)
    where
      by : (fit : Bool) → ((fit ≡ true → Fits h k l p) × (Fits h k l p → fit ≡ true)) → (o : Option (List ℕ)) → Found ps o →
          Found (p ∷ ps) (if fit && is_as_cheap h p o then Some p else o)
      by false t None f = All-cons (λ q. Fits h k l q → ⊥) p ps (λ g. true≢false (sym (t.1 g))) f
      by false t (Some q) f = (suc f.0, behind p ps f.0 f.1 (λ g. absurd (true≢false (sym (t.1 g)))), f.2)
      by true t None f = (0, front p ps (t.0 refl) (λ j m g. absurd (f j [] m g)), refl)
      by true t (Some q) f = two (nat_le (cost h p) (cost h q)) refl (cases_lt (cost h q) (cost h p))
        where
          two : (c : Bool) → nat_le (cost h p) (cost h q) ≡ c → (cost h q < cost h p) ⊎ (cost h p ≤ cost h q) →
              Found (p ∷ ps) (if c then Some p else Some q)
          two true e r =
              let low = leb-true (cost h p) (cost h q) e in
              let same = ap (cost h) f.2 in
              (0, front p ps (t.0 refl) (λ j m g. let a = f.1.cheapest j m g in omega arith), refl)
          two false e (inl less) = let same = ap (cost h) f.2 in (suc f.0, behind p ps f.0 f.1 (λ g. omega arith), f.2)
          two false e (inr low) = absurd (true≢false (sym (le-leb (cost h p) (cost h q) low) ∙ e))

pub cheapest_is_first : CheapestIsFirst
cheapest_is_first h k l ps p e = subst (Found h k l ps) e (found h k l ps)

pub none_is_cheapest : NoneIsCheapestWhereNoneFits
none_is_cheapest h k l ps e = subst (Found h k l ps) e (found h k l ps)

pub only_cheapest_is_first : OnlyCheapestIsFirst
only_cheapest_is_first h k l ps i s = by (first_cheapest h k l ps) refl
  where
    by : (o : Option (List ℕ)) → first_cheapest h k l ps ≡ o → o ≡ Some (partition_at ps i)
    by None e = absurd (none_is_cheapest h k l ps e i [] s.within s.fits)
    by (Some p) e = one (cheapest_is_first h k l ps p e)
      where
        one : (j : ℕ) × IsCheapestAt h k l ps j × (p ≡ partition_at ps j) → Some p ≡ Some (partition_at ps i)
        one x = ap Some (x.2 ∙ ap (partition_at ps) (order (cases_lt x.0 i) (cases_lt i x.0)))
          where
            order : (x.0 < i) ⊎ (i ≤ x.0) → (i < x.0) ⊎ (x.0 ≤ i) → x.0 ≡ i
            order (inl m) r = let a = s.first x.0 m x.1.fits in let b = x.1.cheapest i s.within s.fits in absurd (omega arith)
            order (inr m) (inl n) = let a = x.1.first i n s.fits in let b = s.cheapest x.0 x.1.within x.1.fits in absurd (omega arith)
            order (inr m) (inr n) = omega arith

pub one_fits : OneFitsWhereGreedyDoes
one_fits h k l seed good fixed some e none =
    All-head (λ p. Fits h k l p → ⊥) (greedy h k) (map (λ stream. least_loaded h k (drawn_order h seed stream)) (range_with_len 0 8))
    (none_is_cheapest h k l (named h k seed) none) (greedy-fits h k l good fixed some e)
