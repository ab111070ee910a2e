-- Laws of the placement that leads, and of its place among the named placements.
use Rattle.std.proofs.Common.{◌≡◌, ℕ, ◌+◌, ◌-◌, ◌^◌, ◌<◌, ◌≤◌, ◌⊎◌, inl, inr, List, [], ◌∷◌, ◌++◌, length, take, map, All, Option, Some, None}
use Rattle.std.proofs.Common.{Result, Ok, Err, IfOk, IfErr, refl, sym, ap, subst, subst₂, ◌∙◌, arith, length-append}
use Rattle.std.proofs.Math.Seq.{get_or-append_seam}
use Rattle.std.proofs.lemmas.List.{get_or_append_left, take_more, take_all, get_or-map, length-map}
use Rattle.std.proofs.lemmas.List.Elements.{All-push}
use Rattle.std.proofs.lemmas.List.FromFn.{length-range_with_len, get_or-range_with_len}
use Rattle.std.specs.List.{range_with_len}
use Rattle.hg_defs.specs.Hypergraph.{Hyper}
use Rattle.hg_defs.specs.Partition.{Fits}
use Rattle.hg_defs.specs.Cost.{cost}
use Rattle.hg_defs.specs.LeastLoaded.{least_loaded, greedy, first_overfilling, unplaced, placing_order}
use Rattle.hg_defs.specs.Placement.{named, drawn_order, first_cheapest}
use Rattle.hg_defs.specs.NamedLaws.{partition_at, IsCheapestAt}
use Rattle.hg_defs.proofs.NamedLaws.{cheapest_is_first, none_is_cheapest, only_cheapest_is_first}
use Rattle.std.proofs.lemmas.Bool.{cases_lt}
use Rattle.hg_defs.specs.PlacementLaws.{IsPlaceable}
use Rattle.hg_defs.proofs.PlacementLaws.{one_overfills}
use Rattle.hg_base.specs.declared.placement.GreedyEnd.{GreedyEnd}
use Rattle.hg_base.specs.declared.placement.GreedyEnd.TheVariants.{Overfills, NoMemory}
use Rattle.hg_base.specs.GreedyEnd.{HasCause}
use Rattle.std.specs.Option.{ok_or}
use Rattle.initial_place.specs.declared.end.PlaceEnd.{PlaceEnd}
use Rattle.initial_place.specs.declared.end.PlaceEnd.TheVariants.{NoneFits}
use Rattle.initial_place.specs.Leading.{Leader, leading_cost, Leads, IsTried}

-- nothing leads where none fits
pub none_leads : (h : Hyper) (k l : ℕ) (ps : List (List ℕ)) → All (λ p. Fits h k l p → ⊥) ps → first_cheapest h k l ps ≡ None
none_leads h k l ps none = by (first_cheapest h k l ps) refl
  where
    by : (o : Option (List ℕ)) → first_cheapest h k l ps ≡ o → first_cheapest h k l ps ≡ None
    by None e = e
    by (Some p) e = let x = cheapest_is_first h k l ps p e in absurd (none x.0 [] x.1.within x.1.fits)

module _ (h : Hyper) (k l : ℕ) (ps : List (List ℕ)) (q : List ℕ) where
  before : (j : ℕ) → j < length ps → partition_at (ps ++ q ∷ []) j ≡ partition_at ps j
  before j low = get_or_append_left ps (q ∷ []) [] j low

  last : partition_at (ps ++ q ∷ []) (length ps) ≡ q
  last = get_or-append_seam ps q [] []

  one_more : length (ps ++ q ∷ []) ≡ length ps + 1
  one_more = length-append ps (q ∷ [])

  -- the leader stays where the next placement isn't cheaper
  still_first : (p : List ℕ) → first_cheapest h k l ps ≡ Some p → (Fits h k l q → cost h p ≤ cost h q) → first_cheapest h k l (ps ++ q ∷ []) ≡ Some p
  still_first p e worse = only_cheapest_is_first h k l (ps ++ q ∷ []) x.0 at ∙ ap (λ (r : List ℕ). Some r) (before x.0 x.1.within ∙ sym x.2)
    where
      x : (i : ℕ) × IsCheapestAt h k l ps i × (p ≡ partition_at ps i)
      x = cheapest_is_first h k l ps p e

      cheapest : (j : ℕ) → (j < length ps) ⊎ (length ps ≤ j) → j < length (ps ++ q ∷ []) → Fits h k l (partition_at (ps ++ q ∷ []) j)
          → cost h (partition_at ps x.0) ≤ cost h (partition_at (ps ++ q ∷ []) j)
      cheapest j (inl low) inside fits =
          subst (λ (r : List ℕ). cost h (partition_at ps x.0) ≤ cost h r) (sym (before j low)) (x.1.cheapest j low (subst (Fits h k l) (before j low) fits))
      cheapest j (inr high) inside fits =
          let n = one_more in
          let same : j ≡ length ps = omega arith in
          let is : partition_at (ps ++ q ∷ []) j ≡ q = ap (partition_at (ps ++ q ∷ [])) same ∙ last in
          subst₂ (λ (r s : List ℕ). cost h r ≤ cost h s) x.2 (sym is) (worse (subst (Fits h k l) is fits))

      at : IsCheapestAt h k l (ps ++ q ∷ []) x.0
      at = record {
        within = let w = x.1.within in let n = one_more in omega arith;
        fits = subst (Fits h k l) (sym (before x.0 x.1.within)) x.1.fits;
        cheapest = λ j inside fits. subst (λ (r : List ℕ). cost h r ≤ cost h (partition_at (ps ++ q ∷ []) j)) (sym (before x.0 x.1.within))
            (cheapest j (cases_lt j (length ps)) inside fits);
        first = λ j low fits.
            let w = x.1.within in
            let b = before j (omega arith) in
            subst₂ (λ (r s : List ℕ). cost h r < cost h s) (sym (before x.0 x.1.within)) (sym b) (x.1.first j low (subst (Fits h k l) b fits));
      }

  -- the next placement leads where it fits and is cheaper than each that fits
  now_first : Fits h k l q → ((j : ℕ) → j < length ps → Fits h k l (partition_at ps j) → cost h q < cost h (partition_at ps j)) →
      first_cheapest h k l (ps ++ q ∷ []) ≡ Some q
  now_first fits better = only_cheapest_is_first h k l (ps ++ q ∷ []) (length ps) at ∙ ap (λ (r : List ℕ). Some r) last
    where
      dearer : (j : ℕ) → j < length ps → Fits h k l (partition_at (ps ++ q ∷ []) j) → cost h q < cost h (partition_at (ps ++ q ∷ []) j)
      dearer j low fit = subst (λ (r : List ℕ). cost h q < cost h r) (sym (before j low)) (better j low (subst (Fits h k l) (before j low) fit))

      cheapest : (j : ℕ) → (j < length ps) ⊎ (length ps ≤ j) → j < length (ps ++ q ∷ []) → Fits h k l (partition_at (ps ++ q ∷ []) j)
          → cost h q ≤ cost h (partition_at (ps ++ q ∷ []) j)
      cheapest j (inl low) inside fit = let d = dearer j low fit in omega arith
      cheapest j (inr high) inside fit =
          let n = one_more in
          let same : j ≡ length ps = omega arith in
          let is : partition_at (ps ++ q ∷ []) j ≡ q = ap (partition_at (ps ++ q ∷ [])) same ∙ last in
          subst (λ (r : List ℕ). cost h q ≤ cost h r) (sym is) (omega arith)

      at : IsCheapestAt h k l (ps ++ q ∷ []) (length ps)
      at = record {
        within = let n = one_more in omega arith;
        fits = subst (Fits h k l) (sym last) fits;
        cheapest = λ j inside fit. subst (λ (r : List ℕ). cost h r ≤ cost h (partition_at (ps ++ q ∷ []) j)) (sym last)
            (cheapest j (cases_lt j (length ps)) inside fit);
        first = λ j low fit. subst (λ (r : List ℕ). cost h r < cost h (partition_at (ps ++ q ∷ []) j)) (sym last) (dearer j low fit);
      }

  pub stays : (leader : Leader) → Leads h k l ps leader → (Fits h k l q → (leader.cost ≤ cost h q) × (cost h q < 2 ^ 57)) → Leads h k l (ps ++ q ∷ [])
      leader
  stays leader leads worse = record { first = by leader.blocks leads.first leads.cost; cost = leads.cost }
    where
      by : (best : Option (List ℕ)) → first_cheapest h k l ps ≡ best → leader.cost ≡ leading_cost h best → first_cheapest h k l (ps ++ q ∷ []) ≡ best
      by None e c =
          none_leads h k l (ps ++ q ∷ [])
          (All-push (λ p. Fits h k l p → ⊥) ps q (none_is_cheapest h k l ps e) (λ fits. let w = worse fits in let a = w.0 in let b = w.1 in
          absurd (omega arith)))
      by (Some p) e c = still_first p e (λ fits. let w = (worse fits).0 in omega arith)

  pub gives_way : (leader : Leader) → Leads h k l ps leader → Fits h k l q → cost h q < leader.cost → Leads h k l (ps ++ q ∷ [])
      (record { blocks = Some q; cost = cost h q })
  gives_way leader leads fits less = record { first = now_first fits (by leader.blocks leads.first leads.cost); cost = refl }
    where
      by : (best : Option (List ℕ)) → first_cheapest h k l ps ≡ best → leader.cost ≡ leading_cost h best → (j : ℕ) → j < length ps →
          Fits h k l (partition_at ps j) → cost h q < cost h (partition_at ps j)
      by None e c j low fit = absurd (none_is_cheapest h k l ps e j [] low fit)
      by (Some p) e c j low fit =
          let x = cheapest_is_first h k l ps p e in
          let a = x.1.cheapest j low fit in
          let b = ap (cost h) x.2 in
          omega arith

-- ---- the places of the named placements

module _ (h : Hyper) (k seed : ℕ) where
  -- the placements in the first orders that are drawn
  abbrev pub drawn_upto : ℕ → List (List ℕ)
  drawn_upto s = take s (map (λ stream. least_loaded h k (drawn_order h seed stream)) (range_with_len 0 8))

  pub drawn_next : (s : ℕ) → s < 8 → drawn_upto (s + 1) ≡ drawn_upto s ++ least_loaded h k (drawn_order h seed s) ∷ []
  drawn_next s low =
      let place : ℕ → List ℕ = λ stream. least_loaded h k (drawn_order h seed stream) in
      let n : length (range_with_len 0 8) ≡ 8 = length-range_with_len 0 8 in
      let m = length-map (range_with_len 0 8) place in
      take_more (map place (range_with_len 0 8)) s [] (omega arith)
      ∙ ap (λ p. drawn_upto s ++ p ∷ []) (get_or-map place (range_with_len 0 8) s 0 [] (omega arith) ∙
      ap place (get_or-range_with_len 0 8 s 0 low ∙ omega arith))

  pub drawn_all : (s : ℕ) → 8 ≤ s → greedy h k ∷ drawn_upto s ≡ named h k seed
  drawn_all s high =
      let place : ℕ → List ℕ = λ stream. least_loaded h k (drawn_order h seed stream) in
      let n : length (range_with_len 0 8) ≡ 8 = length-range_with_len 0 8 in
      let m = length-map (range_with_len 0 8) place in
      ap (λ ps. greedy h k ∷ ps) (take_all s (map place (range_with_len 0 8)) (omega arith))

-- how a placing ends says whether the placement fits
pub tried : (h : Hyper) (k l : ℕ) (order : List ℕ) → IsPlaceable h k order → (r : Result (List ℕ) GreedyEnd)
    → IfOk r (λ p. p ≡ least_loaded h k order) → IfOk r (Fits h k l) → IfErr r (HasCause (first_overfilling h l (unplaced h k) (placing_order h order)))
    → IsTried h k l (least_loaded h k order) r
tried h k l order ready (Ok p) is fits cause = (is, fits)
tried h k l order ready (Err (Overfills v)) is fits cause = one_overfills h k l order v ready cause
tried h k l order ready (Err NoMemory) is fits cause = tt

-- the same, said of an equal hypergraph and an equal order
pub tried_same : (g h : Hyper) (k l : ℕ) (vs order : List ℕ) → g ≡ h → vs ≡ order → IsPlaceable h k order → (r : Result (List ℕ) GreedyEnd)
    → IfOk r (λ p. p ≡ least_loaded g k vs) → IfOk r (Fits g k l) → IfErr r (HasCause (first_overfilling g l (unplaced g k) (placing_order g vs)))
    → IsTried h k l (least_loaded h k order) r
tried_same g h k l vs order same too ready r is fits cause =
    subst₂ (λ (x : Hyper) (o : List ℕ). IsTried x k l (least_loaded x k o) r) same too
    (tried g k l vs (subst₂ (λ (x : Hyper) (o : List ℕ). IsPlaceable x k o) (sym same) (sym too) ready) r is fits cause)

-- at first none was tried
pub none_tried : (h : Hyper) (k l : ℕ) → Leads h k l [] (record { blocks = None; cost = 2 ^ 64 - 1 })
none_tried h k l = record { first = refl; cost = refl }

-- the answer of a leader
module _ (h : Hyper) (k l : ℕ) (ps : List (List ℕ)) where
  pub best_of : (best : Option (List ℕ)) → first_cheapest h k l ps ≡ best → IfOk (ok_or best NoneFits) (λ p. first_cheapest h k l ps ≡ Some p)
  best_of None e = tt
  best_of (Some p) e = e

  pub none_of : (best : Option (List ℕ)) → first_cheapest h k l ps ≡ best → ok_or best NoneFits ≡ Err NoneFits → first_cheapest h k l ps ≡ None
  none_of None e same = e
  none_of (Some p) e same = cc

  pub best_is : (P : List ℕ → Type 0) → All P ps → (r : Result (List ℕ) PlaceEnd) → IfOk r (λ p. first_cheapest h k l ps ≡ Some p) → IfOk r P
  best_is P all (Ok p) best = let x = cheapest_is_first h k l ps p best in subst P (sym x.2) (all x.0 [] x.1.within)
  best_is P all (Err e) best = tt
