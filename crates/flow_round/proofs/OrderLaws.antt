-- Turns may be taken in the rising order of their pairs, where pairs that share a block stood in it already.
use Rattle.std.proofs.Common.{◌≡◌, ◌⊎◌, inl, inr, ℕ, List, [], ◌∷◌, All, Contains, refl, sym, ap, subst, ◌∙◌}
use Rattle.std.specs.declared.cmp.Ordering.{Ordering}
use Rattle.std.specs.declared.cmp.Ordering.TheVariants.{Less, Equal, Greater}
use Rattle.std.specs.Ordering.{match_ordering}
use Rattle.std.proofs.lemmas.List.Elements.{All-head, All-tail, All-weaker, All-contains, All-contains_itself}
use Rattle.std.specs.Prelude.{Option}
use Rattle.hg_defs.specs.declared.moves.Move.{Move}
use Rattle.hg_defs.specs.Hypergraph.{Hyper, IsHypergraph}
use Rattle.hg_defs.specs.Partition.{IsPartition, Fits}
use Rattle.hg_defs.specs.Sorting.{lower_first, joined, set_of}
use Rattle.hg_defs.proofs.SortLaws.{lower_first_total, lower_first_exact, Contains-from_set_of}
use Rattle.flow_pair.specs.declared.solve.PairEnd.{PairEnd}
use Rattle.flow_round.specs.PairTurns.{IsPairBelow, AreBooked, AreTurns, AreDisjoint, after_turn, after_turns}
use Rattle.flow_round.proofs.SwapLaws.{turn_partition, turn_fits, turn_kept, turn_before, turns_commute, booked_kept, booked_before}

-- the first pair is the lower one, or shares no block with the other one
abbrev pub MayPass : ℕ × ℕ → ℕ × ℕ → Type 0
MayPass x y = (lower_first x y ≡ Less) ⊎ AreDisjoint x y

-- each pair may be passed by all later ones
abbrev pub MayBeSorted : List (ℕ × ℕ) → Type 0
MayBeSorted [] = Unit {0}
MayBeSorted (x ∷ xs) = All (MayPass x) xs × MayBeSorted xs

turned : (x y : ℕ × ℕ) → AreDisjoint x y → AreDisjoint y x
turned x y d = record {
  first_first = λ e. d.first_first (sym e);
  first_second = λ e. d.second_first (sym e);
  second_first = λ e. d.first_second (sym e);
  second_second = λ e. d.second_second (sym e);
}

among_set : (xs : List (ℕ × ℕ)) (P : ℕ × ℕ → Type 0) → All P xs → All P (set_of lower_first xs)
among_set xs P all = All-weaker (Contains (set_of lower_first xs)) P
    (λ y c. All-contains P xs y all (Contains-from_set_of lower_first_total lower_first_exact xs y c))
    (set_of lower_first xs) (All-contains_itself (set_of lower_first xs))

module _ (h : Hyper) (k l : ℕ) (sound : IsHypergraph h) (ends : ℕ × ℕ → Option PairEnd) where
  -- the turns of the pairs, which lead where those of others lead
  abbrev LeadTo : List (ℕ × ℕ) → List (ℕ × ℕ) → List ℕ → Type 0
  LeadTo xs ys p = AreTurns h k l ends xs p × (after_turns ends xs p ≡ after_turns ends ys p)

  joined_turns : (x : ℕ × ℕ) (ys : List (ℕ × ℕ)) (p : List ℕ) → IsPartition h k p → Fits h k l p → IsPairBelow k x → All (IsPairBelow k) ys
      → All (MayPass x) ys → AreTurns h k l ends (x ∷ ys) p → LeadTo (joined lower_first x ys) (x ∷ ys) p
  joined_turns x [] p parted fits bx bys pass t = (t, refl)
  joined_turns x (y ∷ ys) p parted fits bx bys pass t =
      by (lower_first x y) refl (All-head (MayPass x) y ys pass)
      (λ q w f u. joined_turns x ys q w f bx (All-tail (IsPairBelow k) y ys bys) (All-tail (MayPass x) y ys pass) u)
    where
      by_y : IsPairBelow k y
      by_y = All-head (IsPairBelow k) y ys bys

      by : (r : Ordering) → lower_first x y ≡ r → MayPass x y
          → ((q : List ℕ) → IsPartition h k q → Fits h k l q → AreTurns h k l ends (x ∷ ys) q → LeadTo (joined lower_first x ys) (x ∷ ys) q)
          → LeadTo (match_ordering r (x ∷ y ∷ ys) (y ∷ ys) (y ∷ joined lower_first x ys)) (x ∷ y ∷ ys) p
      by Less e m rest = (t, refl)
      by Equal e (inl f) rest = absurd (let z : Less ≡ Equal = sym f ∙ e in cc)
      by Equal e (inr d) rest = absurd (d.first_first (ap (λ (q : ℕ × ℕ). q.0) (lower_first_exact x y e)))
      by Greater e (inl f) rest = absurd (let z : Less ≡ Greater = sym f ∙ e in cc)
      by Greater e (inr d) rest =
          let ty = turn_before h k l sound p x y (ends x) (ends y) bx by_y d parted fits t.0 t.1.0 in
          let tx = turn_kept h k l sound p y x (ends y) (ends x) by_y bx (turned x y d) parted fits ty t.0 in
          let same = turns_commute h k l sound p x y (ends x) (ends y) d t.0 ty in
          let next = rest (after_turn p (ends y)) (turn_partition h k l sound p y (ends y) by_y parted ty) (turn_fits h k l sound p y (ends y) fits ty)
          (tx, subst (AreTurns h k l ends ys) same t.1.1) in
          ((ty, next.0), next.1 ∙ ap (after_turns ends ys) (sym same))

  pub set_turns : (xs : List (ℕ × ℕ)) (p : List ℕ) → IsPartition h k p → Fits h k l p → All (IsPairBelow k) xs → MayBeSorted xs
      → AreTurns h k l ends xs p → LeadTo (set_of lower_first xs) xs p
  set_turns [] p parted fits below pass t = (tt, refl)
  set_turns (x ∷ xs) p parted fits below pass t =
      let bx = All-head (IsPairBelow k) x xs below in
      let q = after_turn p (ends x) in
      let rest = set_turns xs q (turn_partition h k l sound p x (ends x) bx parted t.0) (turn_fits h k l sound p x (ends x) fits t.0)
      (All-tail (IsPairBelow k) x xs below) pass.1 t.1 in
      let all = joined_turns x (set_of lower_first xs) p parted fits bx (among_set xs (IsPairBelow k) (All-tail (IsPairBelow k) x xs below))
      (among_set xs (MayPass x) pass.0) (t.0, rest.0) in
      (all.0, all.1 ∙ rest.1)

  -- the moves of the turns are theirs in both orders
  module _ (made : ℕ × ℕ → List Move) where
    joined_booked : (x : ℕ × ℕ) (ys : List (ℕ × ℕ)) (p : List ℕ) → IsPartition h k p → Fits h k l p → IsPairBelow k x → All (IsPairBelow k) ys
        → All (MayPass x) ys → AreTurns h k l ends (x ∷ ys) p → AreBooked h ends made (x ∷ ys) p → AreBooked h ends made (joined lower_first x ys) p
    joined_booked x [] p parted fits bx bys pass t m = m
    joined_booked x (y ∷ ys) p parted fits bx bys pass t m =
        by (lower_first x y) refl (All-head (MayPass x) y ys pass)
        (λ q w f u n. joined_booked x ys q w f bx (All-tail (IsPairBelow k) y ys bys) (All-tail (MayPass x) y ys pass) u n)
      where
        by_y : IsPairBelow k y
        by_y = All-head (IsPairBelow k) y ys bys

        by : (r : Ordering) → lower_first x y ≡ r → MayPass x y
            → ((q : List ℕ) → IsPartition h k q → Fits h k l q → AreTurns h k l ends (x ∷ ys) q → AreBooked h ends made (x ∷ ys) q
            → AreBooked h ends made (joined lower_first x ys) q)
            → AreBooked h ends made (match_ordering r (x ∷ y ∷ ys) (y ∷ ys) (y ∷ joined lower_first x ys)) p
        by Less e f rest = m
        by Equal e (inl f) rest = absurd (let z : Less ≡ Equal = sym f ∙ e in cc)
        by Equal e (inr d) rest = absurd (d.first_first (ap (λ (q : ℕ × ℕ). q.0) (lower_first_exact x y e)))
        by Greater e (inl f) rest = absurd (let z : Less ≡ Greater = sym f ∙ e in cc)
        by Greater e (inr d) rest =
            let ty = turn_before h k l sound p x y (ends x) (ends y) bx by_y d parted fits t.0 t.1.0 in
            let tx = turn_kept h k l sound p y x (ends y) (ends x) by_y bx (turned x y d) parted fits ty t.0 in
            let same = turns_commute h k l sound p x y (ends x) (ends y) d t.0 ty in (
              booked_before h k l sound p x y (ends x) (ends y) (made y) bx by_y d parted t.0 ty m.1.0,
              rest (after_turn p (ends y)) (turn_partition h k l sound p y (ends y) by_y parted ty) (turn_fits h k l sound p y (ends y) fits ty)
                  (tx, subst (AreTurns h k l ends ys) same t.1.1) (
                    booked_kept h k l sound p y x (ends y) (ends x) (made x) by_y bx (turned x y d) parted ty t.0 m.0,
                    subst (AreBooked h ends made ys) same m.1.1,
                  ),
            )

    pub set_booked : (xs : List (ℕ × ℕ)) (p : List ℕ) → IsPartition h k p → Fits h k l p → All (IsPairBelow k) xs → MayBeSorted xs
        → AreTurns h k l ends xs p → AreBooked h ends made xs p → AreBooked h ends made (set_of lower_first xs) p
    set_booked [] p parted fits below pass t m = tt
    set_booked (x ∷ xs) p parted fits below pass t m =
        let bx = All-head (IsPairBelow k) x xs below in
        let q = after_turn p (ends x) in
        let parted_q = turn_partition h k l sound p x (ends x) bx parted t.0 in
        let fits_q = turn_fits h k l sound p x (ends x) fits t.0 in
        let rest = set_turns xs q parted_q fits_q (All-tail (IsPairBelow k) x xs below) pass.1 t.1 in
        let booked = set_booked xs q parted_q fits_q (All-tail (IsPairBelow k) x xs below) pass.1 t.1 m.1 in
        joined_booked x (set_of lower_first xs) p parted fits bx
        (among_set xs (IsPairBelow k) (All-tail (IsPairBelow k) x xs below)) (among_set xs (MayPass x) pass.0) (t.0, rest.0) (m.0, booked)
