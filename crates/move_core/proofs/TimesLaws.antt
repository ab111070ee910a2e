-- How often a number stands in a list: after an insertion, after a removal, and in all accounts after a change of one.
use Rattle.std.proofs.Common.{◌≡◌, ℕ, zero, suc, ◌+◌, ◌*◌, ◌<◌, ◌≤◌, ◌⊎◌, inl, inr, Bool, true, false, ◌&&◌}
use Rattle.std.proofs.Common.{cond, if◌then◌else◌, nat_eq, List, [], ◌∷◌, length}
use Rattle.std.proofs.Common.{length-set, get_or, get_or-set_same, get_or-set_other, set, ℤ, ◌+ℤ◌, All, refl, sym, ap, ◌∙◌, subst, arith, nat_cmp}
use Rattle.std.specs.BTreeSet.{insert_key}
use Rattle.std.specs.Set.{remove_key}
use Rattle.std.specs.Ordering.{match_ordering}
use Rattle.std.specs.declared.cmp.Ordering.{Ordering}
use Rattle.std.specs.declared.cmp.Ordering.TheVariants.{Less, Equal, Greater}
use Rattle.std.proofs.lemmas.List.Elements.{All-nil, All-head, All-tail, All-cons, All-set}
use Rattle.std.proofs.lemmas.Bool.{eqb-true, eqb-false, cases_eq}
use Rattle.hg_defs.specs.Sums.{total, total_z}
use Rattle.hg_defs.proofs.SumLaws.{total-set, total-le, total_z-set, weight_if, weight_if-same, weight_if-other, total_at-le}
use Rattle.hg_defs.proofs.SortLaws.{nat_cmp_exact}
use Rattle.move_core.specs.declared.account.Account.{Account}
use Rattle.move_core.specs.State.{times, blank}
use Rattle.move_core.specs.Events.{all_inserted}

-- a key put into a list that hasn't got it
pub times-insert_key : (xs : List ℕ) (v u : ℕ) → times v xs ≡ 0 → times u (insert_key nat_cmp xs v) ≡ times u xs + weight_if v u 1
times-insert_key [] v u h = omega arith
times-insert_key (x ∷ xs) v u h = by (nat_cmp v x) refl (times-insert_key xs v u)
  where
    by : (o : Ordering) → nat_cmp v x ≡ o → (times v xs ≡ 0 → times u (insert_key nat_cmp xs v) ≡ times u xs + weight_if v u 1)
        → times u (match_ordering o (v ∷ x ∷ xs) (x ∷ xs) (x ∷ insert_key nat_cmp xs v)) ≡ times u (x ∷ xs) + weight_if v u 1
    by Less e r = omega arith
    by Equal e r =
        let s = weight_if-same x v 1 (sym (nat_cmp_exact v x e)) in
        absurd (omega arith)
    by Greater e r = let q = r (omega arith) in omega arith

-- a key taken out of a list
pub times-remove_key : (xs : List ℕ) (v u : ℕ) → 0 < times v xs → times u (remove_key (nat_eq v) xs) + weight_if v u 1 ≡ times u xs
times-remove_key [] v u h = absurd (omega arith)
times-remove_key (x ∷ xs) v u h = by (nat_eq v x) refl (times-remove_key xs v u)
  where
    by : (b : Bool) → nat_eq v x ≡ b → (0 < times v xs → times u (remove_key (nat_eq v) xs) + weight_if v u 1 ≡ times u xs)
        → times u (cond b xs (x ∷ remove_key (nat_eq v) xs)) + weight_if v u 1 ≡ times u (x ∷ xs)
    by true e r = subst (λ z. times u xs + weight_if z u 1 ≡ times u (x ∷ xs)) (sym (eqb-true v x e)) (omega arith)
    by false e r =
        let s = weight_if-other x v 1 (λ q. eqb-false v x e (sym q)) in
        let q = r (omega arith) in
        omega arith

-- all keys of a list that shares none
pub times-all_inserted : (xs ys : List ℕ) → ((u : ℕ) → times u xs + times u ys ≤ 1) → (u : ℕ) → times u (all_inserted xs ys) ≡ times u xs + times u ys
times-all_inserted xs [] h u = omega arith
times-all_inserted xs (y ∷ ys) h u =
    let here = weight_if-same y y 1 refl in
    let bound = h y in
    let none : times y xs ≡ 0 = omega arith in
    let e = times-insert_key xs y u none in
    let r = times-all_inserted (insert_key nat_cmp xs y) ys (λ w. let f = times-insert_key xs y w none in let g = h w in omega arith) u in
    omega arith

module _ (P : ℕ → Type 0) where
  pub All-insert_key : (xs : List ℕ) (v : ℕ) → All P xs → P v → All P (insert_key nat_cmp xs v)
  All-insert_key [] v h p = All-cons P v [] p (All-nil P)
  All-insert_key (x ∷ xs) v h p = by (nat_cmp v x) (All-insert_key xs v (All-tail P x xs h) p)
    where
      by : (o : Ordering) → All P (insert_key nat_cmp xs v) → All P (match_ordering o (v ∷ x ∷ xs) (x ∷ xs) (x ∷ insert_key nat_cmp xs v))
      by Less r = All-cons P v (x ∷ xs) p h
      by Equal r = h
      by Greater r = All-cons P x (insert_key nat_cmp xs v) (All-head P x xs h) r

  pub All-remove_key : (xs : List ℕ) (v : ℕ) → All P xs → All P (remove_key (nat_eq v) xs)
  All-remove_key [] v h = All-nil P
  All-remove_key (x ∷ xs) v h = by (nat_eq v x) (All-remove_key xs v (All-tail P x xs h))
    where
      by : (b : Bool) → All P (remove_key (nat_eq v) xs) → All P (cond b xs (x ∷ remove_key (nat_eq v) xs))
      by true r = All-tail P x xs h
      by false r = All-cons P x (remove_key (nat_eq v) xs) (All-head P x xs h) r

  pub All-all_inserted : (xs ys : List ℕ) → All P xs → All P ys → All P (all_inserted xs ys)
  All-all_inserted xs [] h k = h
  All-all_inserted xs (y ∷ ys) h k = All-all_inserted (insert_key nat_cmp xs y) ys (All-insert_key xs y h (All-head P y ys k)) (All-tail P y ys k)

  -- a number that stands in a list has what all have
  pub All_at_times : (xs : List ℕ) (v : ℕ) → All P xs → 0 < times v xs → P v
  All_at_times [] v h k = absurd (omega arith)
  All_at_times (x ∷ xs) v h k = by (nat_eq x v) refl (All_at_times xs v (All-tail P x xs h))
    where
      by : (b : Bool) → nat_eq x v ≡ b → (0 < times v xs → P v) → P v
      by true e r = subst P (eqb-true x v e) (All-head P x xs h)
      by false e r = let s = weight_if-other x v 1 (eqb-false x v e) in r (omega arith)

-- a list whose elements each have a property where they stand in the list
pub All_from_times : (P : ℕ → Type 0) (xs : List ℕ) → ((v : ℕ) → 0 < times v xs → P v) → All P xs
All_from_times P [] h = All-nil P
All_from_times P (x ∷ xs) h =
    All-cons P x xs
    (h x (let s = weight_if-same x x 1 refl in omega arith))
    (All_from_times P xs (λ v k. h v (omega arith)))

-- a place of a list reads the same whatever would stand past its end
pub same_default : {A : Type 0} (xs : List A) (i : ℕ) (d e : A) → i < length xs → get_or xs i d ≡ get_or xs i e
same_default [] i d e l = absurd (omega arith)
same_default (x ∷ xs) zero d e l = refl
same_default (x ∷ xs) (suc i) d e l = same_default xs i d e (omega arith)

-- one account changed
module _ (accounts : List Account) (i : ℕ) (a a' : Account) (l : i < length accounts) (at : get_or accounts i (blank false) ≡ a) where
  pub total_changed : (f : Account → ℕ) → total f (set accounts i a') + f a ≡ total f accounts + f a'
  total_changed f =
      let P : Account → Type 0 = λ z. total f (set accounts i a') + f z ≡ total f accounts + f a' in
      subst P at (total-set f accounts i a' (blank false) l)

  pub total_z_changed : (f : Account → ℤ) → total_z f (set accounts i a') +ℤ f a ≡ total_z f accounts +ℤ f a'
  total_z_changed f =
      let P : Account → Type 0 = λ z. total_z f (set accounts i a') +ℤ f z ≡ total_z f accounts +ℤ f a' in
      subst P at (total_z-set f accounts i a' (blank false) l)

  pub total_unchanged : (f : Account → ℕ) → f a' ≡ f a → total f (set accounts i a') ≡ total f accounts
  total_unchanged f e = let c = total_changed f in omega arith

  pub total_at : (f : Account → ℕ) → f a ≤ total f accounts
  total_at f = subst (λ z. f z ≤ total f accounts) at (total_at-le f accounts i (blank false) l)

  pub all_at : (P : Account → Type 0) → All P accounts → P a
  all_at P h = subst P at (h i (blank false) l)

  pub all_changed : (P : Account → Type 0) → All P accounts → P a' → All P (set accounts i a')
  all_changed P h p = All-set P accounts i a' p h

  -- the same, where the others are looked at one by one
  pub all_changed_others : (P : Account → Type 0) → ((k : ℕ) (d : Account) → k < length accounts → (k ≡ i → ⊥) → P (get_or accounts k d)) → P a'
      → All P (set accounts i a')
  all_changed_others P h p k d o =
      elim (cases_eq k i) [
        | inl e ↦ subst P (sym (ap (λ j. get_or (set accounts i a') j d) e ∙ get_or-set_same accounts i a' d l)) p
        | inr q ↦ subst P (sym (get_or-set_other accounts i k a' d q)) (h k d (omega (arith, length-set accounts i a')) q)
      ]

-- the two cases of a number that stands at one place
pub pick : (p q x y : ℕ) → ((p ≡ q) × ((if nat_eq p q then x else y) ≡ x)) ⊎ ((p ≡ q → ⊥) × ((if nat_eq p q then x else y) ≡ y))
pick p q x y = by (nat_eq p q) refl
  where
    by : (b : Bool) → nat_eq p q ≡ b → ((p ≡ q) × ((if b then x else y) ≡ x)) ⊎ ((p ≡ q → ⊥) × ((if b then x else y) ≡ y))
    by true e = inl (eqb-true p q e, refl)
    by false e = inr (eqb-false p q e, refl)

-- the two cases of a number that stands at two places
pub pick_two : (p q o t x y : ℕ) → ((p ≡ q) × (o ≡ t) × ((if nat_eq p q && nat_eq o t then x else y) ≡ x)) ⊎
    (((p ≡ q) × (o ≡ t) → ⊥) × ((if nat_eq p q && nat_eq o t then x else y) ≡ y))
pick_two p q o t x y = by (nat_eq p q) refl (nat_eq o t) refl
  where
    by : (b : Bool) → nat_eq p q ≡ b → (d : Bool) → nat_eq o t ≡ d → ((p ≡ q) × (o ≡ t) × ((if b && d then x else y) ≡ x)) ⊎
        (((p ≡ q) × (o ≡ t) → ⊥) × ((if b && d then x else y) ≡ y))
    by true e true f = inl (eqb-true p q e, eqb-true o t f, refl)
    by true e false f = inr (λ h. eqb-false o t f h.1, refl)
    by false e d f = inr (λ h. eqb-false p q e h.0, refl)

-- what stands at one number, summed over a list
pub total-weight_if : (v y : ℕ) (xs : List ℕ) → total (λ u. weight_if v u y) xs ≡ times v xs * y
total-weight_if v y [] = omega arith
total-weight_if v y (x ∷ xs) =
    let r = total-weight_if v y xs in
    elim (cases_eq v x) [
      | inl e ↦
          let a = weight_if-same v x y e in
          let b = weight_if-same x v 1 (sym e) in
          let d = scaled (weight_if x v 1) (times v xs) in
          let f : weight_if x v 1 * y ≡ 1 * y = ap (λ z. z * y) b in
          omega arith
      | inr q ↦
          let a = weight_if-other v x y q in
          let b = weight_if-other x v 1 (λ e. q (sym e)) in
          let d = scaled (weight_if x v 1) (times v xs) in
          let f : weight_if x v 1 * y ≡ 0 * y = ap (λ z. z * y) b in
          omega arith
    ]
  where
    scaled : (p q : ℕ) → (p + q) * y ≡ p * y + q * y
    scaled p q = omega arith

-- an element stands in its list
pub times_at : (xs : List ℕ) (k d : ℕ) → k < length xs → 0 < times (get_or xs k d) xs
times_at xs k d l =
    let x = get_or xs k d in
    let a = total_at-le (λ u. weight_if u x 1) xs k d l in
    let s = weight_if-same x x 1 refl in
    omega arith

-- a sum that is the smaller at each element, and by one at an element that stands in the list
pub total_strict : (f g : ℕ → ℕ) (xs : List ℕ) (v : ℕ) → ((u : ℕ) → 0 < times u xs → f u ≤ g u) → 0 < times v xs → f v + 1 ≤ g v →
    total f xs + 1 ≤ total g xs
total_strict f g [] v h p q = absurd (omega arith)
total_strict f g (x ∷ xs) v h p q =
    elim (cases_eq x v) [
      | inl e ↦
          let a = total-le f g xs (λ k d l. let t = times_at xs k d l in h (get_or xs k d) (omega arith)) in
          let b : f x + 1 ≤ g x = subst (λ z. f z + 1 ≤ g z) (sym e) q in
          omega arith
      | inr n ↦
          let s = weight_if-other x v 1 n in
          let a = total_strict f g xs v (λ u t. h u (omega arith)) (omega arith) q in
          let b = h x (let s = weight_if-same x x 1 refl in omega arith) in
          omega arith
    ]
