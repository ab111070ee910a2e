-- How often a number stands in a list: after an insertion, after a removal, and in all accounts after a change of one.
use Rattle.std.proofs.Common.{◌≡◌, ℕ, ◌+◌, ◌<◌, ◌≤◌, ◌⊎◌, inl, inr, Bool, true, false, cond, if◌then◌else◌, nat_eq, List, [], ◌∷◌, length}
use Rattle.std.proofs.Common.{length-set, get_or, get_or-set_other, set, All, refl, sym, ap, subst, arith, nat_cmp}
use Rattle.std.specs.BTreeSet.{insert_key}
use Rattle.std.specs.Set.{remove_key}
use Rattle.std.specs.Ordering.{match_ordering}
use Rattle.std.specs.declared.cmp.Ordering.{Ordering}
use Rattle.std.specs.declared.cmp.Ordering.TheVariants.{Less, Equal, Greater}
use Rattle.std.proofs.lemmas.List.Elements.{All-nil, All-head, All-tail, All-cons, All-set}
use Rattle.std.proofs.lemmas.Bool.{eqb-true, eqb-false}
use Rattle.hg_defs.specs.Sums.{total}
use Rattle.hg_defs.proofs.SumLaws.{total-set, weight_if, weight_if-same, weight_if-other, total_at-le}
use Rattle.hg_defs.proofs.SortLaws.{nat_cmp_exact}
use Rattle.cluster_core.specs.declared.account.Account.{Account}
use Rattle.cluster_core.specs.State.{times, blank}
use Rattle.cluster_core.specs.Events.{all_inserted}

-- a key put into a list that hasn't got it
pub times-insert_key : (xs : List ℕ) (v u : ℕ) → times v xs ≡ 0 → times u (insert_key nat_cmp xs v) ≡ times u xs + weight_if v u 1
times-insert_key [] v u h = omega arith
times-insert_key (x ∷ xs) v u h = by (nat_cmp v x) refl (times-insert_key xs v u)
  where
    by : (o : Ordering) → nat_cmp v x ≡ o → (times v xs ≡ 0 → times u (insert_key nat_cmp xs v) ≡ times u xs + weight_if v u 1) →
        times u (match_ordering o (v ∷ x ∷ xs) (x ∷ xs) (x ∷ insert_key nat_cmp xs v)) ≡ times u (x ∷ xs) + weight_if v u 1
    by Less e r = omega arith
    by Equal e r =
        let s = weight_if-same x v 1 (sym (nat_cmp_exact v x e)) in
        absurd (omega arith)
    by Greater e r = let q = r (omega arith) in omega arith

-- a key put into a list stands there, and no other is lost
pub times-insert_key-le : (xs : List ℕ) (v u : ℕ) → times u xs ≤ times u (insert_key nat_cmp xs v)
times-insert_key-le [] v u = omega arith
times-insert_key-le (x ∷ xs) v u = by (nat_cmp v x) (times-insert_key-le xs v u)
  where
    by : (o : Ordering) → times u xs ≤ times u (insert_key nat_cmp xs v) → times u (x ∷ xs) ≤ times u
        (match_ordering o (v ∷ x ∷ xs) (x ∷ xs) (x ∷ insert_key nat_cmp xs v))
    by Less r = omega arith
    by Equal r = omega arith
    by Greater r = omega arith

pub times-insert_key-has : (xs : List ℕ) (v : ℕ) → 0 < times v (insert_key nat_cmp xs v)
times-insert_key-has [] v = let s = weight_if-same v v 1 refl in omega arith
times-insert_key-has (x ∷ xs) v = by (nat_cmp v x) refl (times-insert_key-has xs v)
  where
    by : (o : Ordering) → nat_cmp v x ≡ o → 0 < times v (insert_key nat_cmp xs v) →
        0 < times v (match_ordering o (v ∷ x ∷ xs) (x ∷ xs) (x ∷ insert_key nat_cmp xs v))
    by Less e r = let s = weight_if-same v v 1 refl in omega arith
    by Equal e r = let s = weight_if-same x v 1 (sym (nat_cmp_exact v x e)) in omega arith
    by Greater e r = omega arith

-- a key taken out of a list
pub times-remove_key : (xs : List ℕ) (v u : ℕ) → 0 < times v xs → times u (remove_key (nat_eq v) xs) + weight_if v u 1 ≡ times u xs
times-remove_key [] v u h = absurd (omega arith)
times-remove_key (x ∷ xs) v u h = by (nat_eq v x) refl (times-remove_key xs v u)
  where
    by : (b : Bool) → nat_eq v x ≡ b → (0 < times v xs → times u (remove_key (nat_eq v) xs) + weight_if v u 1 ≡ times u xs) →
        times u (cond b xs (x ∷ remove_key (nat_eq v) xs)) + weight_if v u 1 ≡ times u (x ∷ xs)
    by true e r = subst (λ z. times u xs + weight_if z u 1 ≡ times u (x ∷ xs)) (sym (eqb-true v x e)) (omega arith)
    by false e r =
        let s = weight_if-other x v 1 (λ q. eqb-false v x e (sym q)) in
        let q = r (omega arith) in
        omega arith

-- all keys of a list that shares none
pub times-all_inserted : (xs ys : List ℕ) → ((u : ℕ) → times u xs + times u ys ≤ 1) → (u : ℕ) → times u (all_inserted xs ys) ≡ times u xs + times u ys
times-all_inserted xs [] h u = omega arith
times-all_inserted xs (y ∷ ys) h u =
    let here = weight_if-same y y 1 refl in
    let bound = h y in
    let none : times y xs ≡ 0 = omega arith in
    let e = times-insert_key xs y u none in
    let r = times-all_inserted (insert_key nat_cmp xs y) ys (λ w. let f = times-insert_key xs y w none in let g = h w in omega arith) u in
    omega arith

module _ (P : ℕ → Type 0) where
  pub All-insert_key : (xs : List ℕ) (v : ℕ) → All P xs → P v → All P (insert_key nat_cmp xs v)
  All-insert_key [] v h p = All-cons P v [] p (All-nil P)
  All-insert_key (x ∷ xs) v h p = by (nat_cmp v x) (All-insert_key xs v (All-tail P x xs h) p)
    where
      by : (o : Ordering) → All P (insert_key nat_cmp xs v) → All P (match_ordering o (v ∷ x ∷ xs) (x ∷ xs) (x ∷ insert_key nat_cmp xs v))
      by Less r = All-cons P v (x ∷ xs) p h
      by Equal r = h
      by Greater r = All-cons P x (insert_key nat_cmp xs v) (All-head P x xs h) r

  pub All-remove_key : (xs : List ℕ) (v : ℕ) → All P xs → All P (remove_key (nat_eq v) xs)
  All-remove_key [] v h = All-nil P
  All-remove_key (x ∷ xs) v h = by (nat_eq v x) (All-remove_key xs v (All-tail P x xs h))
    where
      by : (b : Bool) → All P (remove_key (nat_eq v) xs) → All P (cond b xs (x ∷ remove_key (nat_eq v) xs))
      by true r = All-tail P x xs h
      by false r = All-cons P x (remove_key (nat_eq v) xs) (All-head P x xs h) r

  pub All-all_inserted : (xs ys : List ℕ) → All P xs → All P ys → All P (all_inserted xs ys)
  All-all_inserted xs [] h k = h
  All-all_inserted xs (y ∷ ys) h k = All-all_inserted (insert_key nat_cmp xs y) ys (All-insert_key xs y h (All-head P y ys k)) (All-tail P y ys k)

  -- a number that stands in a list has what all have
  pub All_at_times : (xs : List ℕ) (v : ℕ) → All P xs → 0 < times v xs → P v
  All_at_times [] v h k = absurd (omega arith)
  All_at_times (x ∷ xs) v h k = by (nat_eq x v) refl (All_at_times xs v (All-tail P x xs h))
    where
      by : (b : Bool) → nat_eq x v ≡ b → (0 < times v xs → P v) → P v
      by true e r = subst P (eqb-true x v e) (All-head P x xs h)
      by false e r = let s = weight_if-other x v 1 (eqb-false x v e) in r (omega arith)

-- one account changed
module _ (accounts : List Account) (i : ℕ) (a a' : Account) (l : i < length accounts) (at : get_or accounts i (blank false) ≡ a) where
  pub total_changed : (f : Account → ℕ) → total f (set accounts i a') + f a ≡ total f accounts + f a'
  total_changed f =
      let P : Account → Type 0 = λ z. total f (set accounts i a') + f z ≡ total f accounts + f a' in
      subst P at (total-set f accounts i a' (blank false) l)

  pub total_unchanged : (f : Account → ℕ) → f a' ≡ f a → total f (set accounts i a') ≡ total f accounts
  total_unchanged f e = let c = total_changed f in omega arith

  pub total_at : (f : Account → ℕ) → f a ≤ total f accounts
  total_at f = subst (λ z. f z ≤ total f accounts) at (total_at-le f accounts i (blank false) l)

  pub all_at : (P : Account → Type 0) → All P accounts → P a
  all_at P h = subst P at (h i (blank false) l)

  pub all_changed : (P : Account → Type 0) → All P accounts → P a' → All P (set accounts i a')
  all_changed P h p = All-set P accounts i a' p h

-- the two cases of a number that stands at one place
pub pick : (p q x y : ℕ) → ((p ≡ q) × ((if nat_eq p q then x else y) ≡ x)) ⊎ ((p ≡ q → ⊥) × ((if nat_eq p q then x else y) ≡ y))
pick p q x y = by (nat_eq p q) refl
  where
    by : (b : Bool) → nat_eq p q ≡ b → ((p ≡ q) × ((if b then x else y) ≡ x)) ⊎ ((p ≡ q → ⊥) × ((if b then x else y) ≡ y))
    by true e = inl (eqb-true p q e, refl)
    by false e = inr (eqb-false p q e, refl)

-- two different places of a list are within the sum
pub total_two : (f : Account → ℕ) (accounts : List Account) (i k : ℕ) → f (blank false) ≡ 0 → i < length accounts → k < length accounts → (k ≡ i → ⊥) →
    f (get_or accounts i (blank false)) + f (get_or accounts k (blank false)) ≤ total f accounts
total_two f accounts i k z li lk q =
    let e = total-set f accounts i (blank false) (blank false) li in
    let o = get_or-set_other accounts i k (blank false) (blank false) q in
    let b = total_at-le f (set accounts i (blank false)) k (blank false) (omega (arith, length-set accounts i (blank false))) in
    let c : f (get_or (set accounts i (blank false)) k (blank false)) ≡ f (get_or accounts k (blank false)) = ap f o in
    omega arith
