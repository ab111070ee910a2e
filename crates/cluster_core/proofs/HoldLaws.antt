-- A set of numbers as a list in rising order: what it contains, and how its keys are copied.
use Rattle.std.proofs.Common.{◌≡◌, ℕ, Bool, true, false, ◌||◌, List, [], ◌∷◌, ◌++◌, map, nat_eq, nat_lt, refl, sym, ap, ◌∙◌, arith, nat_cmp}
use Rattle.std.specs.List.{list_any}
use Rattle.std.specs.Ordering.{is_eq}
use Rattle.std.specs.Cmp.{unsigned_tied}
use Rattle.std.proofs.lemmas.Bool.{eqb-true, eqb-false, lt-ltb}
use Rattle.hg_defs.proofs.SumLaws.{weight_if-same, weight_if-other}
use Rattle.std.specs.BTreeSet.{insert_key}
use Rattle.cluster_core.specs.State.{times}
use Rattle.cluster_core.specs.Events.{all_inserted}

-- a set has the keys that stand in its list
pub contains_times : (v : ℕ) (xs : List ℕ) → list_any (λ k. is_eq (nat_cmp v k)) xs ≡ nat_lt 0 (times v xs)
contains_times v [] = refl
contains_times v (x ∷ xs) = ap (λ b. b || list_any (λ k. is_eq (nat_cmp v k)) xs) (unsigned_tied v x) ∙ by (nat_eq v x) refl (contains_times v xs)
  where
    by : (b : Bool) → nat_eq v x ≡ b → list_any (λ k. is_eq (nat_cmp v k)) xs ≡ nat_lt 0 (times v xs) → (b || list_any (λ k. is_eq (nat_cmp v k)) xs) ≡
        nat_lt
        0 (times v (x ∷ xs))
    by true e r = let w = weight_if-same x v 1 (sym (eqb-true v x e)) in sym (lt-ltb 0 (times v (x ∷ xs)) (omega arith))
    by false e r =
        let w = weight_if-other x v 1 (λ q. eqb-false v x e (sym q)) in
        let s : times v (x ∷ xs) ≡ times v xs = omega arith in
        r ∙ ap (nat_lt 0) (sym s)

-- one key more to be put into a list
pub all_inserted_push : {A : Type 0} (f : A → ℕ) (xs : List ℕ) (ys : List A) (y : A) → all_inserted xs (map f (ys ++ y ∷ [])) ≡ insert_key nat_cmp
    (all_inserted xs (map f ys)) (f y)
all_inserted_push f xs [] y = refl
all_inserted_push f xs (z ∷ ys) y = all_inserted_push f (insert_key nat_cmp xs (f z)) ys y
