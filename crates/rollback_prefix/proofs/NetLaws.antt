-- Laws of the nets that moves touch: found move by move, and what the other nets cost.
use Rattle.std.proofs.Common.{◌≡◌, ◌≢◌, ℕ, zero, suc, ◌+◌, ◌<◌, ◌⊎◌, inl, inr, Bool, true, false, List, [], ◌∷◌, ◌++◌, length, get_or, set, replicate, All}
use Rattle.std.proofs.Common.{AllPairs, Contains, refl, sym, ap, ◌∙◌, subst, arith, length-set, get_or-set_same, get_or-set_other, true≢false}
use Rattle.std.proofs.lemmas.List.{get_or_default, length-replicate}
use Rattle.std.proofs.lemmas.List.Elements.{All-nil, All-push, Contains-get_or, Contains-push, Contains-push_cases, Contains-append_left}
use Rattle.std.proofs.lemmas.List.Quantifiers.{all_pairs_push}
use Rattle.std.proofs.lemmas.Bool.{cases_eq}
use Rattle.hg_defs.specs.declared.moves.Move.{Move}
use Rattle.hg_defs.specs.Hypergraph.{Hyper}
use Rattle.hg_defs.specs.Incidence.{nets_of}
use Rattle.rollback_prefix.specs.Gains.{IsInRun}

-- the nets of a run of numbers that were seen, each once: mark j is that of net first + j
pub record AreSeen (first end : ℕ) (seen : List Bool) (nets : List ℕ) : Type 0 where
  pub size : first + length seen ≡ end
  pub once : AllPairs (λ a b. a ≢ b) nets
  pub each : All (IsInRun first end) nets
  pub listed : (j : ℕ) → get_or seen j false ≡ true → Contains nets (first + j)
  pub marked : (j : ℕ) → Contains nets (first + j) → get_or seen j false ≡ true

get_or-all_false : (n j : ℕ) → get_or (replicate n false) j false ≡ false
get_or-all_false zero j = refl
get_or-all_false (suc n) zero = refl
get_or-all_false (suc n) (suc j) = get_or-all_false n j

pub seen_none : (first end n : ℕ) → first + n ≡ end → AreSeen first end (replicate n false) []
seen_none first end n long = record {
  size = (let e = length-replicate n false in omega arith);
  once = λ i j d l n. absurd (omega arith);
  each = All-nil (IsInRun first end);
  listed = λ j t. absurd (true≢false (sym t ∙ get_or-all_false n j));
  marked = λ j c. absurd (let l = c.1 in omega arith);
}

pub seen_more : (first end : ℕ) (seen : List Bool) (nets : List ℕ) (i e : ℕ) → first + i ≡ e → i < length seen → get_or seen i false ≡ false →
    AreSeen first end seen nets → AreSeen first end (set seen i true) (nets ++ e ∷ [])
seen_more first end seen nets i e is low fresh s = record {
  size = (let n = s.size in let m = length-set seen i true in omega arith);
  once = all_pairs_push (λ a b. a ≢ b) nets e s.once (λ k d l. new (get_or nets k d) (Contains-get_or nets k d l));
  each = All-push (IsInRun first end) nets e s.each (let n = s.size in (omega arith, omega arith));
  listed = λ j t. listed j t (cases_eq j i);
  marked = λ j c. marked j (Contains-push_cases nets e (first + j) c) (cases_eq j i);
}
  where
    new : (x : ℕ) → Contains nets x → x ≢ e
    new x c q = true≢false (sym (s.marked i (subst (Contains nets) (q ∙ sym is) c)) ∙ fresh)

    listed : (j : ℕ) → get_or (set seen i true) j false ≡ true → (j ≡ i) ⊎ (j ≡ i → ⊥) → Contains (nets ++ e ∷ []) (first + j)
    listed j t (inl q) = subst (Contains (nets ++ e ∷ [])) (omega arith) (Contains-push nets e)
    listed j t (inr q) = Contains-append_left nets (e ∷ []) (first + j) (s.listed j (sym (get_or-set_other seen i j true false q) ∙ t))

    marked : (j : ℕ) → Contains nets (first + j) ⊎ (e ≡ first + j) → (j ≡ i) ⊎ (j ≡ i → ⊥) → get_or (set seen i true) j false ≡ true
    marked j c (inl q) = ap (λ y. get_or (set seen i true) y false) q ∙ get_or-set_same seen i true false low
    marked j (inl c) (inr q) = get_or-set_other seen i j true false q ∙ s.marked j c
    marked j (inr f) (inr q) = absurd (q (omega arith))

-- what holds of what stands at each place holds of what a list contains
pub contained_by_places : (P : ℕ → Type 0) (ys : List ℕ) → ((j : ℕ) → j < length ys → P (get_or ys j 0)) → (x : ℕ) → Contains ys x → P x
contained_by_places P ys h x c = subst P (get_or_default ys c.0 0 x c.1 ∙ c.2) (h c.0 c.1)

-- what holds of the nets of the moves so far and of one more
pub all_more : (h : Hyper) (moves : List Move) (P : ℕ → Type 0) (i : ℕ) →
    ((j : ℕ) (d : Move) (e : ℕ) → j < i → Contains (nets_of h (get_or moves j d).vertex) e → P e)
    → ((d : Move) (e : ℕ) → Contains (nets_of h (get_or moves i d).vertex) e → P e)
    → (j : ℕ) (d : Move) (e : ℕ) → j < i + 1 → Contains (nets_of h (get_or moves j d).vertex) e → P e
all_more h moves P i before here j d e l c = by (cases_eq j i)
  where
    by : (j ≡ i) ⊎ (j ≡ i → ⊥) → P e
    by (inl q) = here d e (subst (λ n. Contains (nets_of h (get_or moves n d).vertex) e) q c)
    by (inr q) = before j d e (omega arith) c
