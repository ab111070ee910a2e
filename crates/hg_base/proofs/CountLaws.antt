-- Laws of distinct entries while a list grows, and bounds on the cost.
use Rattle.std.proofs.Common.{◌≡◌, ℕ, zero, suc, ◌+◌, ◌*◌, ◌^◌, ◌<◌, ◌≤◌, ◌⊎◌, inl, inr, Bool, true, false, not, cond, ◌||◌, if◌then◌else◌}
use Rattle.std.proofs.Common.{nat_eq, List, [], ◌∷◌, ◌++◌, length, take, get_or, Contains, refl, ap, ◌∙◌, subst, arith}
use Rattle.std.specs.Set.{is_member, unique_keys, distinct_count}
use Rattle.std.proofs.lemmas.List.Elements.{Contains-append_cases, Contains-append_left, Contains-push}
use Rattle.std.proofs.Math.Nat.{mul-le-mul_left}
use Rattle.hg_defs.specs.declared.objective.Objective.{Objective}
use Rattle.hg_defs.specs.declared.objective.Objective.TheVariants.{Connectivity, CutNet, ExternalDegree}
use Rattle.hg_defs.specs.Sums.{total}
use Rattle.hg_defs.specs.Hypergraph.{Net, Hyper, net_count, net_of, IsWithinLimits}
use Rattle.hg_defs.specs.Cost.{cost, price, net_cost, connectivity}
use Rattle.hg_defs.proofs.SumLaws.{total-le, total_more-le, total-take_more}
use Rattle.hg_defs.proofs.SortLaws.{Contains_head, Contains_later, Contains-cons_cases, Contains-nil}
use Rattle.hg_defs.proofs.DistinctLaws.{distinct_count-same, connectivity-le}

-- whether a number stands in a list grown by one
pub is_member_push : (xs : List ℕ) (x b : ℕ) → is_member nat_eq (xs ++ x ∷ []) b ≡ (nat_eq b x || is_member nat_eq xs b)
is_member_push [] x b = refl
is_member_push (y ∷ xs) x b = ap (λ t. nat_eq b y || t) (is_member_push xs x b) ∙ turned (nat_eq b y) (nat_eq b x) (is_member nat_eq xs b)
  where
    turned : (r s t : Bool) → (r || (s || t)) ≡ (s || (r || t))
    turned true true t = refl
    turned true false t = refl
    turned false s t = refl

-- how many entries differ in it
pub distinct_push : (xs : List ℕ) (x : ℕ) → distinct_count nat_eq (xs ++ x ∷ []) ≡ distinct_count nat_eq xs + (if not (is_member nat_eq xs x) then 1 else 0)
distinct_push xs x = distinct_count-same (xs ++ x ∷ []) (x ∷ xs) to from ∙ by (is_member nat_eq xs x)
  where
    to : (q : ℕ) → Contains (xs ++ x ∷ []) q → Contains (x ∷ xs) q
    to q h = side (Contains-append_cases xs (x ∷ []) q h)
      where
        side : Contains xs q ⊎ Contains (x ∷ []) q → Contains (x ∷ xs) q
        side (inl c) = Contains_later x xs q c
        side (inr c) = one (Contains-cons_cases x [] q c)
          where
            one : (x ≡ q) ⊎ Contains [] q → Contains (x ∷ xs) q
            one (inl e) = subst (λ z. Contains (x ∷ xs) z) e (Contains_head x xs)
            one (inr d) = absurd (Contains-nil q d)

    from : (q : ℕ) → Contains (x ∷ xs) q → Contains (xs ++ x ∷ []) q
    from q h = side (Contains-cons_cases x xs q h)
      where
        side : (x ≡ q) ⊎ Contains xs q → Contains (xs ++ x ∷ []) q
        side (inl e) = subst (λ z. Contains (xs ++ x ∷ []) z) e (Contains-push xs x)
        side (inr c) = Contains-append_left xs (x ∷ []) q c

    by : (t : Bool) → length (cond t (unique_keys nat_eq xs) (x ∷ unique_keys nat_eq xs)) ≡ length (unique_keys nat_eq xs) + (if not t then 1 else 0)
    by true = omega arith
    by false = omega arith

-- a net pays at most for each of its pins
pub price-le : (o : Objective) (n : ℕ) → price o n ≤ n
price-le o zero = omega arith
price-le o (suc zero) = omega arith
price-le Connectivity (suc (suc n)) = omega arith
price-le CutNet (suc (suc n)) = omega arith
price-le ExternalDegree (suc (suc n)) = omega arith

pub net_cost-le : (o : Objective) (p : List ℕ) (e : Net) → net_cost o p e ≤ e.weight * length e.pins
net_cost-le o p e =
    let a = price-le o (connectivity p e.pins) in
    let b = connectivity-le p e.pins in
    let c : price o (connectivity p e.pins) ≤ length e.pins = omega arith in
    mul-le-mul_left e.weight c

-- the nets so far and one more cost little enough for 64 bits
pub cost_so_far-lt : (h : Hyper) (p : List ℕ) (e : ℕ) → IsWithinLimits h → e < net_count h → total (net_cost h.objective p) (take e h.nets) + net_cost
    h.objective p (net_of h e) < 2 ^ 57
cost_so_far-lt h p e bounds inside =
    let a = total_more-le (net_cost h.objective p) h.nets e (record { weight = 0; pins = [] }) inside in
    let b = total-le (net_cost h.objective p) (λ x. x.weight * length x.pins) h.nets (λ k d l. net_cost-le h.objective p (get_or h.nets k d)) in
    let c = bounds.pin_weight in
    omega arith

pub cost_more : (h : Hyper) (p : List ℕ) (e : ℕ) → e < net_count h → total (net_cost h.objective p) (take (e + 1) h.nets) ≡ total (net_cost h.objective p)
    (take e h.nets) + net_cost h.objective p (net_of h e)
cost_more h p e inside = total-take_more (net_cost h.objective p) h.nets e (record { weight = 0; pins = [] }) inside

pub cost-lt : (h : Hyper) (p : List ℕ) → IsWithinLimits h → cost h p < 2 ^ 57
cost-lt h p bounds =
    let b = total-le (net_cost h.objective p) (λ x. x.weight * length x.pins) h.nets (λ k d l. net_cost-le h.objective p (get_or h.nets k d)) in
    let c = bounds.pin_weight in
    omega arith
