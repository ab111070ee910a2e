-- What an assignment of vertices to two blocks changes: nothing but what the nets pay for touching both.
use Rattle.std.proofs.Common.{◌≡◌, ◌≢◌, ◌⊎◌, inl, inr, ℕ, zero, suc, ◌+◌, ◌*◌, ◌<◌, Bool, true, false, ◌&&◌, ◌||◌, not, nat_eq, nat_lt}
use Rattle.std.proofs.Common.{if◌then◌else◌, List, [], ◌∷◌, All, Contains, refl, sym, ap, ◌∙◌, subst, arith}
use Rattle.std.specs.List.{list_any}
use Rattle.std.proofs.lemmas.Bool.{cases_eq, eqb-false, eq-eqb, ne_eqb, lt-ltb}
use Rattle.std.proofs.lemmas.Int.{ints}
use Rattle.std.proofs.lemmas.List.Elements.{All-nil, All-cons, All-head, All-tail, All-weaker, All-contains}
use Rattle.hg_defs.specs.declared.objective.Objective.{Objective}
use Rattle.hg_defs.specs.declared.objective.Objective.TheVariants.{Connectivity, CutNet, ExternalDegree}
use Rattle.hg_defs.specs.Sums.{total, sum_below}
use Rattle.hg_defs.specs.Hypergraph.{Net, Hyper, IsHypergraph, vertex_count}
use Rattle.hg_defs.specs.Partition.{IsPartition, block_of}
use Rattle.hg_defs.specs.Cost.{cost, net_cost, price, connectivity}
use Rattle.hg_defs.specs.Pins.{pins_in, present}
use Rattle.hg_defs.proofs.SumLaws.{total-same, total-add, total-filter, sum_below-change, sum_below-same, sum_below-zero, sum_below_at-le}
use Rattle.hg_defs.proofs.SortLaws.{Contains_head, Contains_later}
use Rattle.hg_defs.proofs.DistinctLaws.{connectivity-sum}
use Rattle.round_log.specs.Rounds.{has_pin, leaves, pair_price, pair_cost, IsAssignment}
use Rattle.flow_pair.specs.PairNetwork.{AreOfPair}
use Rattle.flow_pair.specs.Laws.{AssignmentsDifferByPairCost}

-- ---- an assignment, seen vertex by vertex

-- a number is in a list, or differs from all of it
pub among : (v : ℕ) (vs : List ℕ) → Contains vs v ⊎ All (λ u. u ≢ v) vs
among v [] = inr (All-nil (λ u. u ≢ v))
among v (u ∷ vs) = by (cases_eq u v) (among v vs)
  where
    by : (u ≡ v) ⊎ (u ≢ v) → Contains vs v ⊎ All (λ u. u ≢ v) vs → Contains (u ∷ vs) v ⊎ All (λ u. u ≢ v) (u ∷ vs)
    by (inl e) r = inl (subst (Contains (u ∷ vs)) e (Contains_head u vs))
    by (inr n) (inl c) = inl (Contains_later u vs v c)
    by (inr n) (inr a) = inr (All-cons (λ u. u ≢ v) u vs n a)

-- whether a vertex is in one of two blocks
abbrev pub in_pair : List ℕ → ℕ → ℕ → ℕ → Bool
in_pair p a b v = nat_eq (block_of p v) a || nat_eq (block_of p v) b

-- the same vertices are in the two blocks, and each other block has the same vertices
pub record IsRearranged (p q : List ℕ) (a b : ℕ) : Type 0 where
  pub pair : (v : ℕ) → in_pair q a b v ≡ in_pair p a b v
  pub others : (v c : ℕ) → c ≢ a → c ≢ b → nat_eq (block_of q v) c ≡ nat_eq (block_of p v) c

in_pair-of : (p : List ℕ) (a b v : ℕ) → (block_of p v ≡ a) ⊎ (block_of p v ≡ b) → in_pair p a b v ≡ true
in_pair-of p a b v (inl e) = ap (λ t. t || nat_eq (block_of p v) b) (eq-eqb (block_of p v) a e)
in_pair-of p a b v (inr e) = by (nat_eq (block_of p v) a) (eq-eqb (block_of p v) b e)
  where
    by : (t : Bool) → nat_eq (block_of p v) b ≡ true → (t || nat_eq (block_of p v) b) ≡ true
    by true f = refl
    by false f = f

other_of : (p : List ℕ) (a b c v : ℕ) → (block_of p v ≡ a) ⊎ (block_of p v ≡ b) → c ≢ a → c ≢ b → nat_eq (block_of p v) c ≡ false
other_of p a b c v (inl e) x y = ne_eqb (block_of p v) c (λ z. x (sym z ∙ e))
other_of p a b c v (inr e) x y = ne_eqb (block_of p v) c (λ z. y (sym z ∙ e))

pub rearranged : (p q region : List ℕ) (a b : ℕ) → AreOfPair p a b region → IsAssignment p a b region q → IsRearranged p q a b
rearranged p q region a b inside s = record {
  pair = λ v. by_pair v (among v region);
  others = λ v c x y. by_other v c x y (among v region);
}
  where
    before : (v : ℕ) → Contains region v → (block_of p v ≡ a) ⊎ (block_of p v ≡ b)
    before v c = All-contains (λ u. (block_of p u ≡ a) ⊎ (block_of p u ≡ b)) region v inside c

    after : (v : ℕ) → Contains region v → (block_of q v ≡ a) ⊎ (block_of q v ≡ b)
    after v c = All-contains (λ u. (block_of q u ≡ a) ⊎ (block_of q u ≡ b)) region v s.inside c

    by_pair : (v : ℕ) → Contains region v ⊎ All (λ u. u ≢ v) region → in_pair q a b v ≡ in_pair p a b v
    by_pair v (inl c) = in_pair-of q a b v (after v c) ∙ sym (in_pair-of p a b v (before v c))
    by_pair v (inr n) = ap (λ x. nat_eq x a || nat_eq x b) (s.outside v n)

    by_other : (v c : ℕ) → c ≢ a → c ≢ b → Contains region v ⊎ All (λ u. u ≢ v) region → nat_eq (block_of q v) c ≡ nat_eq (block_of p v) c
    by_other v c x y (inl i) = other_of q a b c v (after v i) x y ∙ sym (other_of p a b c v (before v i) x y)
    by_other v c x y (inr n) = ap (λ z. nat_eq z c) (s.outside v n)

-- ---- tests over pins

pub any_same : {A : Type 0} (f g : A → Bool) (xs : List A) → ((x : A) → f x ≡ g x) → list_any f xs ≡ list_any g xs
any_same f g [] h = refl
any_same f g (x ∷ xs) h = ap (λ t. t || list_any f xs) (h x) ∙ ap (λ t. g x || t) (any_same f g xs h)

or_true : (s t : Bool) → (s || t) ≡ true → (s ≡ true) ⊎ (t ≡ true)
or_true true t e = inl refl
or_true false t e = inr e

or_false : (s t : Bool) → (s || t) ≡ false → (s ≡ false) × (t ≡ false)
or_false true t e = absurd (cc)
or_false false t e = (refl, e)

pub false_or_true : (t : Bool) → (t ≡ false) ⊎ (t ≡ true)
false_or_true false = inl refl
false_or_true true = inr refl

-- a net has a pin in a block where it has more than none
pub has_pin-count : (p pins : List ℕ) (b : ℕ) → list_any (λ v. nat_eq (block_of p v) b) pins ≡ nat_lt 0 (pins_in p pins b)
has_pin-count p [] b = refl
has_pin-count p (v ∷ pins) b = by (nat_eq (block_of p v) b) (has_pin-count p pins b)
  where
    positive : (n : ℕ) → nat_lt 0 (1 + n) ≡ true
    positive n = lt-ltb 0 (1 + n) (omega arith)

    by : (t : Bool) → list_any (λ v. nat_eq (block_of p v) b) pins ≡ nat_lt 0 (pins_in p pins b)
        → (t || list_any (λ v. nat_eq (block_of p v) b) pins) ≡ nat_lt 0 ((if t then 1 else 0) + pins_in p pins b)
    by true e = sym (positive (pins_in p pins b))
    by false e = e ∙ ap (nat_lt 0) (let z : pins_in p pins b ≡ 0 + pins_in p pins b = omega arith in z)

abbrev pub one_if : Bool → ℕ
one_if t = if t then 1 else 0

-- ---- what a net pays

-- one block more, of a pair, costs what the net pays for touching both
price_step : (o : Objective) (L : Bool) (D w : ℕ) → (L ≡ false → D ≡ 0) → (L ≡ true → 0 < D) → w * price o (D + 2) ≡ w * price o (D + 1) + pair_price o L w
price_step o L D w none some = ap (λ n. w * price o n) two ∙ by o L D none some ∙ ap (λ n. w * price o n + pair_price o L w) (sym one)
  where
    two : D + 2 ≡ suc (suc D)
    two = omega arith

    one : D + 1 ≡ suc D
    one = omega arith

    by : (o : Objective) (L : Bool) (D : ℕ) → (L ≡ false → D ≡ 0) → (L ≡ true → 0 < D) → w * price o (suc (suc D)) ≡ w * price o (suc D) + pair_price o L w
    by Connectivity L zero n s = omega arith
    by Connectivity L (suc d) n s = omega arith
    by CutNet false zero n s = omega arith
    by CutNet true zero n s = absurd (let z = s refl in omega arith)
    by CutNet false (suc d) n s = absurd (let z = n refl in omega arith)
    by CutNet true (suc d) n s = omega arith
    by ExternalDegree false zero n s = omega arith
    by ExternalDegree true zero n s = absurd (let z = s refl in omega arith)
    by ExternalDegree false (suc d) n s = absurd (let z = n refl in omega arith)
    by ExternalDegree true (suc d) n s = omega arith

different : true ≡ false → ⊥
different e = cc

-- two ways to touch the blocks of a pair
net_pays : (o : Objective) (L : Bool) (D w : ℕ) (A B A' B' : Bool) → (L ≡ false → D ≡ 0) → (L ≡ true → 0 < D) → (A || B) ≡ (A' || B')
    → w * price o (D + (one_if A + one_if B)) + (if A' && B' then pair_price o L w else 0) ≡ w * price o (D + (one_if A' + one_if B')) +
    (if A && B then pair_price o L w else 0)
net_pays o L D w A B A' B' none some e = by A B A' B' e
  where
    step : w * price o (D + 2) ≡ w * price o (D + 1) + pair_price o L w
    step = price_step o L D w none some

    by : (A B A' B' : Bool) → (A || B) ≡ (A' || B')
        → w * price o (D + (one_if A + one_if B)) + (if A' && B' then pair_price o L w else 0) ≡ w * price o (D + (one_if A' + one_if B')) +
        (if A && B then pair_price o L w else 0)
    by true true true true e = refl
    by true true true false e = let s = step in omega arith
    by true true false true e = let s = step in omega arith
    by true true false false e = absurd (different e)
    by true false true true e = let s = step in omega arith
    by true false true false e = refl
    by true false false true e = refl
    by true false false false e = absurd (different e)
    by false true true true e = let s = step in omega arith
    by false true true false e = refl
    by false true false true e = refl
    by false true false false e = absurd (different e)
    by false false true B' e = absurd (different (sym e))
    by false false false true e = absurd (different (sym e))
    by false false false false e = refl

-- ---- the blocks that a net touches

-- a sum without two of its terms
abbrev others_of : (ℕ → ℕ) → ℕ → ℕ → ℕ → ℕ
others_of f a b c = if nat_eq c b then 0 else (if nat_eq c a then 0 else f c)

split_two : (f : ℕ → ℕ) (k a b : ℕ) → a < k → b < k → a ≢ b → sum_below f k ≡ sum_below (others_of f a b) k + (f a + f b)
split_two f k a b la lb apart =
    let g : ℕ → ℕ = λ c. if nat_eq c a then 0 else f c in
    let h : ℕ → ℕ = others_of f a b in
    let first : sum_below f k + g a ≡ sum_below g k + f a = sum_below-change f g k a la (λ c l n. sym (ap (λ t. if t then 0 else f c) (ne_eqb c a n))) in
    let second : sum_below g k + h b ≡ sum_below h k + g b = sum_below-change g h k b lb (λ c l n. sym (ap (λ t. if t then 0 else g c) (ne_eqb c b n))) in
    let ga : g a ≡ 0 = ap (λ t. if t then 0 else f a) (eq-eqb a a refl) in
    let hb : h b ≡ 0 = ap (λ t. if t then 0 else g b) (eq-eqb b b refl) in
    let gb : g b ≡ f b = ap (λ t. if t then 0 else f b) (ne_eqb b a (λ e. apart (sym e))) in
    omega arith

-- the tests of a net, before and after
pub same_leaves : (p q : List ℕ) (a b : ℕ) (e : Net) → IsRearranged p q a b → leaves q a b e ≡ leaves p a b e
same_leaves p q a b e r =
    any_same (λ v. not (nat_eq (block_of q v) a) && not (nat_eq (block_of q v) b)) (λ v. not (nat_eq (block_of p v) a) && not (nat_eq (block_of p v) b))
    e.pins
    (λ v. neither (nat_eq (block_of q v) a) (nat_eq (block_of q v) b) ∙ ap not (r.pair v) ∙
    sym (neither (nat_eq (block_of p v) a) (nat_eq (block_of p v) b)))
  where
    neither : (s t : Bool) → (not s && not t) ≡ not (s || t)
    neither true t = refl
    neither false t = refl

-- what all nets pay, net by net
pub pair_total : (h : Hyper) (q : List ℕ) (a b : ℕ) → pair_cost h q a b ≡ total (λ e. if has_pin q e a && has_pin q e b then pair_price h.objective
    (leaves q a b e) e.weight else 0) h.nets
pair_total h q a b = total-filter (λ e. pair_price h.objective (leaves q a b e) e.weight) (λ e. has_pin q e a && has_pin q e b) h.nets

module _ (k a b : ℕ) (first : a < k) (second : b < k) (apart : a ≢ b) where
  abbrev outer_blocks : List ℕ → List ℕ → ℕ
  outer_blocks q pins = sum_below (others_of (λ c. present (pins_in q pins c)) a b) k

  touches : (q pins : List ℕ) (c : ℕ) → present (pins_in q pins c) ≡ one_if (list_any (λ v. nat_eq (block_of q v) c) pins)
  touches q pins c = ap one_if (sym (has_pin-count q pins c))

  connectivity-split : (q pins : List ℕ) → All (λ v. block_of q v < k) pins
      → connectivity q pins ≡ outer_blocks q pins + (one_if (list_any (λ v. nat_eq (block_of q v) a) pins) + one_if
      (list_any (λ v. nat_eq (block_of q v) b) pins))
  connectivity-split q pins below =
      let sum = connectivity-sum k q pins below in
      let two = split_two (λ c. present (pins_in q pins c)) k a b first second apart in
      let x = touches q pins a in
      let y = touches q pins b in
      omega arith

  -- the other blocks are the same
  pins_in-same : (p q pins : List ℕ) (c : ℕ) → IsRearranged p q a b → c ≢ a → c ≢ b → pins_in q pins c ≡ pins_in p pins c
  pins_in-same p q pins c r x y = total-same (λ v. if nat_eq (block_of q v) c then 1 else 0) (λ v. if nat_eq (block_of p v) c then 1 else 0) pins
      (λ i d l. ap one_if (r.others _ c x y))

  outer-same : (p q pins : List ℕ) → IsRearranged p q a b → outer_blocks q pins ≡ outer_blocks p pins
  outer-same p q pins r = sum_below-same (others_of (λ c. present (pins_in q pins c)) a b) (others_of (λ c. present (pins_in p pins c)) a b) k
      (λ c l. by c (cases_eq c b) (cases_eq c a))
    where
      by : (c : ℕ) → (c ≡ b) ⊎ (c ≢ b) → (c ≡ a) ⊎ (c ≢ a) → others_of (λ d. present (pins_in q pins d)) a b c ≡ others_of
          (λ d. present (pins_in p pins d)) a
          b c
      by c (inl e) s = ap (λ t. if t then 0 else (if nat_eq c a then 0 else present (pins_in q pins c))) (eq-eqb c b e) ∙
          sym (ap (λ t. if t then 0 else (if nat_eq c a then 0 else present (pins_in p pins c))) (eq-eqb c b e))
      by c (inr n) (inl e) = ap (λ t. if nat_eq c b then 0 else (if t then 0 else present (pins_in q pins c))) (eq-eqb c a e) ∙
          sym (ap (λ t. if nat_eq c b then 0 else (if t then 0 else present (pins_in p pins c))) (eq-eqb c a e))
      by c (inr n) (inr m) = ap (λ x. if nat_eq c b then 0 else (if nat_eq c a then 0 else present x)) (pins_in-same p q pins c r m n)

  -- a net leaves the pair where it touches another block
  leaves-none : (p : List ℕ) (e : Net) → leaves p a b e ≡ false → outer_blocks p e.pins ≡ 0
  leaves-none p e none = sum_below-zero (others_of (λ c. present (pins_in p e.pins c)) a b) k (λ c l. by c (cases_eq c b) (cases_eq c a))
    where
      absent : (c : ℕ) → c ≢ a → c ≢ b → (pins : List ℕ) → list_any (λ v. not (nat_eq (block_of p v) a) && not (nat_eq (block_of p v) b)) pins ≡ false →
          list_any (λ v. nat_eq (block_of p v) c) pins ≡ false
      absent c x y [] e = refl
      absent c x y (v ∷ pins) e =
          let parts = or_false (not (nat_eq (block_of p v) a) && not (nat_eq (block_of p v) b))
          (list_any (λ u. not (nat_eq (block_of p u) a) && not (nat_eq (block_of p u) b)) pins) e in
          ap (λ t. t || list_any (λ u. nat_eq (block_of p u) c) pins) (here v parts.0 (cases_eq (block_of p v) c)) ∙ absent c x y pins parts.1
        where
          here : (v : ℕ) → (not (nat_eq (block_of p v) a) && not (nat_eq (block_of p v) b)) ≡ false → (block_of p v ≡ c) ⊎ (block_of p v ≢ c) →
              nat_eq (block_of p v) c ≡ false
          here v f (inr n) = ne_eqb (block_of p v) c n
          here v f (inl s) =
              absurd (different (sym (ap (λ t. not t && not (nat_eq (block_of p v) b)) (ne_eqb (block_of p v) a (λ z. x (sym s ∙ z))) ∙
              ap not (ne_eqb (block_of p v) b (λ z. y (sym s ∙ z)))) ∙ f))

      by : (c : ℕ) → (c ≡ b) ⊎ (c ≢ b) → (c ≡ a) ⊎ (c ≢ a) → others_of (λ d. present (pins_in p e.pins d)) a b c ≡ 0
      by c (inl s) t = ap (λ t. if t then 0 else (if nat_eq c a then 0 else present (pins_in p e.pins c))) (eq-eqb c b s)
      by c (inr n) (inl s) = ap (λ t. if t then 0 else (if nat_eq c a then 0 else present (pins_in p e.pins c))) (ne_eqb c b n) ∙
          ap (λ t. if t then 0 else present (pins_in p e.pins c)) (eq-eqb c a s)
      by c (inr n) (inr m) =
          ap (λ t. if t then 0 else (if nat_eq c a then 0 else present (pins_in p e.pins c))) (ne_eqb c b n)
          ∙ ap (λ t. if t then 0 else present (pins_in p e.pins c)) (ne_eqb c a m) ∙ touches p e.pins c ∙ ap one_if (absent c m n e.pins none)

  leaves-some : (p : List ℕ) (e : Net) → All (λ v. block_of p v < k) e.pins → leaves p a b e ≡ true → 0 < outer_blocks p e.pins
  leaves-some p e below some =
      let w = found e.pins below some in
      let c = w.0 in
      let at = sum_below_at-le (others_of (λ d. present (pins_in p e.pins d)) a b) k c w.1 in
      let term : others_of (λ d. present (pins_in p e.pins d)) a b c ≡ 1 =
      ap (λ t. if t then 0 else (if nat_eq c a then 0 else present (pins_in p e.pins c))) (ne_eqb c b w.3)
      ∙ ap (λ t. if t then 0 else present (pins_in p e.pins c)) (ne_eqb c a w.2) ∙ touches p e.pins c ∙ ap one_if w.4 in
      omega arith
    where
      not_true : (t : Bool) → not t ≡ true → t ≡ false
      not_true true e = cc
      not_true false e = refl

      and_both : (s t : Bool) → (s && t) ≡ true → (s ≡ true) × (t ≡ true)
      and_both true t e = (refl, e)
      and_both false t e = absurd (different (sym e))

      found : (pins : List ℕ) → All (λ v. block_of p v < k) pins → list_any (λ v. not (nat_eq (block_of p v) a) && not (nat_eq (block_of p v) b)) pins ≡
          true
          → (c : ℕ) × (c < k) × (c ≢ a) × (c ≢ b) × (list_any (λ v. nat_eq (block_of p v) c) pins ≡ true)
      found [] all e = absurd (different (sym e))
      found (v ∷ pins) all e =
          by (or_true (not (nat_eq (block_of p v) a) && not (nat_eq (block_of p v) b))
          (list_any (λ u. not (nat_eq (block_of p u) a) && not (nat_eq (block_of p u) b)) pins) e)
          (λ t. found pins (All-tail (λ u. block_of p u < k) v pins all) t)
        where
          or_right : (s t : Bool) → t ≡ true → (s || t) ≡ true
          or_right true t e = refl
          or_right false t e = e

          by : ((not (nat_eq (block_of p v) a) && not (nat_eq (block_of p v) b)) ≡ true) ⊎
              (list_any (λ u. not (nat_eq (block_of p u) a) && not (nat_eq (block_of p u) b)) pins ≡ true)
              → (list_any (λ u. not (nat_eq (block_of p u) a) && not (nat_eq (block_of p u) b)) pins ≡ true → (c : ℕ) × (c < k) × (c ≢ a) × (c ≢ b) ×
              (list_any (λ u. nat_eq (block_of p u) c) pins ≡ true))
              → (c : ℕ) × (c < k) × (c ≢ a) × (c ≢ b) × (list_any (λ u. nat_eq (block_of p u) c) (v ∷ pins) ≡ true)
          by (inl t) later =
              let both = and_both (not (nat_eq (block_of p v) a)) (not (nat_eq (block_of p v) b)) t in (
                block_of p v,
                All-head (λ u. block_of p u < k) v pins all,
                eqb-false (block_of p v) a (not_true (nat_eq (block_of p v) a) both.0),
                eqb-false (block_of p v) b (not_true (nat_eq (block_of p v) b) both.1),
                ap (λ s. s || list_any (λ u. nat_eq (block_of p u) (block_of p v)) pins) (eq-eqb (block_of p v) (block_of p v) refl),
              )
          by (inr t) later =
              let w = later t in
              (w.0, w.1, w.2, w.3, or_right (nat_eq (block_of p v) w.0) (list_any (λ u. nat_eq (block_of p u) w.0) pins) w.4)

  -- the tests of a net, before and after
  in_pair-any : (q pins : List ℕ) → list_any (in_pair q a b) pins ≡ (list_any (λ v. nat_eq (block_of q v) a) pins || list_any (λ v. nat_eq (block_of q v) b)
      pins)
  in_pair-any q [] = refl
  in_pair-any q (v ∷ pins) = ap (λ t. in_pair q a b v || t) (in_pair-any q pins) ∙ swapped (nat_eq (block_of q v) a) (nat_eq (block_of q v) b)
      (list_any (λ u. nat_eq (block_of q u) a) pins) (list_any (λ u. nat_eq (block_of q u) b) pins)
    where
      swapped : (s t x y : Bool) → ((s || t) || (x || y)) ≡ ((s || x) || (t || y))
      swapped true t x y = refl
      swapped false true true y = refl
      swapped false true false y = refl
      swapped false false x y = refl

  -- what a net costs and pays, in two arrangements
  net_differs : (o : Objective) (p q other : List ℕ) (e : Net) → IsRearranged p q a b → IsRearranged p other a b → All (λ v. block_of p v < k) e.pins →
      All (λ v. block_of q v < k) e.pins → All (λ v. block_of other v < k) e.pins
      → net_cost o q e + (if has_pin other e a && has_pin other e b then pair_price o (leaves other a b e) e.weight else 0)
      ≡ net_cost o other e + (if has_pin q e a && has_pin q e b then pair_price o (leaves q a b e) e.weight else 0)
  net_differs o p q other e r s below below_q below_other =
      let D = outer_blocks p e.pins in
      let L = leaves p a b e in
      let pays =
      net_pays o L D e.weight (has_pin q e a) (has_pin q e b) (has_pin other e a) (has_pin other e b) (leaves-none p e) (leaves-some p e below)
      (sym (in_pair-any q e.pins) ∙ any_same (in_pair q a b) (in_pair other a b) e.pins (λ v. r.pair v ∙ sym (s.pair v)) ∙ in_pair-any other e.pins) in
      let cost_q : net_cost o q e ≡ e.weight * price o (D + (one_if (has_pin q e a) + one_if (has_pin q e b))) =
      ap (λ n. e.weight * price o n) (connectivity-split q e.pins below_q ∙ ap (λ n. n + (one_if (has_pin q e a) + one_if (has_pin q e b)))
      (outer-same p q e.pins r)) in
      let cost_other : net_cost o other e ≡ e.weight * price o (D + (one_if (has_pin other e a) + one_if (has_pin other e b))) =
      ap (λ n. e.weight * price o n) (connectivity-split other e.pins below_other ∙ ap (λ n. n + (one_if (has_pin other e a) + one_if (has_pin other e b)))
      (outer-same p other e.pins s)) in
      let pays_other : (if has_pin other e a && has_pin other e b then pair_price o (leaves other a b e) e.weight else 0) ≡ (if has_pin other e a &&
      has_pin other e b then pair_price o L e.weight else 0) =
      ap (λ t. if has_pin other e a && has_pin other e b then pair_price o t e.weight else 0) (same_leaves p other a b e s) in
      let pays_q : (if has_pin q e a && has_pin q e b then pair_price o (leaves q a b e) e.weight else 0) ≡ (if has_pin q e a &&
      has_pin q e b then pair_price
      o L e.weight else 0) =
      ap (λ t. if has_pin q e a && has_pin q e b then pair_price o t e.weight else 0) (same_leaves p q a b e r) in
      omega arith

  pub costs_differ : (h : Hyper) (p q other : List ℕ) → IsRearranged p q a b → IsRearranged p other a b → IsHypergraph h
      → ((v : ℕ) → v < vertex_count h → block_of p v < k) → ((v : ℕ) → v < vertex_count h → block_of q v < k) →
      ((v : ℕ) → v < vertex_count h → block_of other v < k)
      → cost h q + pair_cost h other a b ≡ cost h other + pair_cost h q a b
  costs_differ h p q other r s sound below below_q below_other =
      let o = h.objective in
      let pay : List ℕ → Net → ℕ = λ x e. if has_pin x e a && has_pin x e b then pair_price o (leaves x a b e) e.weight else 0 in
      let each : total (λ e. net_cost o q e + pay other e) h.nets ≡ total (λ e. net_cost o other e + pay q e) h.nets =
      total-same (λ e. net_cost o q e + pay other e) (λ e. net_cost o other e + pay q e) h.nets
      (λ i d l. let net = sound.nets i d l in net_differs o p q other _ r s (on p below _ net.pins) (on q below_q _ net.pins)
      (on other below_other _ net.pins)) in
      let left = total-add (net_cost o q) (pay other) h.nets in
      let right = total-add (net_cost o other) (pay q) h.nets in
      let x = pair_total h q a b in
      let y = pair_total h other a b in
      omega arith
    where
      on : (x : List ℕ) → ((v : ℕ) → v < vertex_count h → block_of x v < k) → (pins : List ℕ) → All (λ v. v < vertex_count h) pins →
          All (λ v. block_of x v < k) pins
      on x all pins = All-weaker (λ v. v < vertex_count h) (λ v. block_of x v < k) all pins

-- an assignment has blocks below k
pub assigned_below : (k a b : ℕ) (p region q : List ℕ) → a < k → b < k → IsAssignment p a b region q → (v : ℕ) → block_of p v < k → block_of q v < k
assigned_below k a b p region q first second s v below = by (among v region)
  where
    either : (block_of q v ≡ a) ⊎ (block_of q v ≡ b) → block_of q v < k
    either (inl e) = subst (λ x. x < k) (sym e) first
    either (inr e) = subst (λ x. x < k) (sym e) second

    by : Contains region v ⊎ All (λ u. u ≢ v) region → block_of q v < k
    by (inl c) = either (All-contains (λ u. (block_of q u ≡ a) ⊎ (block_of q u ≡ b)) region v s.inside c)
    by (inr n) = subst (λ x. x < k) (sym (s.outside v n)) below

pub assignments_cost : (h : Hyper) (k : ℕ) (p : List ℕ) (a b : ℕ) (region q other : List ℕ)
    → IsHypergraph h → IsPartition h k p → a < k → b < k → a ≢ b → AreOfPair p a b region
    → IsAssignment p a b region q → IsAssignment p a b region other
    → cost h q + pair_cost h other a b ≡ cost h other + pair_cost h q a b
assignments_cost h k p a b region q other sound w first second apart inside s t =
    costs_differ k a b first second apart h p q other (rearranged p q region a b inside s) (rearranged p other region a b inside t) sound below
    (λ v l. assigned_below k a b p region q first second s v (below v l)) (λ v l. assigned_below k a b p region other first second t v (below v l))
  where
    below : (v : ℕ) → v < vertex_count h → block_of p v < k
    below v l = w.blocks v 0 (let e = w.vertices in omega arith)

pub assignments_differ : AssignmentsDifferByPairCost
assignments_differ h k p a b region q other sound w first second apart inside s t =
    let e = assignments_cost h k p a b region q other sound w first second apart inside s t in
    omega (arith, ints)
