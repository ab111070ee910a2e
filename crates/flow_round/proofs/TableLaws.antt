-- The table of ends, and turns whose ends stand in it.
use Rattle.std.proofs.Common.{◌≡◌, ◌≢◌, ◌⊎◌, inl, inr, ℕ, ◌+◌, ◌-◌, ◌*◌, ◌<◌, ◌≤◌, List, [], ◌∷◌, ◌++◌, take, length, All, Contains, Option, None}
use Rattle.std.proofs.Common.{refl, sym, ap, ap₂, subst, ◌∙◌, arith, slice_set, get_or-set_same, get_or-set_other}
use Rattle.std.proofs.lemmas.Bool.{cases_eq, cases_lt}
use Rattle.std.proofs.lemmas.List.Elements.{All-head, All-tail}
use Rattle.hg_defs.specs.declared.moves.Move.{Move}
use Rattle.hg_defs.specs.Hypergraph.{Hyper}
use Rattle.flow_pair.specs.declared.solve.PairEnd.{PairEnd}
use Rattle.flow_round.specs.PairTurns.{IsPairBelow, IsBooked, IsTurn, AreBooked, AreTurns, after_turn, after_turns}
use Rattle.flow_round.specs.declared.worker.Found.{Found}
use Rattle.flow_round.specs.Waves.{HasEnd, end_at, moves_at}

-- ---- places

pub place_below : (k a b : ℕ) → a < k → b < k → a * k + b < k * k
place_below k a b l m =
    let t = k - (a + 1) in
    let e : k ≡ a + 1 + t = omega arith in
    let f : k * k ≡ (a + 1 + t) * k = ap (λ x. x * k) e in
    omega (arith, f)

pub square_small : (k : ℕ) → k ≤ 256 → k * k ≤ 65536
square_small k l =
    let t = 256 - k in
    let e : 256 ≡ k + t = omega arith in
    let f : 65536 ≡ (k + t) * (k + t) = ap (λ x. x * x) e in
    omega (arith, f)

rows_apart : (k a b c d : ℕ) → b < k → a < c → a * k + b < c * k + d
rows_apart k a b c d l m =
    let t = c - (a + 1) in
    let e : c ≡ a + 1 + t = omega arith in
    let f : c * k ≡ (a + 1 + t) * k = ap (λ x. x * k) e in
    omega (arith, f)

pub places_apart : (k : ℕ) (x y : ℕ × ℕ) → x.1 < k → y.1 < k → x ≢ y → x.0 * k + x.1 ≢ y.0 * k + y.1
places_apart k x y l m n e = by (cases_eq x.0 y.0) (cases_lt x.0 y.0)
  where
    by : (x.0 ≡ y.0) ⊎ (x.0 ≢ y.0) → (x.0 < y.0) ⊎ (y.0 ≤ x.0) → ⊥
    by (inl f) r =
        let g = ap (λ z. z * k) f in
        let second : x.1 ≡ y.1 = omega (arith, g, e) in
        let first : ℕ → ℕ → ℕ × ℕ = λ a b. (a, b) in
        n (ap₂ first f second)
    by (inr f) (inl r) = let a = rows_apart k x.0 x.1 y.0 y.1 l r in omega (arith, a, e)
    by (inr f) (inr r) =
        let less : y.0 < x.0 = (let g = f in omega arith) in
        let a = rows_apart k y.0 y.1 x.0 x.1 m less in
        omega (arith, a, e)

-- ---- a table that was lent

pub written_back : {A : Type 0} (n : ℕ) (xs zs : List A) → n ≡ length xs → take n (xs ++ zs) ≡ xs
written_back n [] zs e = ap (λ m. take m zs) e
written_back n (x ∷ xs) zs e = ap (λ m. take m (x ∷ (xs ++ zs))) e ∙ ap (λ ys. x ∷ ys) (written_back (length xs) xs zs refl)

-- ---- one end more

pub end_at-here : (k : ℕ) (ends : List (Option PairEnd)) (a b : ℕ) (end : Option PairEnd) → length ends ≡ k * k → a < k → b < k
    → end_at k (slice_set ends (a * k + b) end) (a, b) ≡ end
end_at-here k ends a b end long l m = get_or-set_same ends (a * k + b) end None (let p = place_below k a b l m in omega (arith, p, long))

pub end_at-other : (k : ℕ) (ends : List (Option PairEnd)) (a b : ℕ) (end : Option PairEnd) (x : ℕ × ℕ) → b < k → x.1 < k → x ≢ (a, b)
    → end_at k (slice_set ends (a * k + b) end) x ≡ end_at k ends x
end_at-other k ends a b end x l m n =
    get_or-set_other ends (a * k + b) (x.0 * k + x.1) end None (places_apart k x (a, b) m l n)

-- ---- the moves of one pair more

pub moves_at-here : (k : ℕ) (made : List (List Move)) (a b : ℕ) (moves : List Move) → length made ≡ k * k → a < k → b < k
    → moves_at k (slice_set made (a * k + b) moves) (a, b) ≡ moves
moves_at-here k made a b moves long l m = get_or-set_same made (a * k + b) moves [] (let p = place_below k a b l m in omega (arith, p, long))

pub moves_at-other : (k : ℕ) (made : List (List Move)) (a b : ℕ) (moves : List Move) (x : ℕ × ℕ) → b < k → x.1 < k → x ≢ (a, b)
    → moves_at k (slice_set made (a * k + b) moves) x ≡ moves_at k made x
moves_at-other k made a b moves x l m n =
    get_or-set_other made (a * k + b) (x.0 * k + x.1) moves [] (places_apart k x (a, b) m l n)

-- ---- turns

pub after_turns-append : (ends : ℕ × ℕ → Option PairEnd) (xs ys : List (ℕ × ℕ)) (p : List ℕ)
    → after_turns ends (xs ++ ys) p ≡ after_turns ends ys (after_turns ends xs p)
after_turns-append ends [] ys p = refl
after_turns-append ends (x ∷ xs) ys p = after_turns-append ends xs ys (after_turn p (ends x))

pub after_turns-same : (ends others : ℕ × ℕ → Option PairEnd) (xs : List (ℕ × ℕ)) (p : List ℕ) → All (λ x. others x ≡ ends x) xs
    → after_turns others xs p ≡ after_turns ends xs p
after_turns-same ends others [] p same = refl
after_turns-same ends others (x ∷ xs) p same =
    ap (λ e. after_turns others xs (after_turn p e)) (All-head (λ y. others y ≡ ends y) x xs same)
    ∙ after_turns-same ends others xs (after_turn p (ends x)) (All-tail (λ y. others y ≡ ends y) x xs same)

module _ (h : Hyper) (k l : ℕ) where
  pub turns_append : (ends : ℕ × ℕ → Option PairEnd) (xs ys : List (ℕ × ℕ)) (p : List ℕ) → AreTurns h k l ends xs p
      → AreTurns h k l ends ys (after_turns ends xs p) → AreTurns h k l ends (xs ++ ys) p
  turns_append ends [] ys p s t = t
  turns_append ends (x ∷ xs) ys p s t = (s.0, turns_append ends xs ys (after_turn p (ends x)) s.1 t)

  pub turns_same : (ends others : ℕ × ℕ → Option PairEnd) (xs : List (ℕ × ℕ)) (p : List ℕ) → All (λ x. others x ≡ ends x) xs
      → AreTurns h k l ends xs p → AreTurns h k l others xs p
  turns_same ends others [] p same t = tt
  turns_same ends others (x ∷ xs) p same t =
      let here = All-head (λ y. others y ≡ ends y) x xs same in (
        subst (IsTurn h k l p x) (sym here) t.0,
        subst (λ e. AreTurns h k l others xs (after_turn p e)) (sym here)
            (turns_same ends others xs (after_turn p (ends x)) (All-tail (λ y. others y ≡ ends y) x xs same) t.1),
      )

module _ (h : Hyper) where
  pub booked_append : (ends : ℕ × ℕ → Option PairEnd) (made : ℕ × ℕ → List Move) (xs ys : List (ℕ × ℕ)) (p : List ℕ) → AreBooked h ends made xs p
      → AreBooked h ends made ys (after_turns ends xs p) → AreBooked h ends made (xs ++ ys) p
  booked_append ends made [] ys p s t = t
  booked_append ends made (x ∷ xs) ys p s t = (s.0, booked_append ends made xs ys (after_turn p (ends x)) s.1 t)

  pub booked_same : (ends others : ℕ × ℕ → Option PairEnd) (made more : ℕ × ℕ → List Move) (xs : List (ℕ × ℕ)) (p : List ℕ)
      → All (λ x. others x ≡ ends x) xs → All (λ x. more x ≡ made x) xs → AreBooked h ends made xs p → AreBooked h others more xs p
  booked_same ends others made more [] p same kept t = tt
  booked_same ends others made more (x ∷ xs) p same kept t =
      let here = All-head (λ y. others y ≡ ends y) x xs same in
      let moves = All-head (λ y. more y ≡ made y) x xs kept in (
        subst (λ e. IsBooked h p e (more x)) (sym here) (subst (IsBooked h p (ends x)) (sym moves) t.0),
        subst (λ e. AreBooked h others more xs (after_turn p e)) (sym here)
            (booked_same ends others made more xs (after_turn p (ends x)) (All-tail (λ y. others y ≡ ends y) x xs same)
            (All-tail (λ y. more y ≡ made y) x xs kept) t.1),
      )

-- ---- an end that was found is written

pair_eq : (x : ℕ × ℕ) (a b : ℕ) → x.0 ≡ a → x.1 ≡ b → (a, b) ≡ x
pair_eq x a b e f = let pair : ℕ → ℕ → ℕ × ℕ = λ c d. (c, d) in ap₂ pair (sym e) (sym f)

-- what stands for a pair once an end was written: that end, where it is that of the pair, or what stood there before
pub put_cases : (k : ℕ) (ends : List (Option PairEnd)) (t : Found) (x : ℕ × ℕ) → length ends ≡ k * k → IsPairBelow k (t.first, t.second)
    → IsPairBelow k x
    → (((t.first, t.second) ≡ x) × (end_at k (slice_set ends (t.first * k + t.second) t.end) x ≡ t.end))
    ⊎ (end_at k (slice_set ends (t.first * k + t.second) t.end) x ≡ end_at k ends x)
put_cases k ends t x long bt bx = by (cases_eq x.0 t.first) (cases_eq x.1 t.second)
  where
    low : t.first < k
    low = let a = bt.order in let b = bt.below in omega arith

    by : (x.0 ≡ t.first) ⊎ (x.0 ≢ t.first) → (x.1 ≡ t.second) ⊎ (x.1 ≢ t.second)
        → (((t.first, t.second) ≡ x) × (end_at k (slice_set ends (t.first * k + t.second) t.end) x ≡ t.end))
        ⊎ (end_at k (slice_set ends (t.first * k + t.second) t.end) x ≡ end_at k ends x)
    by (inl e) (inl g) =
        let is = pair_eq x t.first t.second e g in
        inl (
          is,
          subst (λ y. end_at k (slice_set ends (t.first * k + t.second) t.end) y ≡ t.end) is
              (end_at-here k ends t.first t.second t.end long low bt.below),
        )
    by (inl e) (inr n) = inr (end_at-other k ends t.first t.second t.end x bt.below bx.below (λ z. n (ap (λ (y : ℕ × ℕ). y.1) z)))
    by (inr n) r = inr (end_at-other k ends t.first t.second t.end x bt.below bx.below (λ z. n (ap (λ (y : ℕ × ℕ). y.0) z)))

-- the end of a task is written
module _ (k : ℕ) (ends old : List (Option PairEnd)) (tasks : List Found) (t : Found) (long : length ends ≡ k * k)
    (bt : IsPairBelow k (t.first, t.second)) (c : Contains tasks t)
  where
    abbrev written : List (Option PairEnd)
    written = slice_set ends (t.first * k + t.second) t.end

    pub end_put : (x : ℕ × ℕ) → IsPairBelow k x → (end_at k ends x ≡ end_at k old x) ⊎ HasEnd tasks x (end_at k ends x)
        → (end_at k written x ≡ end_at k old x) ⊎ HasEnd tasks x (end_at k written x)
    end_put x bx was = by (put_cases k ends t x long bt bx)
      where
        by : (((t.first, t.second) ≡ x) × (end_at k written x ≡ t.end)) ⊎ (end_at k written x ≡ end_at k ends x)
            → (end_at k written x ≡ end_at k old x) ⊎ HasEnd tasks x (end_at k written x)
        by (inl e) = inr (t, c, e.0, e.1)
        by (inr e) = subst (λ (z : Option PairEnd). (z ≡ end_at k old x) ⊎ HasEnd tasks x z) (sym e) was
