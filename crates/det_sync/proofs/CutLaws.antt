-- Laws of cut nets and of the vertices that they hold.
use Rattle.std.proofs.Common.{◌≡◌, ◌≢◌, ℕ, zero, suc, ◌+◌, ◌-◌, ◌<◌, ◌≤◌, ◌⊎◌, inl, inr, List, [], ◌∷◌, ◌++◌, Bool, true, false, ◌||◌, cond, nat_eq, nat_lt}
use Rattle.std.proofs.Common.{Option, Some, None, slice_get, length, take, drop, get_or, filter, All, Contains}
use Rattle.std.proofs.Common.{is_some, true≢false, refl, sym, ap, subst, ◌∙◌, arith}
use Rattle.std.specs.List.{list_any, range_with_len}
use Rattle.std.proofs.lemmas.Bool.{eqb-true, eqb-false, eq-eqb, ne_eqb, lt-ltb, le-ltb, cases_eq, cases_lt}
use Rattle.std.proofs.lemmas.List.{append-nil, take_all, take-append-le}
use Rattle.std.proofs.lemmas.List.Elements.{filter-append, All-nil, All-cons}
use Rattle.rayon.proofs.ToStd.{nat_range-All}
use Rattle.hg_defs.specs.Hypergraph.{Hyper, IsHypergraph, vertex_count, net_count, net_of}
use Rattle.hg_defs.specs.Partition.{IsPartition, block_of}
use Rattle.hg_defs.specs.Cost.{connectivity}
use Rattle.hg_defs.specs.Pins.{pins_in}
use Rattle.hg_defs.proofs.DistinctLaws.{pins_in-le}
use Rattle.pin_plain.proofs.GainLaws.{some_blocks}
use Rattle.pin_plain.proofs.InnerLaws.{whole_by_count}
use Rattle.det_sync.specs.CutNets.{is_cut}

-- ---- cut nets

pub first_pin : (pins : List ℕ) (v : ℕ) → Some v ≡ slice_get pins 0 → (0 < length pins) × (v ≡ get_or pins 0 0)
first_pin [] v e = absurd (true≢false (ap is_some e))
first_pin (u ∷ pins) v e = (omega arith, ap (λ (o : Option ℕ). is o) e)
  where
    is : Option ℕ → ℕ
    is None = v
    is (Some x) = x

-- a net that holds a vertex is cut exactly where some of its pins aren't in the vertex's block
pub cut_by_count : (h : Hyper) (k : ℕ) (p : List ℕ) (v e : ℕ) → IsHypergraph h → IsPartition h k p → v < vertex_count h → e < net_count h
    → Contains (net_of h e).pins v → nat_lt (pins_in p (net_of h e).pins (block_of p v)) (length (net_of h e).pins) ≡ is_cut h p e
cut_by_count h k p v e good whole vertex net pin =
    by (pins_in p (net_of h e).pins (block_of p v)) (length (net_of h e).pins) (connectivity p (net_of h e).pins)
    (pins_in-le p (net_of h e).pins (block_of p v))
    (some_blocks p (net_of h e).pins v pin) (whole_by_count h k p v e good whole vertex net pin)
  where
    by : (count size blocks : ℕ) → count ≤ size → 0 < blocks → nat_eq blocks 1 ≡ nat_eq count size → nat_lt count size ≡ nat_lt 1 blocks
    by count size blocks low some same = go (cases_eq count size)
      where
        go : (count ≡ size) ⊎ (count ≢ size) → nat_lt count size ≡ nat_lt 1 blocks
        go (inl e) =
            let one = eqb-true blocks 1 (same ∙ eq-eqb count size e) in
            le-ltb count size (omega arith) ∙ sym (le-ltb 1 blocks (omega arith))
        go (inr r) =
            let many = eqb-false blocks 1 (same ∙ ne_eqb count size r) in
            lt-ltb count size (below count size low r) ∙ sym (lt-ltb 1 blocks (more blocks some many))
          where
            below : (a b : ℕ) → a ≤ b → a ≢ b → a < b
            below a b l r = by_cases (cases_lt a b)
              where
                by_cases : (a < b) ⊎ (b ≤ a) → a < b
                by_cases (inl l) = l
                by_cases (inr g) = absurd (r (omega arith))

            more : (n : ℕ) → 0 < n → n ≢ 1 → 1 < n
            more n l r = by_cases (cases_lt 1 n)
              where
                by_cases : (1 < n) ⊎ (n ≤ 1) → 1 < n
                by_cases (inl l) = l
                by_cases (inr g) = absurd (r (omega arith))

-- ---- the vertices that marked nets hold

-- where none of the numbers passes a test, each fails it
pub none_passes : (test : ℕ → Bool) (xs : List ℕ) → list_any test xs ≡ false → All (λ x. test x ≡ false) xs
none_passes test [] off = All-nil (λ x. test x ≡ false)
none_passes test (x ∷ xs) off = by (test x) refl off (none_passes test xs)
  where
    by : (t : Bool) → test x ≡ t → (t || list_any test xs) ≡ false → (list_any test xs ≡ false → All (λ y. test y ≡ false) xs)
        → All (λ y. test y ≡ false) (x ∷ xs)
    by true e off rest = absurd (true≢false off)
    by false e off rest = All-cons (λ y. test y ≡ false) x xs e (rest off)

pub range_append : (a m n : ℕ) → range_with_len a (m + n) ≡ range_with_len a m ++ range_with_len (a + m) n
range_append a zero n = let e : a + 0 ≡ a = omega arith in let f : zero + n ≡ n = omega arith in
    ap (range_with_len a) f ∙ ap (λ b. range_with_len b n) (sym e)
range_append a (suc m) n =
    let e : a + 1 + m ≡ a + suc m = omega arith in
    let f : suc m + n ≡ suc (m + n) = omega arith in
    ap (range_with_len a) f
    ∙ ap (λ xs. a ∷ xs) (range_append (a + 1) m n ∙ ap (λ b. range_with_len (a + 1) m ++ range_with_len b n) e)

module _ (test : ℕ → Bool) (first : ℕ) where
  -- a number more is kept where it passes the test
  filter_next : (n : ℕ) → filter test (range_with_len first (n + 1)) ≡ filter test (range_with_len first n) ++ cond (test (first + n)) ((first + n) ∷ []) []
  filter_next n = ap (filter test) (range_append first n 1) ∙ filter-append test (range_with_len first n) (range_with_len (first + n) 1)

  pub place_kept : (v n : ℕ) (old new : List ℕ) → v ≡ first + n → test v ≡ true → old ≡ filter test (range_with_len first n) → new ≡ old ++ v ∷ []
      → new ≡ filter test (range_with_len first (n + 1))
  place_kept v n old new at e known is =
      is ∙ ap (λ xs. xs ++ v ∷ []) known ∙ ap (λ u. filter test (range_with_len first n) ++ u ∷ []) at
      ∙ ap (λ t. filter test (range_with_len first n) ++ cond t ((first + n) ∷ []) []) (sym (ap test (sym at) ∙ e)) ∙ sym (filter_next n)

  pub place_left : (v n : ℕ) (old : List ℕ) → v ≡ first + n → test v ≡ false → old ≡ filter test (range_with_len first n)
      → old ≡ filter test (range_with_len first (n + 1))
  place_left v n old at e known =
      known ∙ sym (append-nil (filter test (range_with_len first n)))
      ∙ ap (λ t. filter test (range_with_len first n) ++ cond t ((first + n) ∷ []) []) (sym (ap test (sym at) ∙ e)) ∙ sym (filter_next n)

-- what holds of each of n numbers from a first one on
pub range_from : (P : ℕ → Type 0) (first n : ℕ) → ((i : ℕ) → i < first + n → P i) → All P (range_with_len first n)
range_from P first n each =
    subst (λ (m : ℕ). All P (range_with_len first m)) (let e : first + n - first ≡ n = omega arith in e)
    (nat_range-All P first (first + n) (λ i low high. each i high))

-- what was written back into a list as long
pub written : {X : Type 0} → (n : ℕ) (new old : List X) → length new ≡ n → take n (new ++ drop (length new) old) ≡ new
written n new old e = take-append-le n new (drop (length new) old) (omega arith) ∙ take_all n new (omega arith)
