-- The moves of all passes in the order of their numbers: what is summed over them, and where each stands.
use Rattle.std.proofs.Common.{◌≡◌, ℕ, zero, suc, ◌+◌, ◌-◌, ◌<◌, ◌≤◌, inl, inr, Bool, true, false, List, [], ◌∷◌, ◌++◌, length, take, get_or}
use Rattle.std.proofs.Common.{nat_eq, nat_lt, if◌then◌else◌, All, Contains, pos, refl, sym, ap, ◌∙◌, subst, arith}
use Rattle.std.specs.List.{range_with_len, flat_map}
use Rattle.std.proofs.lemmas.Bool.{eq-eqb, ltb-true, lt-ltb, le-ltb, cases_eq, cases_lt}
use Rattle.std.proofs.lemmas.List.{ext_get_or, take_all, take-append-le}
use Rattle.std.proofs.lemmas.List.Concat.{get_or-flat_map, flat_map-append}
use Rattle.std.proofs.lemmas.List.FromFn.{length-range_with_len, get_or-range_with_len}
use Rattle.std.proofs.lemmas.List.Elements.{All-nil, All-head, All-tail, All-cons, All-append, Contains-get_or, Contains-append_left, Contains-append_right}
use Rattle.hg_defs.specs.declared.moves.Move.{Move}
use Rattle.hg_defs.specs.Sums.{total, sum_below}
use Rattle.hg_defs.proofs.SumLaws.{weight_if, weight_if-other, total-append, total-same, total-ones, total-range, sum_below-total}
use Rattle.hg_defs.proofs.SumLaws.{sum_below-add, sum_below-same, sum_below-constant, sum_below-weight_if, sum_below-zero}
use Rattle.move_core.specs.declared.account.Account.{Account}
use Rattle.move_core.specs.State.{times, blank}
use Rattle.move_core.specs.Balance.{numbered_by}
use Rattle.move_core.specs.AtRest.{moves_in_order, AreInOrder}

-- ---- lists in pieces

total-flat_map : {A B : Type 0} (f : B → ℕ) (g : A → List B) (xs : List A) → total f (flat_map g xs) ≡ total (λ x. total f (g x)) xs
total-flat_map f g [] = refl
total-flat_map f g (x ∷ xs) = let e = total-append f (g x) (flat_map g xs) in let r = total-flat_map f g xs in omega arith

All-flat_map : {A B : Type 0} (P : B → Type 0) (g : A → List B) (xs : List A) → All (λ x. All P (g x)) xs → All P (flat_map g xs)
All-flat_map P g [] h = All-nil P
All-flat_map P g (x ∷ xs) h = All-append P (g x) (flat_map g xs) (All-head (λ y. All P (g y)) x xs h)
    (All-flat_map P g xs (All-tail (λ y. All P (g y)) x xs h))

Contains-flat_map : {A B : Type 0} (g : A → List B) (xs : List A) (k : ℕ) (d : A) (y : B) → k < length xs → Contains (g (get_or xs k d)) y
    → Contains (flat_map g xs) y
Contains-flat_map g [] k d y l h = absurd (omega arith)
Contains-flat_map g (x ∷ xs) zero d y l h = Contains-append_left (g x) (flat_map g xs) y h
Contains-flat_map g (x ∷ xs) (suc k) d y l h = Contains-append_right (g x) (flat_map g xs) y (Contains-flat_map g xs k d y (omega arith) h)

range_parts : (a m n : ℕ) → range_with_len a (m + n) ≡ range_with_len a m ++ range_with_len (a + m) n
range_parts a zero n = let e : 0 + n ≡ n = omega arith in let f : a ≡ a + 0 = omega arith in ap (range_with_len a) e ∙ ap (λ z. range_with_len z n) f
range_parts a (suc m) n =
    let e : suc m + n ≡ suc (m + n) = omega arith in
    let f : a + 1 + m ≡ a + suc m = omega arith in
    ap (range_with_len a) e ∙ ap (λ z. a ∷ z) (range_parts (a + 1) m n) ∙ ap (λ z. a ∷ (range_with_len (a + 1) m ++ range_with_len z n)) f

range_split : (j n : ℕ) → j ≤ n → range_with_len 0 n ≡ range_with_len 0 j ++ range_with_len j (n - j)
range_split j n l =
    let e : n ≡ j + (n - j) = omega arith in
    let f : 0 + j ≡ j = omega arith in
    ap (range_with_len 0) e ∙ range_parts 0 j (n - j) ∙ ap (λ z. range_with_len 0 j ++ range_with_len z (n - j)) f

take_range : (j n : ℕ) → j ≤ n → take j (range_with_len 0 n) ≡ range_with_len 0 j
take_range j n l =
    let size = length-range_with_len 0 j in
    ap (take j) (range_split j n l) ∙ take-append-le j (range_with_len 0 j) (range_with_len j (n - j)) (omega arith)
    ∙ take_all j (range_with_len 0 j) (omega arith)

-- a sum that isn't 0 has an element that isn't
pub some_at : {A : Type 0} (f : A → ℕ) (xs : List A) (d : A) → 0 < total f xs → (k : ℕ) × (k < length xs) × (0 < f (get_or xs k d))
some_at f [] d h = absurd (omega arith)
some_at f (x ∷ xs) d h =
    elim (cases_lt 0 (f x)) [
      | inl l ↦ (0, omega arith, l)
      | inr m ↦ let r = some_at f xs d (omega arith) in let l = r.1 in (suc r.0, omega arith, r.2)
    ]

-- ---- the moves of one account

pub All-numbered : (P : Move → Type 0) (test : ℕ → Bool) (ns : List ℕ) (ms : List Move) → All P ms → All P (numbered_by test ns ms)
All-numbered P test [] ms h = All-nil P
All-numbered P test (n ∷ ns) [] h = All-nil P
All-numbered P test (n ∷ ns) (m ∷ ms) h = by (test n) (All-numbered P test ns ms (All-tail P m ms h))
  where
    by : (b : Bool) → All P (numbered_by test ns ms) → All P (if b then m ∷ numbered_by test ns ms else numbered_by test ns ms)
    by true r = All-cons P m (numbered_by test ns ms) (All-head P m ms h) r
    by false r = r

total-numbered_cons : (f : Move → ℕ) (test : ℕ → Bool) (n : ℕ) (ns : List ℕ) (m : Move) (ms : List Move)
    → total f (numbered_by test (n ∷ ns) (m ∷ ms)) ≡ (if test n then f m else 0) + total f (numbered_by test ns ms)
total-numbered_cons f test n ns m ms = by (test n)
  where
    by : (b : Bool) → total f (if b then m ∷ numbered_by test ns ms else numbered_by test ns ms) ≡ (if b then f m else 0) + total f (numbered_by test ns ms)
    by true = refl
    by false = omega arith

-- number by number
numbers_below : (f : Move → ℕ) (j : ℕ) (ns : List ℕ) (ms : List Move) → sum_below (λ n. total f (numbered_by (λ x. nat_eq x n) ns ms)) j
    ≡ total f (numbered_by (λ x. nat_lt x j) ns ms)
numbers_below f j [] ms = sum_below-zero (λ n. 0) j (λ i l. refl)
numbers_below f j (n ∷ ns) [] = sum_below-zero (λ n. 0) j (λ i l. refl)
numbers_below f j (n ∷ ns) (m ∷ ms) =
    let r = numbers_below f j ns ms in
    let e = sum_below-same (λ i. total f (numbered_by (λ x. nat_eq x i) (n ∷ ns) (m ∷ ms)))
    (λ i. weight_if n i (f m) + total f (numbered_by (λ x. nat_eq x i) ns ms)) j (λ i l. total-numbered_cons f (λ x. nat_eq x i) n ns m ms) in
    let a = sum_below-add (λ i. weight_if n i (f m)) (λ i. total f (numbered_by (λ x. nat_eq x i) ns ms)) j in
    let c = total-numbered_cons f (λ x. nat_lt x j) n ns m ms in
    elim (cases_lt n j) [
      | inl l ↦ let w = sum_below-weight_if n (f m) j l in let t = ap (λ b. if b then f m else 0) (lt-ltb n j l) in omega arith
      | inr g ↦
          let w = sum_below-zero (λ i. weight_if n i (f m)) j (λ i l. weight_if-other n i (f m) (λ q. absurd (omega arith))) in
          let t = ap (λ b. if b then f m else 0) (le-ltb n j g) in
          omega arith
    ]

length-numbered : (n : ℕ) (ns : List ℕ) (ms : List Move) → length ns ≡ length ms → length (numbered_by (λ x. nat_eq x n) ns ms) ≡ times n ns
length-numbered n [] ms e = refl
length-numbered n (x ∷ ns) [] e = absurd (omega arith)
length-numbered n (x ∷ ns) (m ∷ ms) e = by (nat_eq x n) (length-numbered n ns ms (omega arith))
  where
    by : (b : Bool) → length (numbered_by (λ y. nat_eq y n) ns ms) ≡ times n ns
        → length (if b then m ∷ numbered_by (λ y. nat_eq y n) ns ms else numbered_by (λ y. nat_eq y n) ns ms) ≡ (if b then 1 else 0) + times n ns
    by true r = omega arith
    by false r = omega arith

Contains-numbered : (test : ℕ → Bool) (ns : List ℕ) (ms : List Move) (k : ℕ) (d : Move) → length ns ≡ length ms → k < length ms →
    test (get_or ns k 0) ≡ true
    → Contains (numbered_by test ns ms) (get_or ms k d)
Contains-numbered test [] ms k d e l h = absurd (omega arith)
Contains-numbered test (n ∷ ns) [] k d e l h = absurd (omega arith)
Contains-numbered test (n ∷ ns) (m ∷ ms) zero d e l h = subst (λ b. Contains (if b then m ∷ numbered_by test ns ms else numbered_by test ns ms) m) (sym h)
    (Contains-append_left (m ∷ []) (numbered_by test ns ms) m (Contains-get_or (m ∷ []) 0 m (omega arith)))
Contains-numbered test (n ∷ ns) (m ∷ ms) (suc k) d e l h = by (test n) (Contains-numbered test ns ms k d (omega arith) (omega arith) h)
  where
    by : (b : Bool) → Contains (numbered_by test ns ms) (get_or ms k d) → Contains (if b then m ∷ numbered_by test ns ms else numbered_by test ns ms)
        (get_or ms k d)
    by true r = Contains-append_right (m ∷ []) (numbered_by test ns ms) (get_or ms k d) r
    by false r = r

-- a number that stands in a list has a place there
place_of_number : (n : ℕ) (ns : List ℕ) → 0 < times n ns → (k : ℕ) × (k < length ns) × (get_or ns k 0 ≡ n)
place_of_number n [] h = absurd (omega arith)
place_of_number n (x ∷ ns) h =
    elim (cases_eq x n) [
      | inl e ↦ (0, omega arith, e)
      | inr q ↦ let w = weight_if-other x n 1 q in let r = place_of_number n ns (omega arith) in let l = r.1 in (suc r.0, omega arith, r.2)
    ]

-- ---- the moves of all accounts

pub total-in_order : (f : Move → ℕ) (accounts : List Account) (j : ℕ) → total f (moves_in_order accounts j)
    ≡ total (λ a. total f (numbered_by (λ x. nat_lt x j) a.numbers a.moves)) accounts
total-in_order f accounts j =
    let g : ℕ → Account → List Move = λ n a. numbered_by (λ x. nat_eq x n) a.numbers a.moves in
    let a = total-flat_map f (λ n. flat_map (g n) accounts) (range_with_len 0 j) in
    let b = total-range (λ n. total f (flat_map (g n) accounts)) j in
    let c = sum_below-same (λ n. total f (flat_map (g n) accounts)) (λ n. total (λ x. total f (g n x)) accounts) j
    (λ n l. total-flat_map f (g n) accounts) in
    let d = sum_below-total (λ n x. total f (g n x)) j accounts in
    let e = total-same (λ x. sum_below (λ n. total f (g n x)) j) (λ x. total f (numbered_by (λ y. nat_lt y j) x.numbers x.moves)) accounts
    (λ k y l. numbers_below f j (get_or accounts k y).numbers (get_or accounts k y).moves) in
    omega arith

pub All-in_order : (P : Move → Type 0) (accounts : List Account) (j : ℕ) → All (λ a. All P a.moves) accounts → All P (moves_in_order accounts j)
All-in_order P accounts j h =
    All-flat_map P (λ n. flat_map (λ a. numbered_by (λ x. nat_eq x n) a.numbers a.moves) accounts) (range_with_len 0 j)
    (λ k d l.
    All-flat_map P (λ a. numbered_by (λ x. nat_eq x (get_or (range_with_len 0 j) k d)) a.numbers a.moves) accounts
    (λ i a q. All-numbered P (λ x. nat_eq x (get_or (range_with_len 0 j) k d)) (get_or accounts i a).numbers (get_or accounts i a).moves (h i a q)))

-- where each number below a bound was drawn once
module _ (accounts : List Account) (next : ℕ) (size : All (λ a. length a.numbers ≡ length a.moves) accounts)
    (each : (n : ℕ) → n < next → total (λ a. times n a.numbers) accounts ≡ 1) (below : All (λ a. All (λ n. nat_lt n next ≡ true) a.numbers) accounts) where
  abbrev piece : ℕ → List Move
  piece n = flat_map (λ a. numbered_by (λ x. nat_eq x n) a.numbers a.moves) accounts

  length_piece : (n : ℕ) → n < next → length (piece n) ≡ 1
  length_piece n l =
      let a = total-ones (piece n) in
      let b = total-flat_map (λ (m : Move). 1) (λ (x : Account). numbered_by (λ y. nat_eq y n) x.numbers x.moves) accounts in
      let c = total-same (λ (x : Account). total (λ (m : Move). 1) (numbered_by (λ y. nat_eq y n) x.numbers x.moves)) (λ x. times n x.numbers) accounts
      (λ k d q. let x = get_or accounts k d in let o = total-ones (numbered_by (λ y. nat_eq y n) x.numbers x.moves) in let e =
      length-numbered n x.numbers x.moves (size k d q) in omega arith) in
      let e = each n l in
      omega arith

  pub length_in_order : (j : ℕ) → j ≤ next → length (moves_in_order accounts j) ≡ j
  length_in_order j q =
      let a = total-ones (moves_in_order accounts j) in
      let b = total-flat_map (λ (m : Move). 1) piece (range_with_len 0 j) in
      let c = total-range (λ n. total (λ (m : Move). 1) (piece n)) j in
      let d = sum_below-same (λ n. total (λ (m : Move). 1) (piece n)) (λ n. 1) j
      (λ n l. let o = total-ones (piece n) in let e = length_piece n (omega arith) in omega arith) in
      let e = sum_below-constant 1 j in
      omega arith

  -- the first of them
  pub take_in_order : (j : ℕ) → take j (moves_in_order accounts next) ≡ moves_in_order accounts (if nat_lt j next then j else next)
  take_in_order j =
      elim (cases_lt j next) [
        | inl l ↦
            let parts = range_split j next (omega arith) in
            let size = length_in_order j (omega arith) in
            ap (λ z. take j (flat_map piece z)) parts
            ∙ ap (take j) (flat_map-append piece (range_with_len 0 j) (range_with_len j (next - j)))
            ∙ take-append-le j (moves_in_order accounts j) (flat_map piece (range_with_len j (next - j))) (omega arith)
            ∙ take_all j (moves_in_order accounts j) (omega arith)
            ∙ ap (λ b. moves_in_order accounts (if b then j else next)) (sym (lt-ltb j next l))
        | inr g ↦
            let size = length_in_order next (omega arith) in
            take_all j (moves_in_order accounts next) (omega arith)
            ∙ ap (λ b. moves_in_order accounts (if b then j else next)) (sym (le-ltb j next g))
      ]

  -- the move with a number stands at that place
  pub place_in_order : (k : ℕ) (d : Account) → k < length accounts → (i : ℕ) (m : Move) → i < length (get_or accounts k d).moves
      → get_or (moves_in_order accounts next) (get_or (get_or accounts k d).numbers i 0) m ≡ get_or (get_or accounts k d).moves i m
  place_in_order k d l i m q =
      let a = get_or accounts k d in
      let n = get_or a.numbers i 0 in
      let own = size k d l in
      let small = ltb-true n next (below k d l i 0 (omega arith)) in
      let xs = range_with_len 0 next in
      let here : get_or xs n 0 ≡ n = get_or-range_with_len 0 next n 0 small ∙ (omega arith) in
      let one = length_piece n small in
      let before : length (flat_map piece (take n xs)) ≡ n = ap (λ z. length (flat_map piece z)) (take_range n next (omega arith))
      ∙ length_in_order n (omega arith) in
      let stands = get_or-flat_map piece xs n 0 0 m (let e = length-range_with_len 0 next in omega arith)
      (subst (λ z. 0 < length (piece z)) (sym here) (omega arith)) in
      let zero_more : length (flat_map piece (take n xs)) + 0 ≡ n = omega arith in
      let inside = Contains-flat_map (λ (x : Account). numbered_by (λ y. nat_eq y n) x.numbers x.moves) accounts k d (get_or a.moves i m) l
      (Contains-numbered (λ y. nat_eq y n) a.numbers a.moves i m own q (eq-eqb n n refl)) in
      ap (λ z. get_or (flat_map piece xs) z m) (sym zero_more) ∙ stands ∙ ap (λ z. get_or (piece z) 0 m) here
      ∙ alone (piece n) (get_or a.moves i m) m one inside
    where
      alone : (ms : List Move) (x d : Move) → length ms ≡ 1 → Contains ms x → get_or ms 0 d ≡ x
      alone [] x d e h = absurd (omega arith)
      alone (y ∷ ms) x d e h = by h.0 (let l = h.1 in omega arith) h.2
        where
          by : (k : ℕ) → k ≡ 0 → get_or (y ∷ ms) k x ≡ x → y ≡ x
          by zero z h = h
          by (suc k) z h = absurd (omega arith)

  -- and no other list is such
  pub only_order : (ms : List Move) → AreInOrder accounts next ms → ms ≡ moves_in_order accounts next
  only_order ms o =
      let size' = length_in_order next (omega arith) in
      let none : Move = record { vertex = 0; from = 0; to = 0; worker = 0; booked = pos 0 } in
      ext_get_or none ms (moves_in_order accounts next) (o.count ∙ sym size')
      (λ n l.
      let e = o.count in
      let s = some_at (λ (a : Account). times n a.numbers) accounts (blank false) (let x = each n (omega arith) in omega arith) in
      let a = get_or accounts s.0 (blank false) in
      let p = place_of_number n a.numbers s.2 in
      let own = size s.0 (blank false) s.1 in
      let q : p.0 < length a.moves = let l1 = p.1 in omega arith in
      ap (λ z. get_or ms z none) (sym p.2) ∙ o.places s.0 (blank false) s.1 p.0 none q ∙ sym (place_in_order s.0 (blank false) s.1 p.0 none q)
      ∙ ap (λ z. get_or (moves_in_order accounts next) z none) p.2)

  pub in_order : AreInOrder accounts next (moves_in_order accounts next)
  in_order = record { count = length_in_order next (omega arith); places = λ k d l i m q. place_in_order k d l i m q }
