-- The clause on prefixes: where the moves with their numbers stay, and after a Draw.
use Rattle.std.proofs.Common.{◌≡◌, ℕ, ◌+◌, ◌<◌, ◌≤◌, inl, inr, Bool, true, false, List, [], ◌∷◌, ◌++◌, length, length-append}
use Rattle.std.proofs.Common.{get_or, set, nat_lt, nat_eq, if◌then◌else◌, All, refl, ap, ◌∙◌, subst, arith}
use Rattle.std.proofs.lemmas.Bool.{cases_lt, lt-ltb, le-ltb}
use Rattle.std.proofs.lemmas.List.Elements.{All-head, All-tail}
use Rattle.hg_defs.specs.declared.moves.Move.{Move}
use Rattle.hg_defs.specs.Sums.{total}
use Rattle.hg_defs.specs.Hypergraph.{Hyper, weight_of}
use Rattle.hg_defs.specs.Partition.{load}
use Rattle.hg_defs.proofs.SumLaws.{total-append, total-le, total-add, total_at-le}
use Rattle.move_core.specs.declared.account.Account.{Account}
use Rattle.move_core.specs.declared.account.Stage.{Stage}
use Rattle.move_core.specs.declared.account.Stage.TheVariants.{Idle, Refused, Granted, Moving}
use Rattle.move_core.specs.State.{Setup, Readings, times, blank}
use Rattle.move_core.specs.Stages.{number_at, move_at}
use Rattle.move_core.specs.Balance.{Loads, Numbers, Prefixes, drawn, numbered_by, moves_before, arrived, departed, reserved_weight, refused_weight}
use Rattle.move_core.proofs.TimesLaws.{total_unchanged, All_from_times}

-- numbered moves in two parts
pub total-numbered : (f : Move → ℕ) (test : ℕ → Bool) (ns os : List ℕ) (ms ks : List Move) → length ns ≡ length ms
    → total f (numbered_by test (ns ++ os) (ms ++ ks)) ≡ total f (numbered_by test ns ms) + total f (numbered_by test os ks)
total-numbered f test [] os [] ks e = omega arith
total-numbered f test [] os (m ∷ ms) ks e = absurd (omega arith)
total-numbered f test (n ∷ ns) os [] ks e = absurd (omega arith)
total-numbered f test (n ∷ ns) os (m ∷ ms) ks e = by (test n) (total-numbered f test ns os ms ks (omega arith))
  where
    by : (b : Bool) → total f (numbered_by test (ns ++ os) (ms ++ ks)) ≡ total f (numbered_by test ns ms) + total f (numbered_by test os ks)
        → total f (if b then m ∷ numbered_by test (ns ++ os) (ms ++ ks) else numbered_by test (ns ++ os) (ms ++ ks))
        ≡ total f (if b then m ∷ numbered_by test ns ms else numbered_by test ns ms) + total f (numbered_by test os ks)
    by true r = omega arith
    by false r = r

-- and with one move more
pub total-numbered_push : (f : Move → ℕ) (test : ℕ → Bool) (ns : List ℕ) (ms : List Move) (n : ℕ) (m : Move) → length ns ≡ length ms
    → total f (numbered_by test (ns ++ n ∷ []) (ms ++ m ∷ [])) ≡ total f (numbered_by test ns ms) + (if test n then f m else 0)
total-numbered_push f test ns ms n m e = total-numbered f test ns (n ∷ []) ms (m ∷ []) e ∙ ap (λ z. total f (numbered_by test ns ms) + z) (by (test n))
  where
    by : (b : Bool) → total f (if b then m ∷ [] else []) ≡ (if b then f m else 0)
    by true = omega arith
    by false = refl

pub numbered-none : (test : ℕ → Bool) (ns : List ℕ) → numbered_by test ns [] ≡ []
numbered-none test [] = refl
numbered-none test (n ∷ ns) = refl

-- all moves, where all numbers pass
pub numbered-all : (test : ℕ → Bool) (ns : List ℕ) (ms : List Move) → length ns ≡ length ms → All (λ n. test n ≡ true) ns → numbered_by test ns ms ≡ ms
numbered-all test [] [] e h = refl
numbered-all test [] (m ∷ ms) e h = absurd (omega arith)
numbered-all test (n ∷ ns) [] e h = absurd (omega arith)
numbered-all test (n ∷ ns) (m ∷ ms) e h =
    ap (λ b. if b then m ∷ numbered_by test ns ms else numbered_by test ns ms) (All-head (λ z. test z ≡ true) n ns h)
    ∙ ap (λ z. m ∷ z) (numbered-all test ns ms (omega arith) (All-tail (λ z. test z ≡ true) n ns h))

-- the move in hand
one_number : (stage : Stage) → length (number_at stage) ≡ length (move_at 0 stage)
one_number Idle = refl
one_number (Refused v to seen) = refl
one_number (Granted v from to seen) = refl
one_number (Moving v from to number named raised lowered owed booked) = refl

arrived_at : (h : Hyper) (b : ℕ) (stage : Stage) → arrived h b (move_at 0 stage) + refused_weight h b stage ≤ reserved_weight h b stage
arrived_at h b Idle = omega arith
arrived_at h b (Refused v to seen) = omega arith
arrived_at h b (Granted v from to seen) = omega arith
arrived_at h b (Moving v from to number named raised lowered owed booked) = omega arith

-- all moves that were drawn, together: the loads tell that they fit
pub prefixes_all : (s : Setup) (r : Readings) (accounts : List Account) → Loads s r accounts → Numbers r accounts → (i b : ℕ) → r.next ≤ i → b < s.blocks
    → load s.graph s.opening b + total (λ a. arrived s.graph b (moves_before i a)) accounts ≤ s.limit
    + total (λ a. departed s.graph b (moves_before i a)) accounts
prefixes_all s r accounts w n i b q l =
    let word = w.word b l in
    let limit = w.limit b l in
    let x = total-add (λ (a : Account). arrived s.graph b (moves_before i a)) (λ a. refused_weight s.graph b a.stage) accounts in
    let y = total-le (λ (a : Account). arrived s.graph b (moves_before i a) + refused_weight s.graph b a.stage)
    (λ a. reserved_weight s.graph b a.stage + arrived s.graph b a.moves) accounts
    (λ k d p.
    let a = get_or accounts k d in
    let e = ap (arrived s.graph b) (every k d p) in
    let f = total-append (λ (m : Move). if nat_eq m.to b then weight_of s.graph m.vertex else 0) a.moves (move_at 0 a.stage) in
    let g = arrived_at s.graph b a.stage in
    omega arith) in
    let z = total-le (λ (a : Account). departed s.graph b a.moves) (λ a. departed s.graph b (moves_before i a)) accounts
    (λ k d p.
    let a = get_or accounts k d in
    let e = ap (departed s.graph b) (every k d p) in
    let f = total-append (λ (m : Move). if nat_eq m.from b then weight_of s.graph m.vertex else 0) a.moves (move_at 0 a.stage) in
    omega arith) in
    omega arith
  where
    every : (k : ℕ) (d : Account) → k < length accounts → moves_before i (get_or accounts k d)
        ≡ (get_or accounts k d).moves ++ move_at 0 (get_or accounts k d).stage
    every k d p =
        let a = get_or accounts k d in
        numbered-all (λ x. nat_lt x i) (drawn a) (a.moves ++ move_at 0 a.stage)
        (let e = n.lengths k d p in let f = one_number a.stage in let g = length-append a.numbers (number_at a.stage) in let o =
        length-append a.moves (move_at 0 a.stage) in omega arith)
        (All_from_times (λ x. nat_lt x i ≡ true) (drawn a)
        (λ x t.
        elim (cases_lt x i) [
          | inl u ↦ lt-ltb x i u
          | inr u ↦
              let f = subst (λ c. total (λ (z : Account). times x (drawn z)) accounts ≡ (if c then 1 else 0)) (le-ltb x r.next (omega arith)) (n.each x) in
              let g = total_at-le (λ (z : Account). times x (drawn z)) accounts k d p in
              absurd (omega arith)
        ]))

module _ (s : Setup) (accounts : List Account) (i : ℕ) (a a' : Account) (l : i < length accounts) (at : get_or accounts i (blank false) ≡ a)
    (c : Prefixes s accounts) where
  -- one bound, where the account has the same moves below it
  same_before : (j b : ℕ) → b < s.blocks → arrived s.graph b (moves_before j a') ≡ arrived s.graph b (moves_before j a)
      → departed s.graph b (moves_before j a') ≡ departed s.graph b (moves_before j a)
      → load s.graph s.opening b + total (λ x. arrived s.graph b (moves_before j x)) (set accounts i a') ≤ s.limit
      + total (λ x. departed s.graph b (moves_before j x)) (set accounts i a')
  same_before j b k e f =
      let x = total_unchanged accounts i a a' l at (λ z. arrived s.graph b (moves_before j z)) e in
      let y = total_unchanged accounts i a a' l at (λ z. departed s.graph b (moves_before j z)) f in
      let z = c.fit j b k in
      omega arith

  pub prefixes_kept : ((f : ℕ → ℕ → ℕ → ℕ) (j : ℕ) → total (λ m. f m.vertex m.from m.to) (moves_before j a')
      ≡ total (λ m. f m.vertex m.from m.to) (moves_before j a)) → Prefixes s (set accounts i a')
  prefixes_kept e = record {
    fit = λ j b k. same_before j b k (e (λ v from to. if nat_eq to b then weight_of s.graph v else 0) j)
        (e (λ v from to. if nat_eq from b then weight_of s.graph v else 0) j);
  }

  -- Draw
  pub prefixes_drawn : (r' : Readings) (n : ℕ) (m : Move) → length a.numbers ≡ length a.moves → number_at a.stage ≡ [] → move_at 0 a.stage ≡ []
      → a'.numbers ≡ a.numbers → a'.moves ≡ a.moves → number_at a'.stage ≡ n ∷ [] → move_at 0 a'.stage ≡ m ∷ [] → r'.next ≡ n + 1
      → Loads s r' (set accounts i a') → Numbers r' (set accounts i a') → Prefixes s (set accounts i a')
  prefixes_drawn r' n m size none none' ns ms one one' next w numbers = record {
    fit = λ j b k.
        elim (cases_lt j r'.next) [
          | inl q ↦ same_before j b k (earlier (λ z. if nat_eq z.to b then weight_of s.graph z.vertex else 0) j (omega arith))
              (earlier (λ z. if nat_eq z.from b then weight_of s.graph z.vertex else 0) j (omega arith))
          | inr q ↦ prefixes_all s r' (set accounts i a') w numbers j b q k
        ];
  }
    where
      earlier : (f : Move → ℕ) (j : ℕ) → j ≤ n → total f (moves_before j a') ≡ total f (moves_before j a)
      earlier f j q =
          let t : ℕ → Bool = λ x. nat_lt x j in
          let x = ap (λ z. total f (numbered_by t (z ++ number_at a'.stage) (a'.moves ++ move_at 0 a'.stage))) ns in
          let y = ap (λ z. total f (numbered_by t (a.numbers ++ number_at a'.stage) (z ++ move_at 0 a'.stage))) ms in
          let u = ap (λ z. total f (numbered_by t (a.numbers ++ z) (a.moves ++ move_at 0 a'.stage))) one in
          let v = ap (λ z. total f (numbered_by t (a.numbers ++ n ∷ []) (a.moves ++ z))) one' in
          let p = total-numbered f t a.numbers (n ∷ []) a.moves (m ∷ []) size in
          let o = ap (λ c. total f (if c then m ∷ [] else [])) (le-ltb n j q) in
          let g = ap (λ z. total f (numbered_by t (a.numbers ++ z) (a.moves ++ move_at 0 a.stage))) none in
          let h = ap (λ z. total f (numbered_by t (a.numbers ++ []) (a.moves ++ z))) none' in
          let e = total-numbered f t a.numbers [] a.moves [] size in
          omega arith
