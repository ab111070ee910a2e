-- Where every pass is between two moves: the gain of a pass is what its own moves booked, and a Join leaves the order.
use Rattle.std.proofs.Common.{◌≡◌, ◌≢◌, ℕ, ◌-◌, ◌<◌, inl, inr, Bool, true, false, List, [], ◌∷◌, length, length-append, length-set, get_or, get_or-set_same}
use Rattle.std.proofs.Common.{get_or-set_other, set, nat_eq, nat_lt, if◌then◌else◌, All, ℤ, pos, ◌+ℤ◌, refl, sym, ap, ◌∙◌, arith}
use Rattle.std.specs.List.{range_with_len, flat_map}
use Rattle.std.proofs.lemmas.Int.{ints}
use Rattle.std.proofs.lemmas.Bool.{ltb-true, ne_eqb, eq-eqb, and_parts, cases_eq, cases_lt}
use Rattle.std.proofs.lemmas.List.{get_or_append_left, get_or-append_right}
use Rattle.std.proofs.lemmas.List.Elements.{All-head, All-tail, All-set}
use Rattle.hg_defs.specs.declared.moves.Move.{Move}
use Rattle.hg_defs.specs.Sums.{total_z}
use Rattle.hg_defs.proofs.SumLaws.{value_if, total_z-append, total_z-add, total_z-same, total_z-swap, total_z-zero, total_z-set, total_z-groups}
use Rattle.move_core.specs.declared.account.Account.{Account}
use Rattle.move_core.specs.declared.events.Event.TheVariants.{Join}
use Rattle.move_core.specs.State.{Setup, Readings, account_in, blank}
use Rattle.move_core.specs.Stages.{is_idle, booked_at}
use Rattle.move_core.specs.Events.{is_enabled_for, accounts_after_for, joined_with, first_word}
use Rattle.move_core.specs.Balance.{numbered_by}
use Rattle.move_core.specs.AtRest.{IsAtRest, AreLive, moves_in_order, booked_by_worker}
use Rattle.move_core.proofs.Words.{reads_itself}
use Rattle.move_core.proofs.TimesLaws.{same_default}
use Rattle.move_core.proofs.EventLaw.{allowed, live_below, event_balance}
use Rattle.move_core.proofs.RestedLaws.{idle_here, size, all_below, ordered, only_ordered}

-- ---- signed sums over the moves in order

total_z-flat_map : {A B : Type 0} (f : B → ℤ) (g : A → List B) (xs : List A) → total_z f (flat_map g xs) ≡ total_z (λ x. total_z f (g x)) xs
total_z-flat_map f g [] = refl
total_z-flat_map f g (x ∷ xs) = total_z-append f (g x) (flat_map g xs) ∙ ap (λ z. total_z f (g x) +ℤ z) (total_z-flat_map f g xs)

-- number by number, where all numbers are below a bound
numbers_below_z : (f : Move → ℤ) (j : ℕ) (ns : List ℕ) (ms : List Move) → length ns ≡ length ms → All (λ n. nat_lt n j ≡ true) ns
    → total_z (λ n. total_z f (numbered_by (λ x. nat_eq x n) ns ms)) (range_with_len 0 j) ≡ total_z f ms
numbers_below_z f j [] [] e h = total_z-zero (λ n. pos 0) (range_with_len 0 j) (λ k d l. refl)
numbers_below_z f j [] (m ∷ ms) e h = absurd (omega arith)
numbers_below_z f j (n ∷ ns) [] e h = absurd (omega arith)
numbers_below_z f j (n ∷ ns) (m ∷ ms) e h =
    let r = numbers_below_z f j ns ms (omega arith) (All-tail (λ x. nat_lt x j ≡ true) n ns h) in
    let one = total_z-groups (λ (x : Move). f x) (λ x. n) j (m ∷ []) (λ k d l. ltb-true n j (All-head (λ x. nat_lt x j ≡ true) n ns h)) in
    let same = total_z-same (λ i. total_z f (numbered_by (λ x. nat_eq x i) (n ∷ ns) (m ∷ ms)))
    (λ i. (value_if n i (f m) +ℤ pos 0) +ℤ total_z f (numbered_by (λ x. nat_eq x i) ns ms)) (range_with_len 0 j)
    (λ k d l. by (nat_eq n (get_or (range_with_len 0 j) k d)) (numbered_by (λ x. nat_eq x (get_or (range_with_len 0 j) k d)) ns ms)) in
    let add = total_z-add (λ i. value_if n i (f m) +ℤ pos 0) (λ i. total_z f (numbered_by (λ x. nat_eq x i) ns ms)) (range_with_len 0 j) in
    omega (arith, ints)
  where
    by : (b : Bool) (rest : List Move) → total_z f (if b then m ∷ rest else rest) ≡ ((if b then f m else pos 0) +ℤ pos 0) +ℤ total_z f rest
    by true rest = omega (arith, ints)
    by false rest = omega (arith, ints)

module _ (g : Setup) (r : Readings) (accounts : List Account) (rest : IsAtRest g r accounts) where
  -- a signed sum over the moves in order is that over the moves of each pass
  pub total_z_all : (f : Move → ℤ) → total_z f (moves_in_order accounts r.next) ≡ total_z (λ a. total_z f a.moves) accounts
  total_z_all f =
      let piece : ℕ → Account → List Move = λ n a. numbered_by (λ x. nat_eq x n) a.numbers a.moves in
      let xs = range_with_len 0 r.next in
      total_z-flat_map f (λ n. flat_map (piece n) accounts) xs
      ∙ total_z-same (λ n. total_z f (flat_map (piece n) accounts)) (λ n. total_z (λ a. total_z f (piece n a)) accounts) xs
      (λ k d l. total_z-flat_map f (piece (get_or xs k d)) accounts)
      ∙ total_z-swap (λ n a. total_z f (piece n a)) xs accounts
      ∙ total_z-same (λ a. total_z (λ n. total_z f (piece n a)) xs) (λ a. total_z f a.moves) accounts
      (λ k d l. numbers_below_z f r.next (get_or accounts k d).numbers (get_or accounts k d).moves (size g r accounts rest k d l)
      (all_below g r accounts rest k d l))

  -- ---- gains

  pub gains_own : All (λ a. a.gain ≡ total_z (λ m. m.booked) a.moves) accounts
  gains_own k d l =
      let a = get_or accounts k d in
      let e = rest.balance.gains k d l in
      let z : booked_at a.stage ≡ pos 0 = ap booked_at (idle_here g r accounts rest k d l) in
      omega (arith, ints)

  pub gains_of_workers : AreLive accounts → (i : ℕ) → i < length accounts → (account_in accounts i).gain ≡ booked_by_worker i
      (moves_in_order accounts r.next)
  gains_of_workers live i l =
      let by : Account → ℤ = λ a. booked_by_worker i a.moves in
      let all = total_z_all (λ m. if nat_eq m.worker i then m.booked else pos 0) in
      let changed = total_z-set by accounts i (blank false) (blank false) l in
      let others = total_z-zero by (set accounts i (blank false))
      (λ k d o.
      let n = length-set accounts i (blank false) in
      elim (cases_eq k i) [
        | inl e ↦ ap (λ z. by (get_or (set accounts i (blank false)) z d)) e ∙ ap by (get_or-set_same accounts i (blank false) d l)
        | inr q ↦ ap by (get_or-set_other accounts i k (blank false) d q) ∙ foreign k d (omega arith) q
      ]) in
      let own = gains_own i (blank false) l in
      let mine = total_z-same (λ m. if nat_eq m.worker i then m.booked else pos 0) (λ m. m.booked) (account_in accounts i).moves
      (λ j m o. ap (λ (b : Bool). if b then (get_or (account_in accounts i).moves j m).booked else pos 0)
      (eq-eqb (get_or (account_in accounts i).moves j m).worker i (worker_is i l j m o))) in
      omega (arith, ints)
    where
      worker_is : (k : ℕ) → k < length accounts → (j : ℕ) (m : Move) → j < length (account_in accounts k).moves
          → (get_or (account_in accounts k).moves j m).worker ≡ k
      worker_is k o j m q = rest.balance.workers.own k j m q (live (get_or (account_in accounts k).moves j m).worker (blank false)
          (rest.balance.workers.made k (blank false) o j m q))

      foreign : (k : ℕ) (d : Account) → k < length accounts → k ≢ i → booked_by_worker i (get_or accounts k d).moves ≡ pos 0
      foreign k d o q =
          ap (λ (a : Account). booked_by_worker i a.moves) (same_default accounts k d (blank false) o)
          ∙ total_z-zero (λ m. if nat_eq m.worker i then m.booked else pos 0) (account_in accounts k).moves
          (λ j m p. ap (λ (b : Bool). if b then (get_or (account_in accounts k).moves j m).booked else pos 0)
          (ne_eqb (get_or (account_in accounts k).moves j m).worker i (λ e. q (sym (worker_is k o j m p) ∙ e))))

  -- ---- a Join

  -- the books are at rest afterwards
  pub rest_joined : (i j : ℕ) → is_enabled_for g accounts (Join i j) ≡ true → IsAtRest g r (accounts_after_for g accounts (Join i j) 0)
  rest_joined i j h = record {
    setup = rest.setup;
    balance = event_balance g rest.setup r accounts rest.balance r (Join i j) h (reads_itself g (first_word g) r);
    idle = All-set (λ a. is_idle a.stage ≡ true) (set accounts i (joined_with (account_in accounts i) (account_in accounts j))) j (blank false) refl
        (All-set (λ a. is_idle a.stage ≡ true) accounts i (joined_with (account_in accounts i) (account_in accounts j))
        (rest.idle i (blank false) (allowed g accounts (Join i j) h).place) rest.idle);
  }

  pub order_joined : (i j : ℕ) → is_enabled_for g accounts (Join i j) ≡ true
      → moves_in_order (accounts_after_for g accounts (Join i j) 0) r.next ≡ moves_in_order accounts r.next
  order_joined i j h =
      let ms = moves_in_order accounts r.next in
      let a = account_in accounts i in
      let c = account_in accounts j in
      let o = ordered g r accounts rest in
      let p = allowed g accounts (Join i j) h in
      let lj = live_below accounts j (and_parts c.live (is_idle c.stage) p.others).0 in
      let places : Account → Type 0 = λ x. (k : ℕ) (m : Move) → k < length x.moves → get_or ms (get_or x.numbers k 0) m ≡ get_or x.moves k m in
      sym (only_ordered g r (accounts_after_for g accounts (Join i j) 0) (rest_joined i j h) ms (record {
        count = o.count;
        places =
            All-set places (set accounts i (joined_with a c)) j (blank false) (λ k m l. absurd (omega arith))
            (All-set places accounts i (joined_with a c)
            (λ k m l.
            let s = size g r accounts rest i (blank false) p.place in
            let t = length-append a.moves c.moves in
            elim (cases_lt k (length a.moves)) [
              | inl q ↦
                  ap (λ z. get_or ms z m) (get_or_append_left a.numbers c.numbers 0 k (omega arith))
                  ∙ o.places i (blank false) p.place k m q
                  ∙ sym (get_or_append_left a.moves c.moves m k q)
              | inr q ↦
                  ap (λ z. get_or ms z m) (get_or-append_right a.numbers c.numbers (length a.moves) k 0 s q)
                  ∙ o.places j (blank false) lj (k - length a.moves) m (omega arith)
                  ∙ sym (get_or-append_right a.moves c.moves (length a.moves) k m refl q)
            ])
            o.places);
      }))
