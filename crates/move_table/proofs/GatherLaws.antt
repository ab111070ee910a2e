-- The moves of all passes together, and of one pass that has taken the others over.
use Rattle.std.proofs.Common.{◌≡◌, ◌≢◌, ℕ, zero, suc, ◌+◌, ◌-◌, ◌<◌, ◌≤◌, inl, inr, Bool, true, false, List, [], ◌∷◌, ◌++◌, map, length}
use Rattle.std.proofs.Common.{length-append, take, drop, get_or, slice_index, slice_index_or}
use Rattle.std.proofs.Common.{nat_eq, if◌then◌else◌, All, ℤ, pos, ◌+ℤ◌, refl, sym, ap, ◌∙◌, subst, arith}
use Rattle.std.proofs.lemmas.Int.{ints}
use Rattle.std.proofs.lemmas.Bool.{cases_eq, cases_lt, eq-eqb, ne_eqb}
use Rattle.std.proofs.lemmas.List.{get_or_append_left, get_or-append-add}
use Rattle.std.proofs.Math.Seq.{take-suc}
use mathlib.Core.List.{map-append}
use Rattle.std.proofs.lemmas.List.Elements.{All-head, All-tail}
use Rattle.hg_defs.specs.declared.moves.Move.{Move}
use Rattle.hg_defs.specs.Sums.{total, total_z}
use Rattle.hg_defs.proofs.SumLaws.{weight_if, weight_if-same, total-append, total_z-append}
use Rattle.move_core.specs.State.{times}
use Rattle.move_core.specs.AtRest.{booked_by_worker}
use Rattle.move_core.proofs.TimesLaws.{times_at}
use Rattle.move_table.specs.declared.view.View.{View}
use Rattle.move_table.specs.Calls.{RacedPass}
use Rattle.move_table.specs.Closing.{IsKeptPass, all_moves, all_numbers, all_gains, united_all}

-- an item that is there, whatever else would be told
pub same_default : {A : Type 0} (xs : List A) (i : ℕ) (d e : A) → i < length xs → get_or xs i d ≡ get_or xs i e
same_default [] i d e l = absurd (omega arith)
same_default (x ∷ xs) zero d e l = refl
same_default (x ∷ xs) (suc i) d e l = same_default xs i d e (omega arith)

-- numbers of which each stands once are apart
pub apart_from_times : (xs : List ℕ) → ((i : ℕ) → times i xs ≤ 1) → (j k : ℕ) → j < length xs → k < length xs → j ≢ k → slice_index xs j ≢ slice_index xs k
apart_from_times [] h j k lj lk n e = absurd (omega arith)
apart_from_times (x ∷ xs) h zero zero lj lk n e = n refl
apart_from_times (x ∷ xs) h zero (suc k) lj lk n e =
    let s = times_at xs k 0 (omega arith) in
    let w = weight_if-same x (slice_index xs k) 1 e in
    let o = h (slice_index xs k) in
    absurd (omega arith)
apart_from_times (x ∷ xs) h (suc j) zero lj lk n e =
    let s = times_at xs j 0 (omega arith) in
    let w = weight_if-same x (slice_index xs j) 1 (sym e) in
    let o = h (slice_index xs j) in
    absurd (omega arith)
apart_from_times (x ∷ xs) h (suc j) (suc k) lj lk n e = apart_from_times xs (λ i. let o = h i in omega arith) j k (omega arith) (omega arith)
    (λ q. n (ap suc q)) e

-- moves that stand in a list at the places of their numbers
abbrev pub ArePlaced : List Move → List ℕ → List Move → Type 0
ArePlaced out numbers moves = (k : ℕ) (m : Move) → k < length moves → slice_index_or out (slice_index numbers k) m ≡ slice_index_or moves k m

pub placed_both : (out : List Move) (n1 n2 : List ℕ) (m1 m2 : List Move) → length n1 ≡ length m1 → ArePlaced out n1 m1 → ArePlaced out n2 m2 →
    ArePlaced out (n1 ++ n2) (m1 ++ m2)
placed_both out n1 n2 m1 m2 w a b k m l =
    let n = length-append m1 m2 in
    elim (cases_lt k (length m1)) [
      | inl q ↦
          ap (λ x. slice_index_or out x m) (get_or_append_left n1 n2 0 k (omega arith)) ∙ a k m q ∙ sym (get_or_append_left m1 m2 m k q)
      | inr q ↦
          let d : ℕ = k - length m1 in
          let e : k ≡ length m1 + d = omega arith in
          let f : k ≡ length n1 + d = omega arith in
          ap (λ x. slice_index_or out x m) (ap (λ i. get_or (n1 ++ n2) i 0) f ∙ get_or-append-add n1 n2 d 0) ∙ b d m (omega arith) ∙
          sym (ap (λ i. get_or (m1 ++ m2) i m) e ∙ get_or-append-add m1 m2 d m)
    ]

pub placed_left : (out : List Move) (n1 n2 : List ℕ) (m1 m2 : List Move) → length n1 ≡ length m1 → ArePlaced out (n1 ++ n2) (m1 ++ m2) → ArePlaced out n1 m1
placed_left out n1 n2 m1 m2 w a k m l =
    let n = length-append m1 m2 in
    ap (λ x. slice_index_or out x m) (sym (get_or_append_left n1 n2 0 k (omega arith))) ∙ a k m (omega arith) ∙ get_or_append_left m1 m2 m k l

pub placed_right : (out : List Move) (n1 n2 : List ℕ) (m1 m2 : List Move) → length n1 ≡ length m1 → ArePlaced out (n1 ++ n2) (m1 ++ m2) →
    ArePlaced out n2 m2
placed_right out n1 n2 m1 m2 w a k m l =
    let n = length-append m1 m2 in
    ap (λ x. slice_index_or out x m) (sym (ap (λ x. get_or (n1 ++ n2) (x + k) 0) (sym w) ∙ get_or-append-add n1 n2 k 0)) ∙
    a (length m1 + k) m (omega arith) ∙
    get_or-append-add m1 m2 k m

-- each pass has drawn as many numbers as it has moves
abbrev pub AreNumbered : List RacedPass → Type 0
AreNumbered ps = All (λ p. length p.view.account.numbers ≡ length p.view.account.moves) ps

-- as many numbers as moves
pub all_numbered : (ps : List RacedPass) → AreNumbered ps → length (all_numbers ps) ≡ length (all_moves ps)
all_numbered [] h = refl
all_numbered (p ∷ ps) h =
    let r = all_numbered ps (All-tail (λ (z : RacedPass). length z.view.account.numbers ≡ length z.view.account.moves) p ps h) in
    let o = All-head (λ (z : RacedPass). length z.view.account.numbers ≡ length z.view.account.moves) p ps h in
    let a = length-append p.view.account.numbers (all_numbers ps) in
    let b = length-append p.view.account.moves (all_moves ps) in
    omega arith

-- ---- one pass that has taken the others over

pub united_moves-total : (f : Move → ℕ) (v : View) (ps : List RacedPass) → total f (united_all v ps).account.moves ≡ total f v.account.moves + total f
    (all_moves ps)
united_moves-total f v [] = omega arith
united_moves-total f v (p ∷ ps) =
    let r = united_moves-total f v ps in
    let a = total-append f (united_all v ps).account.moves p.view.account.moves in
    let b = total-append f p.view.account.moves (all_moves ps) in
    omega arith

pub united_moves-total_z : (f : Move → ℤ) (v : View) (ps : List RacedPass) → total_z f (united_all v ps).account.moves ≡ total_z f v.account.moves +ℤ
    total_z f
    (all_moves ps)
united_moves-total_z f v [] = nothing (total_z f v.account.moves)
  where
    nothing : (x : ℤ) → x ≡ x +ℤ pos 0
    nothing x = omega (arith, ints)
united_moves-total_z f v (p ∷ ps) =
    let r = united_moves-total_z f v ps in
    let a = total_z-append f (united_all v ps).account.moves p.view.account.moves in
    let b = total_z-append f p.view.account.moves (all_moves ps) in
    omega (arith, ints)

pub united_numbers-times : (i : ℕ) (v : View) (ps : List RacedPass) → times i (united_all v ps).account.numbers ≡ times i v.account.numbers + times i
    (all_numbers ps)
united_numbers-times i v [] = omega arith
united_numbers-times i v (p ∷ ps) =
    let r = united_numbers-times i v ps in
    let a = total-append (λ x. weight_if x i 1) (united_all v ps).account.numbers p.view.account.numbers in
    let b = total-append (λ x. weight_if x i 1) p.view.account.numbers (all_numbers ps) in
    omega arith

pub united_gain : (v : View) (ps : List RacedPass) → (united_all v ps).account.gain ≡ v.account.gain +ℤ total_z (λ g. g) (all_gains ps)
united_gain v [] = nothing v.account.gain
  where
    nothing : (x : ℤ) → x ≡ x +ℤ pos 0
    nothing x = omega (arith, ints)
united_gain v (p ∷ ps) = let r = united_gain v ps in omega (arith, ints)

united_numbered : (v : View) (ps : List RacedPass) → length v.account.numbers ≡ length v.account.moves → AreNumbered ps →
    length (united_all v ps).account.numbers ≡ length (united_all v ps).account.moves
united_numbered v [] h q = h
united_numbered v (p ∷ ps) h q =
    let r = united_numbered v ps h (All-tail (λ (z : RacedPass). length z.view.account.numbers ≡ length z.view.account.moves) p ps q) in
    let o = All-head (λ (z : RacedPass). length z.view.account.numbers ≡ length z.view.account.moves) p ps q in
    let a = length-append (united_all v ps).account.numbers p.view.account.numbers in
    let b = length-append (united_all v ps).account.moves p.view.account.moves in
    omega arith

-- where the moves of all passes are placed, so are those of the pass that has taken them over
pub united_placed : (out : List Move) (v : View) (ps : List RacedPass) → length v.account.numbers ≡ length v.account.moves → AreNumbered ps →
    ArePlaced out v.account.numbers v.account.moves → ArePlaced out (all_numbers ps) (all_moves ps) → ArePlaced out (united_all v ps).account.numbers
    (united_all v ps).account.moves
united_placed out v [] h q a b = a
united_placed out v (p ∷ ps) h q a b =
    let rest = All-tail (λ (z : RacedPass). length z.view.account.numbers ≡ length z.view.account.moves) p ps q in
    let own = All-head (λ (z : RacedPass). length z.view.account.numbers ≡ length z.view.account.moves) p ps q in
    placed_both out (united_all v ps).account.numbers p.view.account.numbers (united_all v ps).account.moves p.view.account.moves
    (united_numbered v ps h rest)
    (united_placed out v ps h rest a (placed_right out p.view.account.numbers (all_numbers ps) p.view.account.moves (all_moves ps) own b))
    (placed_left out p.view.account.numbers (all_numbers ps) p.view.account.moves (all_moves ps) own b)

pub united_length : (v : View) (ps : List RacedPass) → length (united_all v ps).account.moves ≡ length v.account.moves + length (all_moves ps)
united_length v [] = omega arith
united_length v (p ∷ ps) =
    let r = united_length v ps in
    let a = length-append (united_all v ps).account.moves p.view.account.moves in
    let b = length-append p.view.account.moves (all_moves ps) in
    omega arith

-- ---- what each worker booked

-- a pass has booked what its moves did, each of which bears its number
pub record IsBookedBy (i : ℕ) (p : RacedPass) : Type 0 where
  pub gain : p.view.account.gain ≡ total_z (λ m. m.booked) p.view.account.moves
  pub own : All (λ m. m.worker ≡ i) p.view.account.moves

own_moves : (i j : ℕ) (ms : List Move) → All (λ m. m.worker ≡ j) ms → booked_by_worker i ms ≡ (if nat_eq j i then total_z (λ m. m.booked) ms else pos 0)
own_moves i j [] h = by (nat_eq j i)
  where
    by : (z : Bool) → ◌≡◌ {A = ℤ} (pos 0) (if z then pos 0 else pos 0)
    by true = refl
    by false = refl
own_moves i j (m ∷ ms) h =
    let w = All-head (λ (x : Move). x.worker ≡ j) m ms h in
    let r = own_moves i j ms (All-tail (λ (x : Move). x.worker ≡ j) m ms h) in
    ap (λ x. (if nat_eq x i then m.booked else pos 0) +ℤ booked_by_worker i ms) w ∙ ap (λ x. (if nat_eq j i then m.booked else pos 0) +ℤ x) r ∙
    by (nat_eq j i)
  where
    by : (z : Bool) → (if z then m.booked else pos 0) +ℤ (if z then total_z (λ (x : Move). x.booked) ms else pos 0) ≡
        (if z then m.booked +ℤ total_z (λ (x : Move). x.booked) ms else pos 0)
    by true = refl
    by false = refl

-- passes with the numbers from a first one on
abbrev pub AreBooked : ℕ → List RacedPass → Type 0
AreBooked a ps = (j : ℕ) (p : RacedPass) → j < length ps → IsBookedBy (a + j) (slice_index_or ps j p)

booked_tail : (a : ℕ) (p : RacedPass) (ps : List RacedPass) → AreBooked a (p ∷ ps) → AreBooked (suc a) ps
booked_tail a p ps h j d l =
    let e : a + suc j ≡ suc a + j = omega arith in
    subst (λ n. IsBookedBy n (slice_index_or ps j d)) e (h (suc j) d (omega arith))

pub booked_elsewhere : (a i : ℕ) (ps : List RacedPass) → AreBooked a ps → i < a → booked_by_worker i (all_moves ps) ≡ pos 0
booked_elsewhere a i [] h l = refl
booked_elsewhere a i (p ∷ ps) h l =
    let o = h 0 p (omega arith) in
    let none : a + 0 ≡ a = omega arith in
    let first = own_moves i a p.view.account.moves (subst (λ n. All (λ (m : Move). m.worker ≡ n) p.view.account.moves) none o.own) ∙
    ap (λ z. if z then total_z (λ (m : Move). m.booked) p.view.account.moves else pos 0) (ne_eqb a i (λ e. absurd (omega arith))) in
    let rest = booked_elsewhere (suc a) i ps (booked_tail a p ps h) (omega arith) in
    let s = total_z-append (λ (m : Move). if nat_eq m.worker i then m.booked else pos 0) p.view.account.moves (all_moves ps) in
    s ∙ ap (λ x. x +ℤ booked_by_worker i (all_moves ps)) first ∙ ap (λ x. pos 0 +ℤ x) rest

pub booked_here : (a j : ℕ) (ps : List RacedPass) → AreBooked a ps → j < length ps → booked_by_worker (a + j) (all_moves ps) ≡ slice_index_or
    (all_gains ps) j
    (pos 0)
booked_here a j [] h l = absurd (omega arith)
booked_here a zero (p ∷ ps) h l =
    let o = h 0 p (omega arith) in
    let none : a + 0 ≡ a = omega arith in
    let own = own_moves a a p.view.account.moves (subst (λ n. All (λ m. m.worker ≡ n) p.view.account.moves) none o.own) ∙
    ap (λ z. if z then total_z (λ (m : Move). m.booked) p.view.account.moves else pos 0) (eq-eqb a a refl) in
    let rest = booked_elsewhere (suc a) a ps (booked_tail a p ps h) (omega arith) in
    let s = total_z-append (λ (m : Move). if nat_eq m.worker a then m.booked else pos 0) p.view.account.moves (all_moves ps) in
    ap (λ n. booked_by_worker n (all_moves (p ∷ ps))) none ∙ s ∙ ap (λ x. x +ℤ booked_by_worker a (all_moves ps)) own ∙
    ap (λ x. total_z (λ (m : Move). m.booked) p.view.account.moves +ℤ x) rest ∙ nothing (total_z (λ (m : Move). m.booked) p.view.account.moves) ∙ sym o.gain
  where
    nothing : (x : ℤ) → x +ℤ pos 0 ≡ x
    nothing x = omega (arith, ints)
booked_here a (suc j) (p ∷ ps) h l =
    let o = h 0 p (omega arith) in
    let next : a + suc j ≡ suc a + j = omega arith in
    let none : a + 0 ≡ a = omega arith in
    let first = own_moves (suc a + j) a p.view.account.moves (subst (λ n. All (λ (m : Move). m.worker ≡ n) p.view.account.moves) none o.own) ∙
    ap (λ z. if z then total_z (λ (m : Move). m.booked) p.view.account.moves else pos 0) (ne_eqb a (suc a + j) (λ e. absurd (omega arith))) in
    let rest = booked_here (suc a) j ps (booked_tail a p ps h) (omega arith) in
    let s = total_z-append (λ (m : Move). if nat_eq m.worker (suc a + j) then m.booked else pos 0) p.view.account.moves (all_moves ps) in
    ap (λ n. booked_by_worker n (all_moves (p ∷ ps))) next ∙ s ∙ ap (λ x. x +ℤ booked_by_worker (suc a + j) (all_moves ps)) first ∙
    nothing (booked_by_worker (suc a + j) (all_moves ps)) ∙ rest
  where
    nothing : (x : ℤ) → pos 0 +ℤ x ≡ x
    nothing x = omega (arith, ints)

-- ---- the loops

pub gains_more : {gain : ℤ} (gains items : List ℤ) (ps : List RacedPass) (i : ℕ) (p : RacedPass) → items ≡ gains ++ gain ∷ [] →
    gains ≡ all_gains (take i ps) →
    gain ≡ p.view.account.gain → p ≡ get_or ps i p → i < length ps → items ≡ all_gains (take (i + 1) ps)
gains_more {gain} gains items ps i p e h o q l =
    let f : RacedPass → ℤ = λ z. z.view.account.gain in
    e ∙ ap (λ ys. ys ++ gain ∷ []) h ∙ ap (λ y. all_gains (take i ps) ++ y ∷ []) (o ∙ ap f q) ∙ sym (map-append f (take i ps) (get_or ps i p ∷ [])) ∙
    ap (map f) (sym (take-suc ps i p l)) ∙ ap (λ n. map f (take n ps)) (sym (one i))
  where
    one : (n : ℕ) → n + 1 ≡ suc n
    one n = omega arith

pub kept_more : (ps : List RacedPass) (i : ℕ) (p : RacedPass) → p ≡ get_or ps i p → i < length ps → IsKeptPass p →
    ((k : ℕ) (d : RacedPass) → k < i → IsKeptPass (slice_index_or ps k d)) → (k : ℕ) (d : RacedPass) → k < i + 1 → IsKeptPass (slice_index_or ps k d)
kept_more ps i p q l own h k d m =
    elim (cases_eq k i) [
      | inl e ↦ subst IsKeptPass (q ∙ same_default ps i p d l ∙ ap (λ j. get_or ps j d) (sym e)) own
      | inr n ↦ h k d (omega arith)
    ]

-- the pass that has taken others over is at rest as it was
pub record IsAsBefore (v u : View) : Type 0 where
  pub live : u.account.live ≡ v.account.live
  pub stage : u.account.stage ≡ v.account.stage
  pub number : u.number ≡ v.number
  pub terms : u.terms ≡ v.terms

pub united_as_before : (v : View) (ps : List RacedPass) → IsAsBefore v (united_all v ps)
united_as_before v [] = record { live = refl; stage = refl; number = refl; terms = refl }
united_as_before v (p ∷ ps) = let r = united_as_before v ps in record { live = r.live; stage = r.stage; number = r.number; terms = r.terms }

pub united_stands : (v : View) (ps : List RacedPass) → v.stands + v.may ≡ 1 → All (λ p. p.view.stands + p.view.may ≡ 1) ps →
    (united_all v ps).stands + (united_all v ps).may ≡ length ps + 1
united_stands v [] h a = omega arith
united_stands v (p ∷ ps) h a =
    let r = united_stands v ps h (All-tail (λ (z : RacedPass). z.view.stands + z.view.may ≡ 1) p ps a) in
    let o = All-head (λ (z : RacedPass). z.view.stands + z.view.may ≡ 1) p ps a in
    omega arith

-- what holds of all passes holds of the one that is taken over next
pub from_end : (P : RacedPass → Type 0) (ps rest front taken : List RacedPass) (p : RacedPass) →
    ((i : ℕ) (d : RacedPass) → i < length ps → P (slice_index_or ps i d)) → drop 1 ps ≡ rest ++ taken → rest ≡ front ++ p ∷ [] → P p
from_end P [] rest front taken p h e f =
    let a = ap (λ (xs : List RacedPass). length xs) e in
    let b = ap (λ (xs : List RacedPass). length xs) f in
    let c = length-append rest taken in
    let d = length-append front (p ∷ []) in
    absurd (omega arith)
from_end P (x ∷ xs) rest front taken p h e f =
    let n = length front in
    let a = ap (λ (ys : List RacedPass). length ys) e in
    let b = ap (λ (ys : List RacedPass). length ys) f in
    let c = length-append rest taken in
    let d = length-append front (p ∷ []) in
    let none : n + 0 ≡ n = omega arith in
    subst P
    (ap (λ ys. get_or ys n p) e ∙ get_or_append_left rest taken p n (omega arith) ∙ ap (λ ys. get_or ys n p) f ∙ ap (λ j. get_or (front ++ p ∷ []) j p)
    (sym none) ∙ get_or-append-add front (p ∷ []) 0 p)
    (h (suc n) p (omega arith))
