-- What the last state of a table tells, once one pass has taken all others over.
use Rattle.std.proofs.Common.{◌≡◌, ◌≢◌, ℕ, ◌+◌, ◌<◌, ◌≤◌, inl, inr, Bool, true, false, List, length, length-set, get_or, get_or-set_other, set, slice_index}
use Rattle.std.proofs.Common.{slice_index_or, nat_eq, nat_lt, if◌then◌else◌, All, AllPairs, ℤ, pos, ◌-ℤ◌, refl, sym, ap, ◌∙◌, subst, arith}
use Rattle.std.proofs.lemmas.Int.{ints}
use Rattle.std.proofs.lemmas.Bool.{cases_eq, cases_lt, le-ltb}
use Rattle.std.proofs.lemmas.List.{length-map, get_or-map}
use mathlib.Core.Option.{some}
use lib.ListN.{get_elem?}
use Rattle.hg_defs.specs.declared.moves.Move.{Move}
use Rattle.hg_defs.specs.Sums.{total, total_z}
use Rattle.hg_defs.specs.Partition.{Fits}
use Rattle.hg_defs.specs.Cost.{cost}
use Rattle.hg_defs.specs.Replay.{replay}
use Rattle.hg_defs.proofs.SumLaws.{weight_if, total-append, total-ones, total-zero, total-set, total_at-le, total_z-zero}
use Rattle.round_log.specs.Rounds.{AreRacedMoves}
use Rattle.round_log.specs.Rounds as rounds
use Rattle.move_core.specs.declared.account.Account.{Account}
use Rattle.move_core.specs.State.{Setup, Readings, times, blank}
use Rattle.move_core.specs.Stages.{is_idle, number_at}
use Rattle.move_core.specs.Balance.{drawn}
use Rattle.move_core.specs.AtRest.{IsAtRest, AreInOrder, moves_in_order, booked_by_worker}
use Rattle.move_core.proofs.TimesLaws.{all_changed_others, total_changed, total_z_changed, total_at}
use Rattle.move_core.proofs.RestedLaws.{ordered, only_ordered, total_all, round_moves, moved_apart, closing_fits, saved}
use Rattle.move_core.proofs.WorkerSums.{total_z_all}
use Rattle.move_table.specs.declared.view.Terms.{Terms}
use Rattle.move_table.specs.declared.view.View.{View}
use Rattle.move_table.specs.Places.{table_readings}
use Rattle.move_table.specs.Standing.{terms_setup, IsStanding, spent_view}
use Rattle.move_table.specs.Steps.{IsResting}
use Rattle.move_table.specs.Closing.{AreByNumber}
use Rattle.move_table.proofs.StepLaws.{accounts_of, account_here, at_below, at_get}
use Rattle.move_table.proofs.SeatLaws.{setup_of_standing}
use Rattle.move_table.proofs.GatherLaws.{same_default}

-- no pass has a place beside one that stands for all
module _ (t : Terms) (words : List ℕ) (views : List View) (id : ℕ) (v : View) (k : IsStanding t words views) (at : get_elem? views id ≡ some v)
    (rest : IsResting v) (all : v.stands + v.may ≡ t.workers) where
  abbrev g : Setup
  g = terms_setup t

  abbrev r : Readings
  r = table_readings g words

  abbrev accounts : List Account
  accounts = accounts_of views

  here : get_or accounts id (blank false) ≡ v.account
  here = account_here t views id v at

  below : id < length accounts
  below = let n = length-map views (λ (z : View). z.account) in let b = at_below views id v at in omega arith

  none_left : (j : ℕ) → j < length views → j ≢ id → (get_or views j spent_view).stands ≡ 0
  none_left j l n =
      let f : View → ℕ = λ z. z.stands + z.may in
      let b = at_below views id v at in
      let e = total-set f views id spent_view spent_view b in
      let h : f (get_or views id spent_view) ≡ f v = ap f (at_get views id v spent_view at) in
      let w = length-set views id spent_view in
      let p = total_at-le f (set views id spent_view) j spent_view (omega arith) in
      let q : f (get_or (set views id spent_view) j spent_view) ≡ f (get_or views j spent_view) =
      ap f (get_or-set_other views id j spent_view spent_view n) in
      let s = k.shares in
      omega arith

  pub others_blank : (j : ℕ) (d : Account) → j < length accounts → j ≢ id → get_or accounts j d ≡ blank false
  others_blank j d l n =
      let w = length-map views (λ (z : View). z.account) in
      let m : j < length views = omega arith in
      let z = get_or views j spent_view in
      let s = none_left j m n in
      let e = k.each j m in
      let same : get_or accounts j d ≡ z.account = get_or-map (λ (y : View). y.account) views j spent_view d m in
      dead z.account.live refl (λ h. let o = e.stands h in absurd (omega arith)) (λ h. k.balance.rest.ended j d l (ap (λ (a : Account). a.live) same ∙ h))
    where
      dead : (b : Bool) → (get_or views j spent_view).account.live ≡ b → ((get_or views j spent_view).account.live ≡ true → get_or accounts j d ≡ blank
          false) → ((get_or views j spent_view).account.live ≡ false → get_or accounts j d ≡ blank false) → get_or accounts j d ≡ blank false
      dead true q on off = on q
      dead false q on off = off q

  at_rest : IsAtRest g r accounts
  at_rest = record {
    setup = setup_of_standing t words views k;
    balance = k.balance;
    idle = λ j d l.
        elim (cases_eq j id) [
          | inl e ↦ subst (λ (a : Account). is_idle a.stage ≡ true) (sym (ap (λ i. get_or accounts i d) e ∙ same_default accounts id d (blank false) below ∙
              here)) rest.idle
          | inr n ↦ subst (λ (a : Account). is_idle a.stage ≡ true) (sym (others_blank j d l n)) refl
        ];
  }

  -- sums over all accounts
  only : (f : Account → ℕ) → f (blank false) ≡ 0 → total f accounts ≡ f v.account
  only f z =
      let c = total_changed accounts id v.account (blank false) below here f in
      let o = total-zero f (set accounts id (blank false)) (all_changed_others accounts id v.account (blank false) below here (λ a. f a ≡ 0)
      (λ j d l n. ap f (others_blank j d l n) ∙ z) z) in
      omega arith

  only_z : (f : Account → ℤ) → f (blank false) ≡ pos 0 → total_z f accounts ≡ f v.account
  only_z f z =
      let c = total_z_changed accounts id v.account (blank false) below here f in
      let o = total_z-zero f (set accounts id (blank false)) (all_changed_others accounts id v.account (blank false) below here (λ a. f a ≡ pos 0)
      (λ j d l n. ap f (others_blank j d l n) ∙ z) z) in
      omega (arith, ints)

  abbrev ms : List Move
  ms = moves_in_order accounts r.next

  count : r.next ≡ length v.account.moves
  count =
      let o = (ordered g r accounts at_rest).count in
      let s = total_all g r accounts at_rest (λ m. 1) in
      let a = total-ones ms in
      let b = only (λ a. total (λ m. 1) a.moves) refl in
      let c = total-ones v.account.moves in
      omega arith

  numbers_moves : length v.account.numbers ≡ length v.account.moves
  numbers_moves = subst (λ (a : Account). length a.numbers ≡ length a.moves) here (k.balance.numbers.lengths id (blank false) below)

  pub number_once : (i : ℕ) → times i v.account.numbers ≤ 1
  number_once i =
      let e = k.balance.numbers.each i in
      let b = total_at accounts id v.account v.account below here (λ a. times i (drawn a)) in
      let s = total-append (λ x. weight_if x i 1) v.account.numbers (number_at v.account.stage) in
      let one = most (nat_lt i r.next) in
      omega arith
    where
      most : (z : Bool) → (if z then 1 else 0) ≤ 1
      most true = omega arith
      most false = omega arith

  pub number_below : (i : ℕ) → 0 < times i v.account.numbers → i < length v.account.moves
  number_below i h =
      let e = k.balance.numbers.each i in
      let b = total_at accounts id v.account v.account below here (λ a. times i (drawn a)) in
      let s = total-append (λ x. weight_if x i 1) v.account.numbers (number_at v.account.stage) in
      let n = count in
      elim (cases_lt i r.next) [
        | inl l ↦ omega arith
        | inr m ↦ let z : ◌≡◌ {A = ℕ} (if nat_lt i r.next then 1 else 0) 0 = ap (λ q. if q then 1 else 0) (le-ltb i r.next m) in absurd (omega arith)
      ]

  -- the moves laid out by their numbers are the moves in order
  module _ (out : List Move) (laid : AreByNumber v.account.numbers v.account.moves out) where
    in_order : AreInOrder accounts r.next out
    in_order = record {
      count = let n = count in let a = laid.all in omega arith;
      places = λ j d l.
          elim (cases_eq j id) [
            | inl e ↦ subst (λ (a : Account). (i : ℕ) (m : Move) → i < length a.moves → slice_index_or out (slice_index a.numbers i) m ≡ slice_index_or
                a.moves
                i m) (sym (ap (λ i. get_or accounts i d) e ∙ same_default accounts id d (blank false) below ∙ here)) laid.places
            | inr n ↦ subst (λ (a : Account). (i : ℕ) (m : Move) → i < length a.moves → slice_index_or out (slice_index a.numbers i) m ≡ slice_index_or
                a.moves
                i m) (sym (others_blank j d l n)) (λ i m q. absurd (omega arith))
          ];
    }

    pub out_is : out ≡ ms
    out_is = only_ordered g r accounts at_rest out in_order

    pub apart : AllPairs (λ a b. a.vertex ≢ b.vertex) out
    apart = subst (AllPairs (λ (a b : Move). a.vertex ≢ b.vertex)) (sym out_is) (moved_apart g r accounts at_rest)

    pub each_move : All (rounds.IsMove t.part.hyper t.part.k t.workers t.part.blocks) out
    each_move =
        subst (All (rounds.IsMove t.part.hyper t.part.k t.workers t.part.blocks)) (sym out_is)
        (λ j d l.
        let m = round_moves g r accounts at_rest j d l in
        let n = length-map views (λ (z : View). z.account) in
        let c = k.made in
        let w = m.worker in
        record { vertex = m.vertex; free = m.free; from = m.from; to = m.to; other = m.other; worker = omega arith })

    pub fits_after : Fits t.part.hyper t.part.k t.part.limit (replay t.part.blocks out)
    fits_after = subst (λ xs. Fits t.part.hyper t.part.k t.part.limit (replay t.part.blocks xs)) (sym out_is) (closing_fits g r accounts at_rest)

    pub saved_by : v.account.gain ≡ pos (cost t.part.hyper t.part.blocks) -ℤ pos (cost t.part.hyper (replay t.part.blocks out))
    saved_by =
        sym (only_z (λ a. a.gain) refl)
        ∙ saved g r accounts at_rest
        ∙ ap (λ xs. pos (cost t.part.hyper t.part.blocks) -ℤ pos (cost t.part.hyper (replay t.part.blocks xs))) (sym out_is)

    pub booked_by_all : (i : ℕ) → booked_by_worker i out ≡ booked_by_worker i v.account.moves
    booked_by_all i =
        ap (booked_by_worker i) out_is
        ∙ total_z_all g r accounts at_rest (λ m. if nat_eq m.worker i then m.booked else pos 0)
        ∙ only_z (λ a. booked_by_worker i a.moves) refl
