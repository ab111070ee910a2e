-- Passes that are made, and passes that are taken over, keep what stands between any two steps.
use Rattle.std.proofs.Common.{◌≡◌, ◌≢◌, ℕ, ◌+◌, ◌<◌, inl, inr, true, false, not, ◌&&◌, List, [], ◌∷◌, ◌++◌, length, get_or, set, slice_set, length-set}
use Rattle.std.proofs.Common.{length-append, get_or-set_same, get_or-set_other, nat_eq, nat_lt, refl, sym, ap, ◌∙◌, subst, arith}
use Rattle.std.proofs.lemmas.Bool.{cases_eq, cases_lt, and_from, ne_eqb, lt-ltb, true≢false}
use Rattle.std.proofs.lemmas.List.{map-set, length-map, get_or_append_left, get_or-append-add, set-get_or}
use mathlib.Core.Option.{some}
use mathlib.Core.List.{map-append}
use lib.ListN.{get_elem?}
use Rattle.hg_defs.proofs.SumLaws.{total-set, total_push}
use Rattle.atomic_table.specs.Table.{Splits, Joins}
use Rattle.atomic_table.proofs.Lists.{set_else}
use Rattle.move_core.specs.declared.account.Account.{Account}
use Rattle.move_core.specs.declared.events.Event.TheVariants.{Split, Join}
use Rattle.move_core.specs.State.{Setup, account_in, blank}
use Rattle.move_core.specs.Stages.{is_idle}
use Rattle.move_core.specs.Events.{is_enabled_for, word_for, joined_with}
use Rattle.move_core.specs.Balance.{InBalance, IsSetup}
use Rattle.move_core.proofs.Words.{reads_itself}
use Rattle.move_core.proofs.EventLaw.{event_balance}
use Rattle.move_table.specs.declared.view.Terms.{Terms}
use Rattle.move_table.specs.declared.view.View.{View}
use Rattle.move_table.specs.Places.{table_readings}
use Rattle.move_table.specs.Standing.{terms_setup, IsStanding, IsViewAt, AllStanding, spent_view}
use Rattle.move_table.specs.Steps.{IsResting, parted_view, made_view, united_view}
use Rattle.move_table.proofs.StepLaws.{accounts_of, account_here, at_below, at_get}

pub setup_of_standing : (t : Terms) (words : List ℕ) (views : List View) → IsStanding t words views → IsSetup (terms_setup t)
setup_of_standing t words views k =
    let p = k.over.parted in
    record { graph = p.sound; bounds = p.bounds; blocks = let f = p.few in omega arith; opening = p.partition; fits = k.over.fits }

weights : View → ℕ
weights v = v.stands + v.may

module _ (t : Terms) (words : List ℕ) (views : List View) (id : ℕ) (v : View) (at : get_elem? views id ≡ some v) (k : IsStanding t words views)
    (rest : IsResting v) where
  abbrev g : Setup
  g = terms_setup t

  here : IsViewAt t views id v
  here = subst (λ (u : View). IsViewAt t views id u) (at_get views id v spent_view at) (k.each id (at_below views id v at))

  mine : account_in (accounts_of views) id ≡ v.account
  mine = account_here t views id v at

  -- ---- a pass is made

  module _ (may : 0 < v.may) where
    count : length views + v.may ≡ t.workers
    count = here.makes may

    first : id ≡ 0
    first = elim (cases_eq id 0) [ inl e ↦ e | inr q ↦ let z = here.first q in absurd (omega arith) ]

    split_on : is_enabled_for g (accounts_of views) (Split id) ≡ true
    split_on =
        let n = length-map views (λ (z : View). z.account) in
        let c = count in
        let f = k.over.few in
        subst (λ (a : Account). (a.live && (is_idle a.stage && nat_lt (length (accounts_of views)) 64)) ≡ true) (sym mine)
        (and_from v.account.live (is_idle v.account.stage && nat_lt (length (accounts_of views)) 64) rest.live
        (and_from (is_idle v.account.stage) (nat_lt (length (accounts_of views)) 64) rest.idle (lt-ltb (length (accounts_of views)) 64 (omega arith))))

    split_accounts : accounts_of (set views id (parted_view v) ++ made_view v ∷ []) ≡ accounts_of views ++ blank true ∷ []
    split_accounts =
        map-append (λ (z : View). z.account) (set views id (parted_view v)) (made_view v ∷ [])
        ∙ ap (λ xs. xs ++ blank true ∷ []) (map-set (λ (z : View). z.account) views id (parted_view v) ∙ ap (slice_set (accounts_of views) id) (sym mine) ∙
        same)
      where
        same : slice_set (accounts_of views) id (account_in (accounts_of views) id) ≡ accounts_of views
        same = set-get_or (accounts_of views) id (blank false)

    split_each : (i : ℕ) → i < length (set views id (parted_view v) ++ made_view v ∷ []) → IsViewAt t (set views id (parted_view v) ++ made_view v ∷ []) i
        (get_or (set views id (parted_view v) ++ made_view v ∷ []) i spent_view)
    split_each i l =
        let m = length-set views id (parted_view v) in
        let n = length-append (set views id (parted_view v)) (made_view v ∷ []) in
        let c = count in
        let wide : length (set views id (parted_view v) ++ made_view v ∷ []) ≡ length views + 1 = omega arith in
        elim (cases_lt i (length views)) [
          | inl q ↦ subst (IsViewAt t (set views id (parted_view v) ++ made_view v ∷ []) i)
              (sym (get_or_append_left (set views id (parted_view v)) (made_view v ∷ []) spent_view i (omega arith)))
              (elim (cases_eq i id) [
                | inl e ↦ subst (λ j. IsViewAt t (set views id (parted_view v) ++ made_view v ∷ []) j (get_or (set views id (parted_view v)) j spent_view))
                    (sym e)
                    (subst (IsViewAt t (set views id (parted_view v) ++ made_view v ∷ []) id)
                    (sym (get_or-set_same views id (parted_view v) spent_view (at_below views id v at)))
                    (record { terms = here.terms; number = here.number; stands = here.stands; first = λ p. absurd (p first); makes = λ p. omega arith }))
                | inr p ↦
                    let z = k.each i q in
                    subst (IsViewAt t (set views id (parted_view v) ++ made_view v ∷ []) i) (sym (get_or-set_other views id i (parted_view v) spent_view p))
                    (record {
                      terms = z.terms;
                      number = z.number;
                      stands = z.stands;
                      first = z.first;
                      makes = λ o. let f = z.first (λ e. p (e ∙ sym first)) in
                          absurd (omega arith);
                    })
              ])
          | inr q ↦
              let e : i ≡ length (set views id (parted_view v)) + 0 = omega arith in
              let lt : v.terms.workers ≡ t.workers = ap (λ (z : Terms). z.workers) (here.terms rest.live) in
              subst (λ j. IsViewAt t (set views id (parted_view v) ++ made_view v ∷ []) j (get_or (set views id (parted_view v) ++ made_view v ∷ []) j
              spent_view)) (sym e)
              (subst (IsViewAt t (set views id (parted_view v) ++ made_view v ∷ []) (length (set views id (parted_view v)) + 0))
              (sym (get_or-append-add (set views id (parted_view v)) (made_view v ∷ []) 0 spent_view))
              (record {
                terms = λ o. here.terms rest.live;
                number = λ o. omega arith;
                stands = λ o. omega arith;
                first = λ o. refl;
                makes = λ o. absurd (omega arith);
              }))
        ]

    pub split_standing : IsStanding t words (set views id (parted_view v) ++ made_view v ∷ [])
    split_standing = record {
      over = k.over;
      wide = k.wide;
      balance = subst (InBalance g (table_readings g words)) (sym split_accounts)
          (event_balance g (setup_of_standing t words views k) (table_readings g words) (accounts_of views) k.balance (table_readings g words) (Split id)
          split_on
          (reads_itself g (word_for g (accounts_of views) (Split id)) (table_readings g words)));
      each = split_each;
      shares =
          let f : View → ℕ = λ z. z.stands + z.may in
          let a = total-set f views id (parted_view v) spent_view (at_below views id v at) in
          let b : f (get_or views id spent_view) ≡ f v = ap f (at_get views id v spent_view at) in
          let c = total_push f (set views id (parted_view v)) (made_view v) in
          let s = k.shares in
          omega arith;
      made =
          let m = length-set views id (parted_view v) in
          let n = length-append (set views id (parted_view v)) (made_view v ∷ []) in
          let c = count in
          omega arith;
    }

  -- ---- a pass is taken over

  module _ (other : ℕ) (w : View) (apart : other ≢ id) (there : get_elem? views other ≡ some w) (spare : IsResting w) (zero : v.number ≡ 0) where
    first_here : id ≡ 0
    first_here = sym (here.number rest.live) ∙ zero

    theirs : account_in (accounts_of views) other ≡ w.account
    theirs = account_here t views other w there

    their_view : IsViewAt t views other w
    their_view = subst (λ (u : View). IsViewAt t views other u) (at_get views other w spent_view there) (k.each other (at_below views other w there))

    none : w.may ≡ 0
    none = their_view.first (λ e. apart (e ∙ sym first_here))

    join_on : is_enabled_for g (accounts_of views) (Join id other) ≡ true
    join_on =
        subst (λ (a : Account). (a.live && ((is_idle a.stage && not (nat_eq id other)) && ((account_in (accounts_of views) other).live &&
        is_idle (account_in (accounts_of views) other).stage))) ≡ true) (sym mine)
        (subst (λ (b : Account). (v.account.live && ((is_idle v.account.stage && not (nat_eq id other)) && (b.live && is_idle b.stage))) ≡ true)
        (sym theirs)
        (and_from v.account.live ((is_idle v.account.stage && not (nat_eq id other)) && (w.account.live && is_idle w.account.stage)) rest.live
        (and_from (is_idle v.account.stage && not (nat_eq id other)) (w.account.live && is_idle w.account.stage)
        (and_from (is_idle v.account.stage) (not (nat_eq id other)) rest.idle (ap not (ne_eqb id other (λ e. apart (sym e)))))
        (and_from w.account.live (is_idle w.account.stage) spare.live spare.idle))))

    abbrev joined : List View
    joined = set (set views id (united_view v w)) other spent_view

    join_accounts : accounts_of joined ≡ slice_set (slice_set (accounts_of views) id (joined_with (account_in (accounts_of views) id)
        (account_in (accounts_of views) other))) other (blank false)
    join_accounts =
        map-set (λ (z : View). z.account) (set views id (united_view v w)) other spent_view
        ∙ ap (λ xs. slice_set xs other (blank false)) (map-set (λ (z : View). z.account) views id (united_view v w))
        ∙ ap (λ a. slice_set (slice_set (accounts_of views) id (joined_with a w.account)) other (blank false)) (sym mine)
        ∙ ap (λ b. slice_set (slice_set (accounts_of views) id (joined_with (account_in (accounts_of views) id) b)) other (blank false)) (sym theirs)

    join_each : (i : ℕ) → i < length joined → IsViewAt t joined i (get_or joined i spent_view)
    join_each i l =
        let m = length-set views id (united_view v w) in
        let n = length-set (set views id (united_view v w)) other spent_view in
        let z = none in
        elim (cases_eq i other) [
          | inl e ↦ subst (λ j. IsViewAt t joined j (get_or joined j spent_view)) (sym e)
              (subst (IsViewAt t joined other) (sym (get_or-set_same (set views id (united_view v w)) other spent_view spent_view
              (let b = at_below views other w there in omega arith)))
              (record {
                terms = λ h. absurd (true≢false (sym h));
                number = λ h. absurd (true≢false (sym h));
                stands = λ h. absurd (true≢false (sym h));
                first = λ h. refl;
                makes = λ h. absurd (omega arith);
              }))
          | inr q ↦ subst (IsViewAt t joined i) (sym (get_or-set_other (set views id (united_view v w)) other i spent_view spent_view q))
              (elim (cases_eq i id) [
                | inl e ↦ subst (λ j. IsViewAt t joined j (get_or (set views id (united_view v w)) j spent_view)) (sym e)
                    (subst (IsViewAt t joined id) (sym (get_or-set_same views id (united_view v w) spent_view (at_below views id v at)))
                    (record {
                      terms = here.terms;
                      number = here.number;
                      stands = λ h. let s = here.stands h in omega arith;
                      first = λ h. absurd (h first_here);
                      makes = λ h. let c = here.makes (omega arith) in omega arith;
                    }))
                | inr p ↦
                    let y = k.each i (omega arith) in
                    subst (IsViewAt t joined i) (sym (get_or-set_other views id i (united_view v w) spent_view p))
                    (record { terms = y.terms; number = y.number; stands = y.stands; first = y.first; makes = λ h. let c = y.makes h in omega arith })
              ])
        ]

    pub join_standing : IsStanding t words joined
    join_standing = record {
      over = k.over;
      wide = k.wide;
      balance = subst (InBalance g (table_readings g words)) (sym join_accounts)
          (event_balance g (setup_of_standing t words views k) (table_readings g words) (accounts_of views) k.balance (table_readings g words)
          (Join id other)
          join_on
          (reads_itself g (word_for g (accounts_of views) (Join id other)) (table_readings g words)));
      each = join_each;
      shares =
          let f : View → ℕ = λ z. z.stands + z.may in
          let m = length-set views id (united_view v w) in
          let a = total-set f views id (united_view v w) spent_view (at_below views id v at) in
          let b : f (get_or views id spent_view) ≡ f v = ap f (at_get views id v spent_view at) in
          let c = total-set f (set views id (united_view v w)) other spent_view spent_view (let x = at_below views other w there in omega arith) in
          let d : f (get_or (set views id (united_view v w)) other spent_view) ≡ f w = ap f (get_or-set_other views id other (united_view v w) spent_view
          apart ∙ at_get views other w spent_view there) in
          let s = k.shares in
          omega arith;
      made =
          let m = length-set views id (united_view v w) in
          let n = length-set (set views id (united_view v w)) other spent_view in
          let c = k.made in
          omega arith;
    }

pub splits : (t : Terms) (id : ℕ) (v : View) → v.terms ≡ t → IsResting v → 0 < v.may → Splits (AllStanding t) id v (parted_view v) (made_view v)
splits t id v e rest may = λ s k at. split_standing t s.words s.views id v at k rest may

pub joins : (t : Terms) (id other : ℕ) (v w : View) → IsResting v → IsResting w → v.number ≡ 0 → Joins (AllStanding t) id v other w (united_view v w)
    spent_view
joins t id other v w rest spare zero = λ s k at apart there.
    join_standing t s.words s.views id v at k rest other w apart (sym (set_else s.views id other (united_view v w) apart) ∙ there) spare zero
