-- A step that writes its word as its event does keeps what stands between any two steps.
use Rattle.std.proofs.Common.{◌≡◌, ℕ, ◌+◌, ◌<◌, inl, inr, Bool, true, false, ◌&&◌, List, map, length, get_or, set, slice_index, slice_set, length-set}
use Rattle.std.proofs.Common.{get_or-set_same, get_or-set_other, if◌then◌else◌, nat_eq, nat_cmp, zero, suc, [], ◌∷◌, refl, sym, ap, ◌∙◌, subst, arith}
use Rattle.std.proofs.lemmas.Bool.{cases_eq, and_from, true≢false}
use Rattle.std.proofs.lemmas.List.{map-set, get_or-map}
use Rattle.std.specs.BTreeSet.{insert_key}
use mathlib.Core.Option.{some, some-injective, some-ne-none}
use lib.ListN.{get_elem?}
use Rattle.hg_defs.specs.Sums.{total}
use Rattle.hg_defs.proofs.SumLaws.{total-set}
use Rattle.atomic_table.specs.Table.{Me, keeps, Allows}
use Rattle.atomic_table.specs.Seated.{TableId}
use Rattle.move_core.specs.declared.account.Account.{Account}
use Rattle.move_core.specs.declared.events.Event.{Event}
use Rattle.move_core.specs.declared.events.Event.TheVariants.{Claim, Unclaim, Reserve, TakeBack, Draw, Name, Raise, Widen, Lower}
use Rattle.move_core.specs.declared.events.Event.TheVariants.{Narrow, GiveBack, Seed, Peek, Split, Join}
use Rattle.move_core.specs.declared.events.Word.{Word}
use Rattle.move_core.specs.State.{Setup, read, account_in, blank}
use Rattle.move_core.specs.Events.{pass_of, word_of, write_of, may_step, account_after, is_enabled_for}
use Rattle.move_core.specs.Events.{others_agree_for, found_for, accounts_after_for, WritesWord, is_word}
use Rattle.move_core.specs.Balance.{InBalance, IsSetup}
use Rattle.move_core.proofs.EventLaw.{event_word, event_balance}
use Rattle.move_table.specs.declared.view.Terms.{Terms}
use Rattle.move_table.specs.declared.view.View.{View}
use Rattle.move_table.specs.Places.{word_place, number_in, table_readings}
use Rattle.move_table.specs.Standing.{terms_setup, IsStanding, IsViewAt, AllStanding, spent_view}
use Rattle.move_table.specs.Seen.{IsKnownFound}
use Rattle.move_table.specs.Steps.{IsReady, acted}
use Rattle.move_table.proofs.PlaceLaws.{exists_word, KeepsFields, reads_number, place-below, others_read}

-- ---- a list read by `get_elem?`

module _ {A : Type 0} where
  pub at_below : (l : List A) (i : ℕ) (a : A) → get_elem? l i ≡ some a → i < length l
  at_below [] i a e = absurd (some-ne-none a (sym e))
  at_below (x ∷ xs) zero a e = omega arith
  at_below (x ∷ xs) (suc i) a e = let l = at_below xs i a e in omega arith

  pub at_get : (l : List A) (i : ℕ) (a d : A) → get_elem? l i ≡ some a → get_or l i d ≡ a
  at_get [] i a d e = absurd (some-ne-none a (sym e))
  at_get (x ∷ xs) zero a d e = some-injective x a e
  at_get (x ∷ xs) (suc i) a d e = at_get xs i a d e

-- ---- events of one pass alone

abbrev pub is_alone : Event → Bool
is_alone (Split i) = false
is_alone (Join i j) = false
is_alone _ = true

alone_accounts : (g : Setup) (accounts : List Account) (x : Event) (f : ℕ) → is_alone x ≡ true → accounts_after_for g accounts x f ≡ slice_set accounts
    (pass_of x) (account_after g x f (account_in accounts (pass_of x)))
alone_accounts g accounts (Claim i v) f h = refl
alone_accounts g accounts (Unclaim i v) f h = refl
alone_accounts g accounts (Reserve i v to) f h = refl
alone_accounts g accounts (TakeBack i) f h = refl
alone_accounts g accounts (Draw i) f h = refl
alone_accounts g accounts (Name i) f h = refl
alone_accounts g accounts (Raise i) f h = refl
alone_accounts g accounts (Widen i) f h = refl
alone_accounts g accounts (Lower i) f h = refl
alone_accounts g accounts (Narrow i) f h = refl
alone_accounts g accounts (GiveBack i) f h = refl
alone_accounts g accounts (Seed i) f h = refl
alone_accounts g accounts (Peek i w) f h = refl
alone_accounts g accounts (Split i) f h = absurd (true≢false (sym h))
alone_accounts g accounts (Join i j) f h = absurd (true≢false (sym h))

alone_agrees : (accounts : List Account) (x : Event) → is_alone x ≡ true → others_agree_for accounts x ≡ true
alone_agrees accounts (Claim i v) h = refl
alone_agrees accounts (Unclaim i v) h = refl
alone_agrees accounts (Reserve i v to) h = refl
alone_agrees accounts (TakeBack i) h = refl
alone_agrees accounts (Draw i) h = refl
alone_agrees accounts (Name i) h = refl
alone_agrees accounts (Raise i) h = refl
alone_agrees accounts (Widen i) h = refl
alone_agrees accounts (Lower i) h = refl
alone_agrees accounts (Narrow i) h = refl
alone_agrees accounts (GiveBack i) h = refl
alone_agrees accounts (Seed i) h = refl
alone_agrees accounts (Peek i w) h = refl
alone_agrees accounts (Split i) h = absurd (true≢false (sym h))
alone_agrees accounts (Join i j) h = absurd (true≢false (sym h))

claim_live : (v : ℕ) (b : Bool) (a a' : Account) → a'.live ≡ a.live → (if b then a' else a).live ≡ a.live
claim_live v true a a' e = e
claim_live v false a a' e = refl

pub live_after : (g : Setup) (x : Event) (f : ℕ) (a : Account) → (account_after g x f a).live ≡ a.live
live_after g (Claim i v) f a = claim_live v (nat_eq f 0) a (record a { held = insert_key nat_cmp a.held v }) refl
live_after g (Unclaim i v) f a = refl
live_after g (Reserve i v to) f a = refl
live_after g (TakeBack i) f a = refl
live_after g (Draw i) f a = refl
live_after g (Name i) f a = refl
live_after g (Raise i) f a = refl
live_after g (Widen i) f a = refl
live_after g (Lower i) f a = refl
live_after g (Narrow i) f a = refl
live_after g (GiveBack i) f a = refl
live_after g (Seed i) f a = refl
live_after g (Peek i w) f a = refl
live_after g (Split i) f a = refl
live_after g (Join i j) f a = refl

-- the word of an event is written as the event does, and keeps its other fields
pub record IsWritten (g : Setup) (x : Event) (a : Account) (n y : ℕ) : Type 0 where
  pub number : number_in g (word_of g x a) y ≡ write_of g x a (number_in g (word_of g x a) n)
  pub keeps : KeepsFields g (word_of g x a) n y

-- ---- the views after a step of one pass

abbrev pub accounts_of : List View → List Account
accounts_of views = map (λ (v : View). v.account) views

module _ (t : Terms) (views : List View) (id : ℕ) (v : View) (at : get_elem? views id ≡ some v) where
  pub account_here : account_in (accounts_of views) id ≡ v.account
  account_here =
      get_or-map (λ (z : View). z.account) views id spent_view (blank false) (at_below views id v at)
      ∙ ap (λ (z : View). z.account) (at_get views id v spent_view at)

  module _ (w : View) (same : w.terms ≡ v.terms) (number : w.number ≡ v.number) (stands : w.stands ≡ v.stands) (may : w.may ≡ v.may)
      (live : w.account.live ≡ v.account.live) where
    each_after : ((i : ℕ) → i < length views → IsViewAt t views i (get_or views i spent_view)) → (i : ℕ) → i < length (set views id w) →
        IsViewAt t (set views id w) i (get_or (set views id w) i spent_view)
    each_after each i l =
        let n = length-set views id w in
        let below : i < length views = omega arith in
        elim (cases_eq i id) [
          | inl e ↦
              let P : ℕ → View → Type 0 = λ j z. IsViewAt t (set views id w) j z in
              let z = subst (λ (u : View). IsViewAt t views id u) (at_get views id v spent_view at) (each id (at_below views id v at)) in
              subst (λ j. P j (get_or (set views id w) j spent_view)) (sym e)
              (subst (P id) (sym (get_or-set_same views id w spent_view (at_below views id v at)))
              (record {
                terms = λ h. same ∙ z.terms (sym live ∙ h);
                number = λ h. number ∙ z.number (sym live ∙ h);
                stands = λ h. let y = z.stands (sym live ∙ h) in omega arith;
                first = λ h. may ∙ z.first h;
                makes = λ h. let y = z.makes (omega arith) in omega arith;
              }))
          | inr q ↦
              let z = each i below in
              subst (IsViewAt t (set views id w) i) (sym (get_or-set_other views id i w spent_view q))
              (record {
                terms = z.terms;
                number = z.number;
                stands = z.stands;
                first = z.first;
                makes = λ h. let y = z.makes h in omega arith;
              })
        ]

    shares_after : (workers : ℕ) → total (λ (z : View). z.stands + z.may) views ≡ workers → total (λ (z : View). z.stands + z.may) (set views id w) ≡
        workers
    shares_after workers h =
        let f : View → ℕ = λ z. z.stands + z.may in
        let e = total-set f views id w spent_view (at_below views id v at) in
        let q : f (get_or views id spent_view) ≡ f v = ap f (at_get views id v spent_view at) in
        omega arith

-- ---- one step

module _ (words : List ℕ) (views : List View) (id : ℕ) (v : View) (x : Event) (alone : is_alone x ≡ true) (live : v.account.live ≡ true)
    (named : pass_of x ≡ v.number) (may : may_step (terms_setup v.terms) x v.account ≡ true) (k : IsStanding v.terms words views)
    (at : get_elem? views id ≡ some v) where
  abbrev g : Setup
  g = terms_setup v.terms

  abbrev w : Word
  w = word_of g x v.account

  pub pass_id : pass_of x ≡ id
  pass_id = named ∙ (subst (λ (u : View). IsViewAt v.terms views id u) (at_get views id v spent_view at) (k.each id (at_below views id v at))).number live

  pub account_there : account_in (accounts_of views) (pass_of x) ≡ v.account
  account_there = ap (account_in (accounts_of views)) pass_id ∙ account_here v.terms views id v at

  pub enabled : is_enabled_for g (accounts_of views) x ≡ true
  enabled =
      subst (λ (a : Account). (a.live && (may_step g x a && others_agree_for (accounts_of views) x)) ≡ true) (sym account_there)
      (and_from v.account.live (may_step g x v.account && others_agree_for (accounts_of views) x) live
      (and_from (may_step g x v.account) (others_agree_for (accounts_of views) x) may (alone_agrees (accounts_of views) x alone)))

  pub setup_ok : IsSetup g
  setup_ok =
      let p = k.over.parted in
      record { graph = p.sound; bounds = p.bounds; blocks = let f = p.few in omega arith; opening = p.partition; fits = k.over.fits }

  pub word_exists : is_word g w ≡ true
  word_exists = subst (λ (a : Account). is_word g (word_of g x a) ≡ true) account_there (event_word g setup_ok (table_readings g words) (accounts_of views)
      k.balance x enabled)

  pub place_there : word_place g w < length words
  place_there = let p = place-below g w (exists_word g w word_exists) in let l = k.wide in omega arith

  -- what the event finds
  abbrev pub found : ℕ
  found = number_in g w (slice_index words (word_place g w))

  pub reads_found : read (table_readings g words) w ≡ found
  reads_found = reads_number g words w

  module _ (y : ℕ) (written : IsWritten g x v.account (slice_index words (word_place g w)) y) where
    abbrev after : List ℕ
    after = set words (word_place g w) y

    writes : WritesWord g w (write_of g x v.account found) (table_readings g words) (table_readings g after)
    writes = record {
      here = reads_number g after w ∙ ap (number_in g w) (get_or-set_same words (word_place g w) y 0 place_there) ∙ written.number;
      others = λ u h n. others_read g words y w u (exists_word g w word_exists) (exists_word g u h) n place_there written.keeps;
    }

    pub balance_after : InBalance g (table_readings g after) (set (accounts_of views) id (account_after g x found v.account))
    balance_after =
        let found_is : found_for g (table_readings g words) (accounts_of views) x ≡ found =
        ap (λ (a : Account). read (table_readings g words) (word_of g x a))
        account_there ∙ reads_found in
        let P : Account → ℕ → Type 0 = λ a f. WritesWord g (word_of g x a) (write_of g x a f) (table_readings g words) (table_readings g after) in
        let Q : ℕ → Account → ℕ → Type 0 = λ i a f. InBalance g (table_readings g after) (slice_set (accounts_of views) i (account_after g x f a)) in
        let b = event_balance g setup_ok (table_readings g words) (accounts_of views) k.balance (table_readings g after) x enabled
        (subst (P (account_in (accounts_of views) (pass_of x))) (sym found_is) (subst (λ a. P a found) (sym account_there) writes)) in
        subst (λ i. Q i v.account found) pass_id
        (subst (λ a. Q (pass_of x) a found) account_there
        (subst (Q (pass_of x) (account_in (accounts_of views) (pass_of x))) found_is
        (subst (InBalance g (table_readings g after)) (alone_accounts g (accounts_of views) x (found_for g (table_readings g words) (accounts_of views) x)
        alone) b)))

    pub standing_after : IsStanding v.terms after (set views id (acted x found v))
    standing_after =
        let w' = acted x found v in
        record {
          over = k.over;
          wide = length-set words (word_place g w) y ∙ k.wide;
          balance = subst (InBalance g (table_readings g after)) (sym (map-set (λ (z : View). z.account) views id w')) balance_after;
          each = each_after v.terms views id v at w' refl refl refl refl (live_after g x found v.account) k.each;
          shares = shares_after v.terms views id v at w' refl refl refl refl (live_after g x found v.account) v.terms.workers k.shares;
          made = let n = length-set views id w' in let m = k.made in omega arith;
        }

-- ---- what a step asks of the table

-- whatever the table is, the step finds what its event tells, and writes what its event does
pub record IsRight (v : View) (x : Event) (f : ℕ → ℕ) (words : List ℕ) : Type 0 where
  pub written : IsWritten (terms_setup v.terms) x v.account
      (slice_index words (word_place (terms_setup v.terms) (word_of (terms_setup v.terms) x v.account)))
      (f (slice_index words (word_place (terms_setup v.terms) (word_of (terms_setup v.terms) x v.account))))
  pub told : IsKnownFound (terms_setup v.terms) x v.account (number_in (terms_setup v.terms) (word_of (terms_setup v.terms) x v.account)
      (slice_index words (word_place (terms_setup v.terms) (word_of (terms_setup v.terms) x v.account))))

pub allows :
    (table : TableId) (t : Terms) (slots id : ℕ) (me : Me (Unit {0}) View) (x : Event) (i : ℕ) (f : ℕ → ℕ)
    → is_alone x ≡ true
    → IsReady table t me.0 x i
    → ((words : List ℕ) (views : List View) → IsStanding me.0.terms words views → get_elem? views id ≡ some me.0 →
    slice_index words (word_place (terms_setup me.0.terms) (word_of (terms_setup me.0.terms) x me.0.account)) < 18446744073709551616 →
    IsRight me.0 x f words)
    → Allows (AllStanding t) slots id me i f (λ n after.
    (after ≡ (acted x (number_in (terms_setup me.0.terms) (word_of (terms_setup me.0.terms) x me.0.account) n) me.0, me.1)) × IsKnownFound
    (terms_setup me.0.terms) x me.0.account (number_in (terms_setup me.0.terms) (word_of (terms_setup me.0.terms) x me.0.account) n))
allows table t slots id me x i f alone ready right =
    let v = me.0 in
    let g = terms_setup v.terms in
    let w = word_of g x v.account in
    let tells : ℕ → Me (Unit {0}) View → Type 0 = λ n after. (after ≡ (acted x (number_in g w n) v, me.1)) × IsKnownFound g x v.account (number_in g w n) in
    let here : Allows (AllStanding v.terms) slots id me (word_place g w) f tells = λ s k deep at small.
    let q = right s.words s.views k at small in
    let n = slice_index s.words (word_place g w) in (
      acted x (number_in g w n) v,
      keeps,
      tt,
      standing_after s.words s.views id v x alone ready.live ready.number ready.may k at (f n) q.written,
      (refl, q.told),
    ) in
    subst (λ z. Allows (AllStanding z) slots id me i f tells) ready.terms (subst (λ j. Allows (AllStanding v.terms) slots id me j f tells) (sym ready.place)
    here)
