-- What each atomic step asks of the table holds.
use Rattle.std.proofs.Common.{◌≡◌, ℕ, Bool, true, false, refl, slice_index, sym, ap, ◌∙◌, subst}
use Rattle.atomic_table.specs.Table.{Me, Allows}
use Rattle.atomic_table.specs.Seated.{TableId}
use Rattle.move_core.specs.declared.account.Account.{Account}
use Rattle.move_core.specs.declared.events.Event.{Event}
use Rattle.move_core.specs.declared.events.Event.TheVariants.{Claim, Unclaim, Reserve, TakeBack, Draw, Name, Raise, Widen, Lower}
use Rattle.move_core.specs.declared.events.Event.TheVariants.{Narrow, GiveBack, Seed, Peek, Split, Join}
use Rattle.move_core.specs.State.{Setup}
use Rattle.move_core.specs.Events.{word_of, write_of}
use Rattle.move_core.proofs.StageCases.{no}
use Rattle.move_table.specs.declared.view.Terms.{Terms}
use Rattle.move_table.specs.declared.view.View.{View}
use Rattle.hg_base.specs.Packed.{field}
use Rattle.pin_plain.specs.Counts.{net_bits}
use Rattle.move_core.specs.declared.events.Word.TheVariants as word
use Rattle.move_table.specs.Places.{number_in, field_place}
use Rattle.move_table.specs.Standing.{terms_setup, IsStanding, AllStanding}
use Rattle.move_table.specs.Seen.{IsKnownFound, IsFound, IsCountRead, AreCountsRead}
use Rattle.move_table.specs.Steps.{IsReady, acted, step_amount, overwritten, is_added, is_subtracted, is_stored, is_swapped, is_loaded}
use Rattle.move_table.proofs.StepLaws.{is_alone, allows, IsRight}
use Rattle.move_table.proofs.RightLaws.{adding, taking, adds, subtracts, stores, swaps, loads, read_also}

alone_by : (test : Event → Bool) → ((i : ℕ) → test (Split i) ≡ false) → ((i j : ℕ) → test (Join i j) ≡ false) → (x : Event) → test x ≡ true →
    is_alone x ≡ true
alone_by test s j (Claim i v) h = refl
alone_by test s j (Unclaim i v) h = refl
alone_by test s j (Reserve i v to) h = refl
alone_by test s j (TakeBack i) h = refl
alone_by test s j (Draw i) h = refl
alone_by test s j (Name i) h = refl
alone_by test s j (Raise i) h = refl
alone_by test s j (Widen i) h = refl
alone_by test s j (Lower i) h = refl
alone_by test s j (Narrow i) h = refl
alone_by test s j (GiveBack i) h = refl
alone_by test s j (Seed i) h = refl
alone_by test s j (Peek i w) h = refl
alone_by test s j (Split i) h = no (sym (s i) ∙ h)
alone_by test s j (Join i k) h = no (sym (j i k) ∙ h)

found_overwritten : (g : Setup) (x : Event) (a : Account) (n : ℕ) → is_stored x ≡ true → IsFound g x a n → n ≡ overwritten g x a
found_overwritten g (Unclaim i v) a n h f = f
found_overwritten g (Name i) a n h f = f
found_overwritten g (Claim i v) a n h f = no h
found_overwritten g (Reserve i v to) a n h f = no h
found_overwritten g (TakeBack i) a n h f = no h
found_overwritten g (Draw i) a n h f = no h
found_overwritten g (Raise i) a n h f = no h
found_overwritten g (Widen i) a n h f = no h
found_overwritten g (Lower i) a n h f = no h
found_overwritten g (Narrow i) a n h f = no h
found_overwritten g (GiveBack i) a n h f = no h
found_overwritten g (Seed i) a n h f = no h
found_overwritten g (Peek i w) a n h f = no h
found_overwritten g (Split i) a n h f = no h
found_overwritten g (Join i j) a n h f = no h

module _ (table : TableId) (t : Terms) (slots id : ℕ) (me : Me (Unit {0}) View) (x : Event) (i : ℕ) (ready : IsReady table t me.0 x i) where
  abbrev g : Setup
  g = terms_setup me.0.terms

  abbrev a : Account
  a = me.0.account

  -- what a step tells that finds a number in the word of its event
  abbrev Tells : ℕ → Me (Unit {0}) View → Type 0
  Tells n after = (after ≡ (acted x (number_in g (word_of g x a) n) me.0, me.1)) × IsKnownFound g x a (number_in g (word_of g x a) n)

  pub add_allows : (amount : ℕ) → is_added x ≡ true → amount ≡ step_amount g x a → Allows (AllStanding t) slots id me i (adding amount) Tells
  add_allows amount h e =
      allows table t slots id me x i (adding amount) (alone_by is_added (λ i. refl) (λ i j. refl) x h) ready
      (λ words views k at small. subst (λ z. IsRight me.0 x (adding z) words) (sym e) (adds words views id me.0 ready.live k at x h ready.number ready.may
      small))

  pub subtract_allows : (amount : ℕ) → is_subtracted x ≡ true → amount ≡ step_amount g x a → Allows (AllStanding t) slots id me i (taking amount) Tells
  subtract_allows amount h e =
      allows table t slots id me x i (taking amount) (alone_by is_subtracted (λ i. refl) (λ i j. refl) x h) ready
      (λ words views k at small. subst (λ z. IsRight me.0 x (taking z) words) (sym e) (subtracts words views id me.0 ready.live k at x h ready.number
      ready.may
      small))

  pub swap_allows : (new : ℕ) → is_swapped x ≡ true → new ≡ 1 → Allows (AllStanding t) slots id me i (λ n. new) Tells
  swap_allows new h e =
      allows table t slots id me x i (λ n. new) (alone_by is_swapped (λ i. refl) (λ i j. refl) x h) ready
      (λ words views k at small. subst (λ z. IsRight me.0 x (λ n. z) words) (sym e) (swaps words views id me.0 ready.live k at x h ready.number ready.may))

  -- a load tells of all counts of its word
  abbrev pub Reads : ℕ → Type 0
  Reads n = IsKnownFound g x a (number_in g (word_of g x a) n) × AreCountsRead g a i n

  pub load_allows : is_loaded x ≡ true → Allows (AllStanding t) slots id me i (λ n. n) (λ n after.
      (after ≡ (acted x (number_in g (word_of g x a) n) me.0, me.1)) × Reads n)
  load_allows h = λ s k deep at small.
      let alone = alone_by is_loaded (λ i. refl) (λ i j. refl) x h in
      let q = allows table t slots id me x i (λ n. n) alone ready
      (λ words views k at small. loads words views id me.0 ready.live k at x h ready.number ready.may) s k deep at small in
      let all : AreCountsRead g a i (slice_index s.words i) = λ e b l m p.
      subst (λ z. IsCountRead g a e b (field (slice_index s.words z) (net_bits g.graph e) (field_place g e b))) p
      (read_also s.words s.views id me.0 ready.live (subst (λ z. IsStanding z s.words s.views) (sym ready.terms) k) at x
      alone ready.number ready.may (word.Count e b) (l, m)) in
      (q.0, q.1, q.2, q.3, (q.4.0, (q.4.1, all)))

  -- a store doesn't tell what it found, which is known nevertheless
  pub store_allows : (new : ℕ) → is_stored x ≡ true → new ≡ write_of g x a 0 → Allows (AllStanding t) slots id me i (λ n. new)
      (λ n after. (after ≡ (acted x (overwritten g x a) me.0, me.1)) × IsKnownFound g x a (overwritten g x a))
  store_allows new h e = λ s k deep at small.
      let q = allows table t slots id me x i (λ n. new) (alone_by is_stored (λ i. refl) (λ i j. refl) x h) ready
      (λ words views k at small. subst (λ z. IsRight me.0 x (λ n. z) words) (sym e) (stores words views id me.0 ready.live k at x h ready.number
      ready.may)) s
      k deep at small in
      let told = q.4.1 in
      let f = found_overwritten g x a _ h told.found in
      (q.0, q.1, q.2, q.3, (q.4.0 ∙ ap (λ n. (acted x n me.0, me.1)) f, subst (IsKnownFound g x a) f told))
