-- What a step of the machine needs to know of the books: that its places are there, and that no number passes its type.
use Rattle.std.proofs.Common.{◌≡◌, ℕ, ◌+◌, ◌^◌, ◌<◌, ◌≤◌, true, false, Bool, List, [], ◌∷◌, to_z, of_z, length, get_or}
use Rattle.std.proofs.Common.{get_or-set_same, length-set, slice_set, ℤ, pos, ◌+ℤ◌, refl, sym, ap, ◌∙◌, subst, arith}
use Rattle.std.proofs.lemmas.Int.{ints, to_z-of_z}
use Rattle.std.specs.Int.{w64}
use Rattle.std.specs.Prelude.{FitsSigned}
use Rattle.std.proofs.lemmas.Bool.{ltb-true, and_parts}
use Rattle.hg_defs.specs.Hypergraph.{Hyper, vertex_count, net_count, weight_of}
use Rattle.hg_defs.specs.Incidence.{nets_of}
use Rattle.move_core.specs.declared.account.Account.{Account}
use Rattle.move_core.specs.declared.account.Owed.{Owed}
use Rattle.move_core.specs.declared.account.Stage.{Stage}
use Rattle.move_core.specs.declared.account.Stage.TheVariants.{Idle, Refused, Granted, Moving}
use Rattle.move_core.specs.declared.events.Event.{Event}
use Rattle.move_core.specs.declared.events.Event.TheVariants.{Reserve, TakeBack, Widen, Narrow, GiveBack, Join}
use Rattle.move_core.specs.State.{State, readings, account, blank}
use Rattle.move_core.specs.Stages.{vertex_at, raised_at, lowered_at, booked_at, booked_stage, is_idle, is_moving}
use Rattle.move_core.specs.Events.{pass_of, accounts_after, may_step, is_enabled, found_of, gain_after, state_after, word_for, word_net}
use Rattle.move_core.specs.Balance.{IsBooks, IsInStep, stage_vertices}
use Rattle.move_core.proofs.StageCases.{no, on_reserved, on_moving}
use Rattle.move_core.proofs.TimesLaws.{all_at, same_default}
use Rattle.move_core.proofs.KeptLaws.{stage_carried}
use Rattle.move_core.proofs.IndexLaws.{nets_of-small}
use Rattle.move_core.proofs.BoundLaws.{seeds_small, gain_small, booked_small, IsGainSmall}
use Rattle.move_core.proofs.EventLaw.{allowed, live_below, event_word}
use Rattle.move_core.proofs.ReadBack.{event_most}
use Rattle.move_core.proofs.StateLaw.{event_keeps}

-- ---- stages

busy-vertices : (stage : Stage) → is_idle stage ≡ false → stage_vertices stage ≡ vertex_at stage ∷ []
busy-vertices Idle h = no (sym h)
busy-vertices (Refused v to seen) h = refl
busy-vertices (Granted v from to seen) h = refl
busy-vertices (Moving v from to number named raised lowered owed booked) h = refl

-- a move goes over its nets in order
pub record IsAhead (h : Hyper) (stage : Stage) : Type 0 where
  pub behind : lowered_at stage ≤ raised_at stage
  pub ahead : raised_at stage ≤ lowered_at stage + 1
  pub nets : raised_at stage ≤ length (nets_of h (vertex_at stage))

ahead_from_step : (h : Hyper) (stage : Stage) → IsInStep h stage → IsAhead h stage
ahead_from_step h Idle q = record { behind = omega arith; ahead = omega arith; nets = omega arith }
ahead_from_step h (Refused v to seen) q = record { behind = omega arith; ahead = omega arith; nets = omega arith }
ahead_from_step h (Granted v from to seen) q = record { behind = omega arith; ahead = omega arith; nets = omega arith }
ahead_from_step h (Moving v from to number named raised lowered owed booked) q = record { behind = q.0; ahead = q.1; nets = q.2 }

-- a number with nothing booked to it
as_before : (z : ℤ) → IsGainSmall z → IsGainSmall (z +ℤ pos 0)
as_before z q = let low = q.low in let high = q.high in record { low = omega (arith, ints); high = omega (arith, ints) }

-- a gain far from 2^63 fits
pub small-fits : (x : ℤ) → IsGainSmall x → FitsSigned w64 x
small-fits x q = let low = q.low in let high = q.high in omega (arith, ints)

module _ (s : State) (k : IsBooks s) where
  -- the pass of an enabled event
  pub pass_below : (x : Event) → is_enabled s x ≡ true → pass_of x < length s.accounts
  pass_below x h = (allowed s.setup s.accounts x h).place

  may_at : (x : Event) → is_enabled s x ≡ true → may_step s.setup x (account s (pass_of x)) ≡ true
  may_at x h = (allowed s.setup s.accounts x h).step

  pub other_below : (i j : ℕ) → is_enabled s (Join i j) ≡ true → j < length s.accounts
  other_below i j h = live_below s.accounts j (and_parts (account s j).live (is_idle (account s j).stage)
      (allowed s.setup s.accounts (Join i j) h).others).0

  -- the parts of a stage that isn't idle
  module _ (i : ℕ) (l : i < length s.accounts) where
    pub vertex_here : is_idle (account s i).stage ≡ false → vertex_at (account s i).stage < vertex_count s.setup.graph
    vertex_here q = (stage_carried s.setup (readings s) s.accounts i (account s i) l refl k.balance (vertex_at (account s i).stage)
        (busy-vertices (account s i).stage q)).vertex

    ahead_here : IsAhead s.setup.graph (account s i).stage
    ahead_here = ahead_from_step s.setup.graph (account s i).stage (all_at s.accounts i (account s i) (account s i) l refl
        (λ x. IsInStep s.setup.graph x.stage) k.balance.counts.steps)

    pub few_raised : raised_at (account s i).stage + 1 < 2 ^ 32
    few_raised = let a = ahead_here.nets in let n = nets_of-small s.setup.graph (vertex_at (account s i).stage) k.setup.bounds in omega arith

    pub seeds_here : (account s i).seeds ≤ 2 ^ 38
    seeds_here = seeds_small s.setup (readings s) s.accounts k.balance i (blank false) l

    pub few_seeds : (account s i).seeds + 1 < 2 ^ 64
    few_seeds = let n = seeds_here in omega arith

    pub gain_here : IsGainSmall (account s i).gain
    gain_here = gain_small s.setup (readings s) s.accounts k.setup.bounds k.balance i (blank false) l

    booked_here : IsGainSmall (booked_at (account s i).stage)
    booked_here = booked_small s.setup (readings s) s.accounts k.setup.bounds k.balance i (blank false) l

  pub take_back_vertex : (i : ℕ) → is_enabled s (TakeBack i) ≡ true → vertex_at (account s i).stage < vertex_count s.setup.graph
  take_back_vertex i h = vertex_here i (pass_below (TakeBack i) h) (on_reserved (λ stage. is_idle stage ≡ false) (λ v to seen. refl)
      (λ v from to seen. refl)
      (account s i).stage (may_at (TakeBack i) h))

  pub give_back_vertex : (i : ℕ) → is_enabled s (GiveBack i) ≡ true → vertex_at (account s i).stage < vertex_count s.setup.graph
  give_back_vertex i h = vertex_here i (pass_below (GiveBack i) h) (on_moving _ (λ stage. is_idle stage ≡ false)
      (λ v from to number named raised lowered owed booked t. refl) (account s i).stage (may_at (GiveBack i) h))

  -- ---- the word of an event

  pub widen_word : (i : ℕ) → is_enabled s (Widen i) ≡ true → word_net (word_for s.setup s.accounts (Widen i)) < net_count s.setup.graph
  widen_word i h = ltb-true _ (net_count s.setup.graph) (event_word s.setup k.setup (readings s) s.accounts k.balance (Widen i) h)

  pub narrow_word : (i : ℕ) → is_enabled s (Narrow i) ≡ true → word_net (word_for s.setup s.accounts (Narrow i)) < net_count s.setup.graph
  narrow_word i h = ltb-true _ (net_count s.setup.graph) (event_word s.setup k.setup (readings s) s.accounts k.balance (Narrow i) h)

  pub widen_room : (i : ℕ) → is_enabled s (Widen i) ≡ true → found_of s (Widen i) + 1 < 2 ^ 64
  widen_room i h = event_most s.setup (readings s) s.accounts k.balance k.setup (Widen i) h

  pub reserve_room : (i v to : ℕ) → is_enabled s (Reserve i v to) ≡ true → found_of s (Reserve i v to) + weight_of s.setup.graph v < 2 ^ 64
  reserve_room i v to h = event_most s.setup (readings s) s.accounts k.balance k.setup (Reserve i v to) h

  -- ---- what an event books

  -- the books are in balance afterwards, too
  after_gain : (x : Event) → is_enabled s x ≡ true → (a' : Account) → accounts_after s x (found_of s x) ≡ slice_set s.accounts (pass_of x) a'
      → IsGainSmall a'.gain × IsGainSmall (booked_at a'.stage)
  after_gain x h a' e =
      let t = state_after s x in
      let kt = event_keeps s k x h in
      let l = pass_below x h in
      let here : (account t (pass_of x)) ≡ a' = ap (λ z. get_or z (pass_of x) (blank false)) e ∙ get_or-set_same s.accounts (pass_of x) a' (blank false)
      l in
      let l' : pass_of x < length t.accounts = subst (λ z. pass_of x < length z) (sym e) (let n = length-set s.accounts (pass_of x) a' in omega arith) in (
        subst (λ (z : Account). IsGainSmall z.gain) here (gain_small t.setup (readings t) t.accounts kt.setup.bounds kt.balance (pass_of x) (blank false)
            l'),
        subst (λ (z : Account). IsGainSmall (booked_at z.stage)) here (booked_small t.setup (readings t) t.accounts kt.setup.bounds kt.balance (pass_of x)
            (blank false) l'),
      )

  moving-booked : (test : Bool → ℕ → ℕ → Owed → Bool) (stage : Stage) (gain : ℤ) → is_moving test stage ≡ true
      → booked_at (booked_stage gain stage) ≡ booked_at stage +ℤ gain
  moving-booked test stage gain q = on_moving test (λ z. booked_at (booked_stage gain z) ≡ booked_at z +ℤ gain)
      (λ v from to number named raised lowered owed booked t. refl) stage q

  pub gain_fits : (x : Event) → is_enabled s x ≡ true → IsGainSmall ((account s (pass_of x)).gain +ℤ gain_after s.setup x (found_of s x)
      (account s (pass_of x)).stage) × IsGainSmall (booked_at (account s (pass_of x)).stage +ℤ gain_after s.setup x (found_of s x)
      (account s (pass_of x)).stage)
  gain_fits (Widen i) h = let b = after_gain (Widen i) h _ refl in (b.0, subst IsGainSmall (moving-booked _ (account s i).stage _ (may_at (Widen i) h)) b.1)
  gain_fits (Narrow i) h = let b = after_gain (Narrow i) h _ refl in (
    b.0,
    subst IsGainSmall (moving-booked _ (account s i).stage _ (may_at (Narrow i) h))
        b.1,
  )
  gain_fits x h = (as_before _ (gain_here (pass_of x) (pass_below x h)), as_before _ (booked_here (pass_of x) (pass_below x h)))

  -- what it books is the difference of two small numbers
  pub gain_after_small : (x : Event) → is_enabled s x ≡ true → FitsSigned w64 (gain_after s.setup x (found_of s x) (account s (pass_of x)).stage)
  gain_after_small x h =
      let a = (gain_fits x h).0 in
      let b = gain_here (pass_of x) (pass_below x h) in
      let a0 = a.low in
      let a1 = a.high in
      let b0 = b.low in
      let b1 = b.high in
      omega (arith, ints)

  -- the account at the place of the pass, and the gain as it is passed on
  module _ (x : Event) (h : is_enabled s x ≡ true) where
    pub slot_is : (xs : List Account) (i : ℕ) (b : Account) → xs ≡ s.accounts → i ≡ pass_of x → b ≡ get_or xs i b → b ≡ account s (pass_of x)
    slot_is xs i b e f q = q ∙ ap (λ z. get_or z i b) e ∙ ap (λ z. get_or s.accounts z b) f
        ∙ same_default s.accounts (pass_of x) b (blank false) (pass_below x h)

    pub gain_is : (found : ℕ) (gain : ℤ) → found ≡ found_of s x → gain ≡ gain_after s.setup x found (account s (pass_of x)).stage
        → to_z w64 (of_z w64 gain) ≡ gain_after s.setup x found (account s (pass_of x)).stage
    gain_is found gain e q =
        to_z-of_z w64 gain (subst (FitsSigned w64) (sym (q ∙ ap (λ f. gain_after s.setup x f (account s (pass_of x)).stage) e)) (gain_after_small x h)) ∙ q

    pub gain_room : (found : ℕ) (gain : ℤ) (b : Account) → found ≡ found_of s x → gain ≡ gain_after s.setup x found (account s (pass_of x)).stage
        → b ≡ account s (pass_of x) → FitsSigned w64 (b.gain +ℤ to_z w64 (of_z w64 gain)) × FitsSigned w64 (booked_at b.stage +ℤ to_z w64 (of_z w64 gain))
    gain_room found gain b e q o =
        let stage = (account s (pass_of x)).stage in
        let g : to_z w64 (of_z w64 gain) ≡ gain_after s.setup x (found_of s x) stage = gain_is found gain e q ∙ ap (λ f. gain_after s.setup x f stage) e in
        let w = gain_fits x h in
        let u = small-fits ((account s (pass_of x)).gain +ℤ gain_after s.setup x (found_of s x) stage) w.0 in
        let v = small-fits (booked_at stage +ℤ gain_after s.setup x (found_of s x) stage) w.1 in (
          subst (λ (z : Account). FitsSigned w64 (z.gain +ℤ to_z w64 (of_z w64 gain))) (sym o)
              (subst (λ z. FitsSigned w64 ((account s (pass_of x)).gain +ℤ z)) (sym g) u),
          subst (λ (z : Account). FitsSigned w64 (booked_at z.stage +ℤ to_z w64 (of_z w64 gain))) (sym o)
              (subst (λ z. FitsSigned w64 (booked_at stage +ℤ z)) (sym g) v),
        )
