-- A move goes over the nets of its vertex, one after the other.
use Rattle.std.proofs.Common.{◌≡◌, ℕ, suc, ◌+◌, ◌-◌, ◌<◌, ◌≤◌, Bool, true, false, List, [], ◌∷◌, ◌++◌, length, take, slice_index, nat_eq}
use Rattle.std.proofs.Common.{if◌then◌else◌, ℤ, pos, ◌+ℤ◌, FitsSigned, refl, sym, ap, ◌∙◌, subst, arith, length-append}
use Rattle.std.specs.Int.{w64}
use Rattle.std.proofs.lemmas.Int.{ints, to_z-of_z}
use mir.Val.{of_z, to_z}
use Rattle.std.proofs.Math.Seq.{take-suc}
use Rattle.std.proofs.lemmas.List.{length-take}
use Rattle.hg_defs.specs.Incidence.{nets_of}
use Rattle.move_core.specs.declared.account.Owed.TheVariants.{Nothing, Up, Down}
use Rattle.move_core.specs.declared.account.Stage.{Stage}
use Rattle.move_core.specs.declared.events.Event.TheVariants.{Raise, Widen, Lower, Narrow}
use Rattle.move_core.specs.State.{Setup}
use Rattle.move_core.specs.Stages.{raised_at, lowered_at, booked_at, raised_stage, lowered_stage, booked_stage}
use Rattle.move_core.specs.Events.{stage_net, widen_gain, narrow_gain}
use Rattle.move_table.specs.declared.view.Terms.{Terms}
use Rattle.move_table.specs.declared.view.View.{View}
use Rattle.move_table.specs.declared.grant.Grant.{Grant}
use Rattle.move_table.specs.Standing.{terms_setup}
use Rattle.move_table.specs.Steps.{acted}
use Rattle.move_table.specs.Calls.{IsMover, IsRaised, IsLowered, NetFinds, ArePassed, raised_view, lowered_view, raised_gain}
use Rattle.move_table.specs.Calls.{lowered_gain, passed_net, passed_nets, booked_at_net, booked_at_nets}
use Rattle.move_table.proofs.CarryLaws.{on_the_way}

nothing_more : (x : ℤ) → x ≡ x +ℤ pos 0
nothing_more x = omega (arith, ints)

more_less : (n : ℕ) → n + 1 - 1 ≡ n
more_less n = omega arith

pub plus_none : (n : ℕ) → n + 0 ≡ n
plus_none n = omega arith

-- a view of a move, and what was booked
pub record IsMovingAt (t : Terms) (i : ℕ) (v : View) (stage : Stage) (gain : ℤ) : Type 0 where
  pub mover : IsMover t i v
  pub same_stage : v.account.stage ≡ stage
  pub all : v.account.gain ≡ gain

module _ (t : Terms) (i : ℕ) (grant : Grant) (e : ℕ) where
  abbrev g : Setup
  g = terms_setup t

  abbrev nets : List ℕ
  nets = nets_of t.part.hyper grant.vertex

  abbrev raised_if : View → ℕ → ℕ → Bool → View
  raised_if v count spread z = if z then acted (Widen i) spread (acted (Raise i) count v) else acted (Raise i) count v

  abbrev lowered_if : View → ℕ → ℕ → Bool → View
  lowered_if v count spread z = if z then acted (Narrow i) spread (acted (Lower i) count v) else acted (Lower i) count v

  abbrev widened_if : ℕ → Bool → ℤ
  widened_if spread z = if z then widen_gain g.graph e spread else pos 0

  abbrev narrowed_if : ℕ → Bool → ℤ
  narrowed_if spread z = if z then narrow_gain g.graph e spread else pos 0

  raised_moves : (v : View) (n p : ℕ) (b : ℤ) → IsMover t i v → v.account.stage ≡ on_the_way grant n p p Nothing b → e ≡ slice_index nets p →
      (count spread : ℕ) → IsMovingAt t i (raised_view i count spread v) (on_the_way grant n (p + 1) p Nothing (b +ℤ raised_gain g e count spread))
      (v.account.gain +ℤ raised_gain g e count spread)
  raised_moves v n p b m at net count spread = by (nat_eq count 0) refl
    where
      by : (z : Bool) → nat_eq count 0 ≡ z → IsMovingAt t i (raised_if v count spread z) (on_the_way grant n (p + 1) p Nothing (b +ℤ widened_if spread z))
          (v.account.gain +ℤ widened_if spread z)
      by true q =
          let stage : raised_stage count v.account.stage ≡ on_the_way grant n (p + 1) p Up b = ap (raised_stage count) at ∙
          ap (λ z. on_the_way grant n (p + 1) p (if z then Up else Nothing) b) q in
          let net_is : stage_net (terms_setup v.terms) (raised_stage count v.account.stage) (raised_at (raised_stage count v.account.stage) - 1) ≡ e =
          ap (λ s. stage_net (terms_setup v.terms) s (raised_at s - 1)) stage ∙
          ap (λ z. stage_net (terms_setup z) (on_the_way grant n (p + 1) p Up b) (p + 1 - 1)) m.terms ∙ ap (slice_index nets) (more_less p) ∙ sym net in
          let gain_is : widen_gain v.terms.part.hyper (stage_net (terms_setup v.terms) (raised_stage count v.account.stage)
          (raised_at (raised_stage count v.account.stage) - 1)) spread ≡ widen_gain t.part.hyper e spread =
          ap (λ z. widen_gain z.part.hyper (stage_net (terms_setup v.terms) (raised_stage count v.account.stage)
          (raised_at (raised_stage count v.account.stage) - 1)) spread) m.terms ∙ ap (λ z. widen_gain t.part.hyper z spread) net_is in
          record {
            mover = record { terms = m.terms; live = m.live; number = m.number };
            same_stage = ap (λ x. booked_stage x (raised_stage count v.account.stage)) gain_is ∙ ap (booked_stage (widen_gain t.part.hyper e spread)) stage;
            all = ap (λ x. v.account.gain +ℤ x) gain_is;
          }
      by false q =
          record {
            mover = record { terms = m.terms; live = m.live; number = m.number };
            same_stage = ap (raised_stage count) at ∙ ap (λ z. on_the_way grant n (p + 1) p (if z then Up else Nothing) b) q ∙
                ap (on_the_way grant n (p + 1) p Nothing) (nothing_more b);
            all = nothing_more v.account.gain;
          }

  lowered_moves : (v : View) (n p : ℕ) (b : ℤ) → IsMover t i v → v.account.stage ≡ on_the_way grant n (p + 1) p Nothing b → e ≡ slice_index nets p →
      (count spread : ℕ) → IsMovingAt t i (lowered_view i count spread v) (on_the_way grant n (p + 1) (p + 1) Nothing (b +ℤ lowered_gain g e count spread))
      (v.account.gain +ℤ lowered_gain g e count spread)
  lowered_moves v n p b m at net count spread = by (nat_eq count 1) refl
    where
      by : (z : Bool) → nat_eq count 1 ≡ z → IsMovingAt t i (lowered_if v count spread z)
          (on_the_way grant n (p + 1) (p + 1) Nothing (b +ℤ narrowed_if spread z)) (v.account.gain +ℤ narrowed_if spread z)
      by true q =
          let stage : lowered_stage count v.account.stage ≡ on_the_way grant n (p + 1) (p + 1) Down b = ap (lowered_stage count) at ∙
          ap (λ z. on_the_way grant n (p + 1) (p + 1) (if z then Down else Nothing) b) q in
          let net_is : stage_net (terms_setup v.terms) (lowered_stage count v.account.stage) (lowered_at (lowered_stage count v.account.stage) - 1) ≡ e =
          ap (λ s. stage_net (terms_setup v.terms) s (lowered_at s - 1)) stage ∙
          ap (λ z. stage_net (terms_setup z) (on_the_way grant n (p + 1) (p + 1) Down b)
          (p + 1 - 1)) m.terms ∙ ap (slice_index nets) (more_less p) ∙ sym net in
          let gain_is : narrow_gain v.terms.part.hyper (stage_net (terms_setup v.terms) (lowered_stage count v.account.stage)
          (lowered_at (lowered_stage count v.account.stage) - 1)) spread ≡ narrow_gain t.part.hyper e spread =
          ap (λ z. narrow_gain z.part.hyper (stage_net (terms_setup v.terms) (lowered_stage count v.account.stage)
          (lowered_at (lowered_stage count v.account.stage) - 1)) spread) m.terms ∙ ap (λ z. narrow_gain t.part.hyper z spread) net_is in
          record {
            mover = record { terms = m.terms; live = m.live; number = m.number };
            same_stage = ap (λ x. booked_stage x (lowered_stage count v.account.stage)) gain_is ∙ ap (booked_stage (narrow_gain t.part.hyper e spread))
                stage;
            all = ap (λ x. v.account.gain +ℤ x) gain_is;
          }
      by false q =
          record {
            mover = record { terms = m.terms; live = m.live; number = m.number };
            same_stage = ap (lowered_stage count) at ∙ ap (λ z. on_the_way grant n (p + 1) (p + 1) (if z then Down else Nothing) b) q ∙
                ap (on_the_way grant n (p + 1) (p + 1) Nothing) (nothing_more b);
            all = nothing_more v.account.gain;
          }

  -- what is known after a net is raised, and after it is lowered
  pub after_raise : (v u : View) (n p : ℕ) (b gain : ℤ) → IsMover t i v → v.account.stage ≡ on_the_way grant n p p Nothing b → e ≡ slice_index nets p →
      IsRaised g i e v u gain → IsMovingAt t i u (on_the_way grant n (p + 1) p Nothing (b +ℤ gain)) (v.account.gain +ℤ gain)
  after_raise v u n p b gain m at net r =
      let h = raised_moves v n p b m at net r.count r.spread in
      subst (λ z. IsMovingAt t i z (on_the_way grant n (p + 1) p Nothing (b +ℤ gain)) (v.account.gain +ℤ gain)) (sym r.leads)
      (subst (λ x. IsMovingAt t i (raised_view i r.count r.spread v) (on_the_way grant n (p + 1) p Nothing (b +ℤ x)) (v.account.gain +ℤ x)) (sym r.gains) h)

  pub after_lower : (v u : View) (n p : ℕ) (b gain : ℤ) → IsMover t i v → v.account.stage ≡ on_the_way grant n (p + 1) p Nothing b →
      e ≡ slice_index nets p →
      IsLowered g i e v u gain → IsMovingAt t i u (on_the_way grant n (p + 1) (p + 1) Nothing (b +ℤ gain)) (v.account.gain +ℤ gain)
  after_lower v u n p b gain m at net r =
      let h = lowered_moves v n p b m at net r.count r.spread in
      subst (λ z. IsMovingAt t i z (on_the_way grant n (p + 1) (p + 1) Nothing (b +ℤ gain)) (v.account.gain +ℤ gain)) (sym r.leads)
      (subst (λ x. IsMovingAt t i (lowered_view i r.count r.spread v) (on_the_way grant n (p + 1) (p + 1) Nothing (b +ℤ x)) (v.account.gain +ℤ x))
      (sym r.gains) h)

-- ---- one net more

passed_more : (i : ℕ) (fs : List NetFinds) (f : NetFinds) (v : View) → passed_nets i (fs ++ f ∷ []) v ≡ passed_net i f (passed_nets i fs v)
passed_more i [] f v = refl
passed_more i (x ∷ fs) f v = passed_more i fs f (passed_net i x v)

booked_more : (g : Setup) (es : List ℕ) (e : ℕ) (fs : List NetFinds) (f : NetFinds) → length es ≡ length fs → booked_at_nets g (es ++ e ∷ [])
    (fs ++ f ∷ []) ≡
    booked_at_nets g es fs +ℤ booked_at_net g e f
booked_more g [] e [] f h = omega (arith, ints)
booked_more g [] e (y ∷ fs) f h = absurd (omega arith)
booked_more g (x ∷ es) e [] f h = absurd (omega arith)
booked_more g (x ∷ es) e (y ∷ fs) f h =
    let r = booked_more g es e fs f (omega arith) in
    omega (arith, ints)

taken : (xs : List ℕ) (n : ℕ) → n ≤ length xs → length (take n xs) ≡ n
taken xs n h = let e = length-take n xs in omega arith

pub record IsUnderWay (t : Terms) (i : ℕ) (grant : Grant) (number nets : ℕ) (start now : View) (booked : ℤ) : Type 0 where
  pub mover : IsMover t i now
  pub passed : ArePassed (terms_setup t) i grant number nets start now booked

pub one_more : (t : Terms) (i : ℕ) (grant : Grant) (number idx e : ℕ) (start v u w : View) (booked up down : ℤ) → IsUnderWay t i grant number idx start v
    booked → idx < length (nets_of t.part.hyper grant.vertex) → e ≡ slice_index (nets_of t.part.hyper grant.vertex) idx → FitsSigned w64 booked →
    IsRaised (terms_setup t) i e v u up → IsLowered (terms_setup t) i e u w down → IsUnderWay t i grant number (idx + 1) start w (booked +ℤ up +ℤ down)
one_more t i grant number idx e start v u w booked up down h below net small r l =
    let g = terms_setup t in
    let nets = nets_of t.part.hyper grant.vertex in
    let raised = after_raise t i grant e v u number idx booked up h.mover h.passed.stage net r in
    let lowered = after_lower t i grant e u w number idx (booked +ℤ up) down raised.mover raised.same_stage net l in
    let f : NetFinds = record { raised = r.count; widened = r.spread; lowered = l.count; narrowed = l.spread } in
    let more = take-suc nets idx 0 below in
    record {
      mover = lowered.mover;
      passed = record {
        finds = h.passed.finds ++ f ∷ [];
        each = let n = length-append h.passed.finds (f ∷ []) in let m = h.passed.each in omega arith;
        leads = l.leads ∙ ap (lowered_view i l.count l.spread) (r.leads ∙ ap (raised_view i r.count r.spread) h.passed.leads) ∙
            sym (passed_more i h.passed.finds f start);
        gains =
            let here : booked_at_net g e f ≡ up +ℤ down = ap (λ x. x +ℤ lowered_gain g e l.count l.spread) (sym r.gains) ∙
            ap (λ x. up +ℤ x) (sym l.gains) in
            let both = booked_more g (take idx nets) e h.passed.finds f (taken nets idx (omega arith) ∙ sym h.passed.each) in
            let old = h.passed.gains in
            let list : take (idx + 1) nets ≡ take idx nets ++ e ∷ [] = ap (λ n. take n nets) (one idx) ∙ more ∙ ap (λ x. take idx nets ++ x ∷ [])
            (sym net) in
            total (booked_at_nets g (take idx nets) h.passed.finds) (booked_at_net g e f) old here ∙ sym both ∙
            ap (λ xs. booked_at_nets g xs (h.passed.finds ++ f ∷ [])) (sym list);
        stage = lowered.same_stage;
        all = let a = h.passed.all in let b = raised.all in let c = lowered.all in omega (arith, ints);
        fits = subst (FitsSigned w64) (sym lowered.all) (l.fits.all (subst (FitsSigned w64) (sym raised.all) (r.fits.all h.passed.fits)));
      };
    }
  where
    one : (n : ℕ) → n + 1 ≡ suc n
    one n = omega arith

    total : (x y : ℤ) → booked ≡ x → y ≡ up +ℤ down → (booked +ℤ up +ℤ down) ≡ x +ℤ y
    total x y p q = omega (arith, ints)

-- ---- what is booked fits

pub gains_fit : (t : Terms) (i : ℕ) (grant : Grant) (number idx e : ℕ) (start v u w : View) (booked up down : ℤ) → IsUnderWay t i grant number idx start v
    booked → e ≡ slice_index (nets_of t.part.hyper grant.vertex) idx → FitsSigned w64 booked → IsRaised (terms_setup t) i e v u up →
    IsLowered (terms_setup t)
    i e u w down → FitsSigned w64 (booked +ℤ up) × FitsSigned w64 (booked +ℤ up +ℤ down)
gains_fit t i grant number idx e start v u w booked up down h net small r l =
    let raised = after_raise t i grant e v u number idx booked up h.mover h.passed.stage net r in
    let before : booked_at v.account.stage ≡ booked = ap booked_at h.passed.stage in
    let between : booked_at u.account.stage ≡ booked +ℤ up = ap booked_at raised.same_stage in
    let first : FitsSigned w64 (booked +ℤ up) = subst (λ x. FitsSigned w64 (x +ℤ up)) before (r.fits.move (subst (FitsSigned w64) (sym before) small)) in
    (first, subst (λ x. FitsSigned w64 (x +ℤ down)) between (l.fits.move (subst (FitsSigned w64) (sym between) first)))

pub as_bits : (b up down : ℤ) → FitsSigned w64 up → FitsSigned w64 down → FitsSigned w64 (b +ℤ up) → FitsSigned w64 (b +ℤ up +ℤ down) →
    to_z w64 (of_z w64 (to_z w64 (of_z w64 (b +ℤ to_z w64 (of_z w64 up))) +ℤ to_z w64 (of_z w64 down))) ≡ b +ℤ up +ℤ down
as_bits b up down fu fd first both =
    ap (λ x. to_z w64 (of_z w64 (to_z w64 (of_z w64 (b +ℤ x)) +ℤ to_z w64 (of_z w64 down)))) (to_z-of_z w64 up fu)
    ∙ ap (λ x. to_z w64 (of_z w64 (x +ℤ to_z w64 (of_z w64 down)))) (to_z-of_z w64 (b +ℤ up) first)
    ∙ ap (λ x. to_z w64 (of_z w64 (b +ℤ up +ℤ x))) (to_z-of_z w64 down fd)
    ∙ to_z-of_z w64 (b +ℤ up +ℤ down) both

pub sum_fits : (b up down : ℤ) → FitsSigned w64 up → FitsSigned w64 down → FitsSigned w64 (b +ℤ up) → FitsSigned w64 (b +ℤ up +ℤ down) →
    FitsSigned w64 (to_z w64 (of_z w64 (b +ℤ to_z w64 (of_z w64 up))) +ℤ to_z w64 (of_z w64 down))
sum_fits b up down fu fd first both =
    subst (λ x. FitsSigned w64 (to_z w64 (of_z w64 (b +ℤ x)) +ℤ to_z w64 (of_z w64 down))) (sym (to_z-of_z w64 up fu))
    (subst (λ x. FitsSigned w64 (x +ℤ to_z w64 (of_z w64 down))) (sym (to_z-of_z w64 (b +ℤ up) first))
    (subst (λ x. FitsSigned w64 (b +ℤ up +ℤ x)) (sym (to_z-of_z w64 down fd)) both))
