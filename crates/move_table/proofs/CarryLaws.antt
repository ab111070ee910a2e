-- One net of a move: the steps that raise it and lower it, and the stages between them.
use Rattle.std.proofs.Common.{◌≡◌, ◌≢◌, ℕ, ◌+◌, ◌-◌, ◌<◌, true, false, List, length, slice_index, nat_eq, nat_lt}
use Rattle.std.proofs.Common.{if◌then◌else◌, ℤ, pos, ◌+ℤ◌, FitsSigned, refl, sym, ap, ◌∙◌, subst, arith}
use Rattle.std.specs.Int.{w64}
use Rattle.std.proofs.lemmas.Int.{ints}
use Rattle.std.proofs.lemmas.Bool.{eq-eqb, ne_eqb, lt-ltb, and_from}
use Rattle.hg_defs.specs.Hypergraph.{net_count}
use Rattle.hg_defs.specs.Incidence.{nets_of}
use Rattle.hg_base.specs.Packed.{field}
use Rattle.pin_plain.specs.Counts.{net_bits}
use Rattle.atomic_table.specs.Seated.{TableId}
use Rattle.move_core.specs.declared.account.Owed.{Owed}
use Rattle.move_core.specs.declared.account.Owed.TheVariants.{Nothing, Up, Down}
use Rattle.move_core.specs.declared.account.Stage.{Stage}
use Rattle.move_core.specs.declared.account.Stage.TheVariants.{Moving}
use Rattle.move_core.specs.declared.events.Event.TheVariants.{Raise, Widen, Lower, Narrow}
use Rattle.move_core.specs.declared.events.Word.TheVariants as word
use Rattle.move_core.specs.State.{Setup}
use Rattle.move_core.specs.Stages.{from_at, to_at, raised_at, lowered_at, booked_at, raised_stage, lowered_stage}
use Rattle.move_core.specs.Events.{word_of, may_step, stage_net, widen_gain, narrow_gain}
use Rattle.move_table.specs.declared.view.Terms.{Terms}
use Rattle.move_table.specs.declared.view.View.{View}
use Rattle.move_table.specs.declared.grant.Grant.{Grant}
use Rattle.move_table.specs.Places.{word_place, word_count, number_in, counts_place, net_place, field_place}
use Rattle.move_table.specs.Standing.{terms_setup}
use Rattle.move_table.specs.Seen.{IsKnownFound, IsBookable}
use Rattle.move_table.specs.Steps.{IsReady, acted}
use Rattle.move_table.specs.Calls.{IsGrantOf, IsAtNet, IsMover, IsRaised, IsLowered, KeepsFit}
use Rattle.move_table.proofs.PlaceLaws.{Exists}
use Rattle.move_table.proofs.ReadyLaws.{ready}

plus_none : (n : ℕ) → n + 0 ≡ n
plus_none n = omega arith

more_less : (n : ℕ) → n + 1 - 1 ≡ n
more_less n = omega arith

more_none_less : (n : ℕ) → n + 0 + 1 - 1 ≡ n
more_none_less n = omega arith

-- the stage of a move of the grant
abbrev pub on_the_way : Grant → ℕ → ℕ → ℕ → Owed → ℤ → Stage
on_the_way grant number raised lowered owed booked = Moving grant.vertex grant.from grant.to number true raised lowered owed booked

-- what a pass adds where it books nothing
pub keeps_none : (v : View) → KeepsFit v (pos 0)
keeps_none v = record {
  move = λ h. subst (FitsSigned w64) (sym (none (booked_at v.account.stage))) h;
  all = λ h. subst (FitsSigned w64)
      (sym (none v.account.gain)) h;
}
  where
    none : (x : ℤ) → x +ℤ pos 0 ≡ x
    none x = omega (arith, ints)

module _ (t : Terms) (i : ℕ) (grant : Grant) (e : ℕ) (ok : IsGrantOf t grant) (below : e < net_count t.part.hyper) where
  abbrev g : Setup
  g = terms_setup t

  abbrev nets : List ℕ
  nets = nets_of t.part.hyper grant.vertex

  -- the word of an event of a view that knows the round
  at_terms : (v : View) → IsMover t i v → (P : Terms → Type 0) → P t → P v.terms
  at_terms v m P h = subst P (sym m.terms) h

  -- ---- raising

  module _ (v : View) (m : IsMover t i v) (at : IsAtNet t v grant e 0) where
    raise_word : word_of g (Raise i) v.account ≡ word.Count e grant.to
    raise_word =
        ap (λ s. word.Count (stage_net g s (raised_at s)) (to_at s)) at.stage
        ∙ ap (λ z. word.Count (slice_index nets z) grant.to) (plus_none at.place)
        ∙ ap (λ z. word.Count z grant.to) (sym at.net)

    raise_may : may_step g (Raise i) v.account ≡ true
    raise_may =
        subst (λ s. may_step g (Raise i) (record v.account { stage = s }) ≡ true) (sym at.stage)
        (and_from (nat_eq (at.place + 0) at.place) (nat_lt (at.place + 0) (length nets)) (eq-eqb (at.place + 0) at.place (plus_none at.place))
        (lt-ltb (at.place + 0) (length nets) (let w = at.within in omega arith)))

    pub raise_ready : (table : TableId) (w : ℕ) → table.words ≡ word_count g → w ≡ counts_place g e grant.to → IsReady table t v (Raise i) w
    raise_ready table w wide place =
        ready table t v (Raise i) w wide m.terms m.live (sym m.number) raise_may (subst (Exists g) (sym raise_word) (below, ok.to))
        (place ∙ ap (word_place g) (sym raise_word))

    -- the number that the step tells is the field of the count
    raise_count : (n : ℕ) → number_in (terms_setup v.terms) (word_of (terms_setup v.terms) (Raise i) v.account) n ≡ field n (net_bits t.part.hyper e)
        (field_place g e grant.to)
    raise_count n = at_terms v m (λ z. number_in (terms_setup z) (word_of (terms_setup z) (Raise i) v.account) n ≡ field n (net_bits t.part.hyper e)
        (field_place g e grant.to)) (ap (λ z. number_in g z n) raise_word)

    module _ (n : ℕ) (u : View) (is : u ≡ acted (Raise i) (number_in (terms_setup v.terms) (word_of (terms_setup v.terms) (Raise i) v.account) n) v) where
      abbrev count : ℕ
      count = number_in (terms_setup v.terms) (word_of (terms_setup v.terms) (Raise i) v.account) n

      pub raised_mover : IsMover t i u
      raised_mover = record {
        terms = ap (λ (z : View). z.terms) is ∙ m.terms;
        live = ap (λ (z : View). z.account.live) is ∙ m.live;
        number = ap (λ (z : View). z.number) is ∙ m.number;
      }

      raised_at_stage : u.account.stage ≡ on_the_way grant at.number (at.place + 0 + 1) at.place (if nat_eq count 0 then Up else Nothing) at.booked
      raised_at_stage = ap (λ (z : View). z.account.stage) is ∙ ap (raised_stage count) at.stage

      pub raised_alone : field n (net_bits t.part.hyper e) (field_place g e grant.to) ≢ 0 → IsRaised g i e v u (pos 0)
      raised_alone some =
          let off : nat_eq count 0 ≡ false = ne_eqb count 0 (λ z. some (sym (raise_count n) ∙ z)) in
          record {
            count = count;
            spread = 0;
            leads = is ∙ ap (λ b. if b then acted (Widen i) 0 (acted (Raise i) count v) else acted (Raise i) count v) (sym off);
            gains = ap (λ b. if b then widen_gain g.graph e 0 else pos 0) (sym off);
            fits = keeps_none v;
          }

      module _ (zeroed : field n (net_bits t.part.hyper e) (field_place g e grant.to) ≡ 0) where
        on : nat_eq count 0 ≡ true
        on = eq-eqb count 0 (raise_count n ∙ zeroed)

        widen_stage : u.account.stage ≡ on_the_way grant at.number (at.place + 0 + 1) at.place Up at.booked
        widen_stage = raised_at_stage ∙ ap (λ b. on_the_way grant at.number (at.place + 0 + 1) at.place (if b then Up else Nothing) at.booked) on

        widen_net : stage_net g u.account.stage (raised_at u.account.stage - 1) ≡ e
        widen_net = ap (λ s. stage_net g s (raised_at s - 1)) widen_stage ∙ ap (slice_index nets) (more_none_less at.place) ∙ sym at.net

        widen_word : word_of g (Widen i) u.account ≡ word.Spread e
        widen_word = ap word.Spread widen_net

        widen_may : may_step g (Widen i) u.account ≡ true
        widen_may = subst (λ s. may_step g (Widen i) (record u.account { stage = s }) ≡ true) (sym widen_stage) refl

        pub widen_ready : (table : TableId) (w : ℕ) → table.words ≡ word_count g → w ≡ net_place g e → IsReady table t u (Widen i) w
        widen_ready table w wide place =
            ready table t u (Widen i) w wide raised_mover.terms raised_mover.live (sym raised_mover.number) widen_may
            (subst (Exists g) (sym widen_word) below)
            (place ∙ ap (word_place g) (sym widen_word))

        module _ (s : ℕ) (after : View) (then_is : after ≡ acted (Widen i)
            (number_in (terms_setup u.terms) (word_of (terms_setup u.terms) (Widen i) u.account)
            s) u) where
          abbrev spread : ℕ
          spread = number_in (terms_setup u.terms) (word_of (terms_setup u.terms) (Widen i) u.account) s

          pub spread_is : spread ≡ s
          spread_is = at_terms u raised_mover (λ z. number_in (terms_setup z) (word_of (terms_setup z) (Widen i) u.account) s ≡ s)
              (ap (λ z. number_in g z s) widen_word)

          pub raised_widened : (gain : ℤ) → gain ≡ widen_gain t.part.hyper e s → IsKnownFound (terms_setup u.terms) (Widen i) u.account spread →
              IsRaised g i e v after gain
          raised_widened gain told known =
              let booked : IsBookable u.account (widen_gain t.part.hyper e s) =
              subst (λ z. IsBookable u.account (widen_gain t.part.hyper e z)) spread_is
              (subst (λ z. IsBookable u.account (widen_gain t.part.hyper z spread)) widen_net
              (subst (λ z. IsBookable u.account (widen_gain z.part.hyper (stage_net (terms_setup z) u.account.stage (raised_at u.account.stage - 1))
              spread))
              raised_mover.terms known.found)) in
              let same_gain : u.account.gain ≡ v.account.gain = ap (λ (z : View). z.account.gain) is in
              let same_booked : booked_at u.account.stage ≡ booked_at v.account.stage = ap booked_at widen_stage ∙ sym (ap booked_at at.stage) in
              record {
                count = count;
                spread = spread;
                leads = then_is ∙ ap (acted (Widen i) spread) is ∙ ap (λ b. if b then acted (Widen i) spread (acted (Raise i) count v) else acted (Raise i)
                    count v) (sym on);
                gains = told ∙ ap (widen_gain t.part.hyper e) (sym spread_is) ∙ ap (λ b. if b then widen_gain g.graph e spread else pos 0) (sym on);
                fits = record {
                  move = λ h. subst (λ x. FitsSigned w64 (booked_at v.account.stage +ℤ x)) (sym told)
                      (subst (λ x. FitsSigned w64 (x +ℤ widen_gain t.part.hyper e s)) same_booked booked.move);
                  all = λ h. subst (λ x. FitsSigned w64 (v.account.gain +ℤ x)) (sym told) (subst (λ x. FitsSigned w64 (x +ℤ widen_gain t.part.hyper e s))
                      same_gain booked.all);
                };
              }

  -- ---- lowering

  module _ (v : View) (m : IsMover t i v) (at : IsAtNet t v grant e 1) where
    lower_word : word_of g (Lower i) v.account ≡ word.Count e grant.from
    lower_word =
        ap (λ s. word.Count (stage_net g s (lowered_at s)) (from_at s)) at.stage
        ∙ ap (λ z. word.Count z grant.from) (sym at.net)

    lower_may : may_step g (Lower i) v.account ≡ true
    lower_may =
        subst (λ s. may_step g (Lower i) (record v.account { stage = s }) ≡ true) (sym at.stage)
        (eq-eqb (at.place + 1) (at.place + 1) refl)

    pub lower_ready : (table : TableId) (w : ℕ) → table.words ≡ word_count g → w ≡ counts_place g e grant.from → IsReady table t v (Lower i) w
    lower_ready table w wide place =
        ready table t v (Lower i) w wide m.terms m.live (sym m.number) lower_may (subst (Exists g) (sym lower_word) (below, ok.block))
        (place ∙ ap (word_place g) (sym lower_word))

    -- the number that the step tells is the field of the pins
    lower_count : (n : ℕ) → number_in (terms_setup v.terms) (word_of (terms_setup v.terms) (Lower i) v.account) n ≡ field n (net_bits t.part.hyper e)
        (field_place g e grant.from)
    lower_count n = at_terms v m (λ z. number_in (terms_setup z) (word_of (terms_setup z) (Lower i) v.account) n ≡ field n (net_bits t.part.hyper e)
        (field_place g e grant.from)) (ap (λ z. number_in g z n) lower_word)

    module _ (n : ℕ) (u : View) (is : u ≡ acted (Lower i) (number_in (terms_setup v.terms) (word_of (terms_setup v.terms) (Lower i) v.account) n) v) where
      abbrev pins : ℕ
      pins = number_in (terms_setup v.terms) (word_of (terms_setup v.terms) (Lower i) v.account) n

      pub lowered_mover : IsMover t i u
      lowered_mover = record {
        terms = ap (λ (z : View). z.terms) is ∙ m.terms;
        live = ap (λ (z : View). z.account.live) is ∙ m.live;
        number = ap (λ (z : View). z.number) is ∙ m.number;
      }

      lowered_at_stage : u.account.stage ≡ on_the_way grant at.number (at.place + 1) (at.place + 1) (if nat_eq pins 1 then Down else Nothing) at.booked
      lowered_at_stage = ap (λ (z : View). z.account.stage) is ∙ ap (lowered_stage pins) at.stage

      pub lowered_alone : field n (net_bits t.part.hyper e) (field_place g e grant.from) ≢ 1 → IsLowered g i e v u (pos 0)
      lowered_alone some =
          let off : nat_eq pins 1 ≡ false = ne_eqb pins 1 (λ z. some (sym (lower_count n) ∙ z)) in
          record {
            count = pins;
            spread = 0;
            leads = is ∙ ap (λ b. if b then acted (Narrow i) 0 (acted (Lower i) pins v) else acted (Lower i) pins v) (sym off);
            gains = ap (λ b. if b then narrow_gain g.graph e 0 else pos 0) (sym off);
            fits = keeps_none v;
          }

      module _ (zeroed : field n (net_bits t.part.hyper e) (field_place g e grant.from) ≡ 1) where
        last : nat_eq pins 1 ≡ true
        last = eq-eqb pins 1 (lower_count n ∙ zeroed)

        narrow_stage : u.account.stage ≡ on_the_way grant at.number (at.place + 1) (at.place + 1) Down at.booked
        narrow_stage = lowered_at_stage ∙ ap (λ b. on_the_way grant at.number (at.place + 1) (at.place + 1) (if b then Down else Nothing) at.booked) last

        narrow_net : stage_net g u.account.stage (lowered_at u.account.stage - 1) ≡ e
        narrow_net = ap (λ s. stage_net g s (lowered_at s - 1)) narrow_stage ∙ ap (slice_index nets) (more_less at.place) ∙ sym at.net

        narrow_word : word_of g (Narrow i) u.account ≡ word.Spread e
        narrow_word = ap word.Spread narrow_net

        narrow_may : may_step g (Narrow i) u.account ≡ true
        narrow_may = subst (λ s. may_step g (Narrow i) (record u.account { stage = s }) ≡ true) (sym narrow_stage) refl

        pub narrow_ready : (table : TableId) (w : ℕ) → table.words ≡ word_count g → w ≡ net_place g e → IsReady table t u (Narrow i) w
        narrow_ready table w wide place =
            ready table t u (Narrow i) w wide lowered_mover.terms lowered_mover.live (sym lowered_mover.number) narrow_may
            (subst (Exists g) (sym narrow_word) below) (place ∙ ap (word_place g) (sym narrow_word))

        module _ (s : ℕ) (after : View) (then_is : after ≡ acted (Narrow i)
            (number_in (terms_setup u.terms) (word_of (terms_setup u.terms) (Narrow i) u.account) s) u) where
          abbrev seen : ℕ
          seen = number_in (terms_setup u.terms) (word_of (terms_setup u.terms) (Narrow i) u.account) s

          pub narrowed_is : seen ≡ s
          narrowed_is = at_terms u lowered_mover (λ z. number_in (terms_setup z) (word_of (terms_setup z) (Narrow i) u.account) s ≡ s)
              (ap (λ z. number_in g z s) narrow_word)

          pub lowered_narrowed : (gain : ℤ) → gain ≡ narrow_gain t.part.hyper e s → IsKnownFound (terms_setup u.terms) (Narrow i) u.account seen →
              IsLowered g i e v after gain
          lowered_narrowed gain told known =
              let booked : IsBookable u.account (narrow_gain t.part.hyper e s) =
              subst (λ z. IsBookable u.account (narrow_gain t.part.hyper e z)) narrowed_is
              (subst (λ z. IsBookable u.account (narrow_gain t.part.hyper z seen)) narrow_net
              (subst (λ z. IsBookable u.account (narrow_gain z.part.hyper (stage_net (terms_setup z) u.account.stage (lowered_at u.account.stage - 1))
              seen))
              lowered_mover.terms known.found)) in
              let same_gain : u.account.gain ≡ v.account.gain = ap (λ (z : View). z.account.gain) is in
              let same_booked : booked_at u.account.stage ≡ booked_at v.account.stage = ap booked_at narrow_stage ∙ sym (ap booked_at at.stage) in
              record {
                count = pins;
                spread = seen;
                leads = then_is ∙ ap (acted (Narrow i) seen) is ∙ ap (λ b. if b then acted (Narrow i) seen (acted (Lower i) pins v) else acted (Lower i)
                    pins
                    v) (sym last);
                gains = told ∙ ap (narrow_gain t.part.hyper e) (sym narrowed_is) ∙ ap (λ b. if b then narrow_gain g.graph e seen else pos 0) (sym last);
                fits = record {
                  move = λ h. subst (λ x. FitsSigned w64 (booked_at v.account.stage +ℤ x)) (sym told)
                      (subst (λ x. FitsSigned w64 (x +ℤ narrow_gain t.part.hyper e s)) same_booked booked.move);
                  all = λ h. subst (λ x. FitsSigned w64 (v.account.gain +ℤ x)) (sym told) (subst (λ x. FitsSigned w64 (x +ℤ narrow_gain t.part.hyper e s))
                      same_gain booked.all);
                };
              }
