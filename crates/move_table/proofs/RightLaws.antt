-- Each atomic step writes its word as its event does, and tells what its event tells.
use Rattle.std.proofs.Common.{◌≡◌, ℕ, ◌+◌, ◌-◌, ◌*◌, ◌%◌, ◌^◌, ◌<◌, ◌≤◌, inl, inr, true, false, not, ◌&&◌, List, [], ◌∷◌, length, get_or, set}
use Rattle.std.proofs.Common.{slice_index, get_or-set_same, nat_eq, nat_lt, length-set, ℤ, ◌+ℤ◌, refl, sym, ap, ◌∙◌, subst, arith}
use Rattle.std.proofs.lemmas.Bool.{ltb-true, and_parts}
use Rattle.std.proofs.lemmas.List.{length-map}
use mathlib.Core.Option.{some}
use lib.ListN.{get_elem?}
use Rattle.hg_defs.specs.Hypergraph.{Net, vertex_count, net_count, net_of, weight_of}
use Rattle.hg_defs.specs.Partition.{block_of}
use Rattle.hg_defs.proofs.SumLaws.{weight_if, total_at-le, total-append}
use Rattle.hg_base.specs.Packed.{IsWidth, fields_of, field, unit}
use Rattle.hg_base.proofs.PackedLaws.{field-add_same, field-add_other, field-add_fits, field-sub_within, field-sub_same, field-sub_other, place_below}
use Rattle.pin_plain.specs.Counts.{net_bits}
use Rattle.pin_plain.proofs.CountLaws.{bits_width, bits_room}
use Rattle.move_core.specs.declared.account.Account.{Account}
use Rattle.move_core.specs.declared.account.Stage.{Stage}
use Rattle.move_core.specs.declared.account.Stage.TheVariants.{Idle, Refused, Granted, Moving}
use Rattle.move_core.specs.declared.events.Event.{Event}
use Rattle.move_core.specs.declared.events.Event.TheVariants.{Claim, Unclaim, Reserve, TakeBack, Draw, Name, Raise, Widen, Lower}
use Rattle.move_core.specs.declared.events.Event.TheVariants.{Narrow, GiveBack, Seed, Peek, Split, Join}
use Rattle.move_core.specs.declared.events.Word.{Word}
use Rattle.move_core.specs.declared.events.Word.TheVariants as word
use Rattle.move_core.specs.State.{Setup, Readings, read, blank, times}
use Rattle.move_core.specs.Stages.{vertex_at, from_at, to_at, raised_at, lowered_at, is_idle, is_moving, owes_up, owes_down, booked_at, booked_stage}
use Rattle.move_core.specs.Events.{pass_of, word_of, write_of, may_step, account_after, stage_net, holds_unmoved}
use Rattle.move_core.specs.Events.{is_holding, moved_vertices, widen_gain, narrow_gain, booked}
use Rattle.move_core.specs.Balance.{IsSetup, named_at, stage_vertices}
use Rattle.move_core.proofs.StageCases.{no}
use Rattle.move_core.proofs.StepFacts.{small-fits}
use Rattle.move_core.proofs.KeptLaws.{stage_carried}
use Rattle.move_core.proofs.BoundLaws.{IsGainSmall, load_small, next_small, cursor_small, spread_small, gain_small, booked_small}
use Rattle.move_table.specs.declared.view.View.{View}
use Rattle.move_table.specs.Places.{word_place, number_in, field_place, table_readings}
use Rattle.move_table.specs.Standing.{terms_setup, IsStanding}
use Rattle.move_table.specs.Seen.{IsRead, IsBookable, widened_net, narrowed_net}
use Rattle.move_table.specs.Steps.{step_amount, count_unit, is_added, is_subtracted, is_stored, is_swapped, is_loaded}
use Rattle.move_table.proofs.PlaceLaws.{Exists, KeepsFields, exists_word, reads_number}
use Rattle.move_table.proofs.StepLaws.{is_alone, accounts_of, account_here, at_below, account_there, enabled, setup_ok}
use Rattle.move_table.proofs.StepLaws.{word_exists, reads_found, balance_after, IsWritten, IsRight}
use Rattle.move_table.proofs.TellLaws.{reads}
use Rattle.move_table.proofs.RoomLaws.{taken_weight, left_weight, lower_positive, narrow_positive, count_room}

-- what a step that adds, and one that subtracts, makes of a word
abbrev pub adding : ℕ → ℕ → ℕ
adding amount n = (n + amount) % 18446744073709551616

abbrev pub taking : ℕ → ℕ → ℕ
taking amount n = (n + (18446744073709551616 - amount)) % 18446744073709551616

plus : (n k : ℕ) → n + k < 2 ^ 64 → (n + k) % 18446744073709551616 ≡ n + k
plus n k h = omega arith

minus : (n k : ℕ) → k ≤ n → n < 18446744073709551616 → (n + (18446744073709551616 - k)) % 18446744073709551616 ≡ n - k
minus n k h l = omega arith

keeps_same : (g : Setup) (w : Word) (n : ℕ) → KeepsFields g w n n
keeps_same g (word.Claim v) n = tt
keeps_same g (word.Name v) n = tt
keeps_same g (word.Load b) n = tt
keeps_same g (word.Count e b) n = λ q h. refl
keeps_same g (word.Spread e) n = tt
keeps_same g word.Next n = tt
keeps_same g word.Cursor n = tt

-- a field ends within its word
field_ends : (bits p : ℕ) → IsWidth bits → p < fields_of bits → (p + 1) * bits ≤ 64
field_ends bits p (inl e) = subst (λ w. p < fields_of w → (p + 1) * w ≤ 64) (sym e) (λ h. omega arith)
field_ends bits p (inr (inl e)) = subst (λ w. p < fields_of w → (p + 1) * w ≤ 64) (sym e) (λ h. omega arith)
field_ends bits p (inr (inr e)) = subst (λ w. p < fields_of w → (p + 1) * w ≤ 64) (sym e) (λ h. omega arith)

one_times : (u : ℕ) → 1 * u ≡ u
one_times u = omega arith

-- one more, and one less, in the field of a count
module _ (g : Setup) (e c n : ℕ) where
  abbrev bits : ℕ
  bits = net_bits g.graph e

  abbrev p : ℕ
  p = field_place g e c

  width : IsWidth bits
  width = bits_width (length (net_of g.graph e).pins)

  raised_word : n < 18446744073709551616 → field n bits p + 1 < 2 ^ bits → (n + count_unit g e c) % 18446744073709551616 ≡ n + 1 * unit bits p
  raised_word small room =
      let f = field-add_fits bits p n 1 room small (field_ends bits p width (place_below bits c width)) in
      let o = one_times (unit bits p) in
      plus n (unit bits p) (omega arith) ∙ ap (λ u. n + u) (sym o)

  pub raised_written : n < 18446744073709551616 → field n bits p + 1 < 2 ^ bits →
      (field ((n + count_unit g e c) % 18446744073709551616) bits p ≡ field n bits
      p + 1) × KeepsFields g (word.Count e c) n ((n + count_unit g e c) % 18446744073709551616)
  raised_written small room =
      let y = raised_word small room in (
        ap (λ z. field z bits p) y ∙ field-add_same bits p n 1 room,
        λ q other. ap (λ z. field z bits q) y ∙ field-add_other bits p n 1 room q other,
      )

  lowered_word : n < 18446744073709551616 → 1 ≤ field n bits p → (n + (18446744073709551616 - count_unit g e c)) % 18446744073709551616 ≡ n - 1 * unit bits
      p
  lowered_word small most =
      let f = field-sub_within bits p n 1 most in
      let o = one_times (unit bits p) in
      minus n (unit bits p) (omega arith) small ∙ ap (λ u. n - u) (sym o)

  pub lowered_written : n < 18446744073709551616 → 1 ≤ field n bits p → (field ((n + (18446744073709551616 - count_unit g e c)) % 18446744073709551616) bits
      p ≡ field n bits p - 1) × KeepsFields g (word.Count e c) n ((n + (18446744073709551616 - count_unit g e c)) % 18446744073709551616)
  lowered_written small most =
      let y = lowered_word small most in (
        ap (λ z. field z bits p) y ∙ field-sub_same bits p n 1 most,
        λ q other. ap (λ z. field z bits q) y ∙ field-sub_other bits p n 1 most q other,
      )

up_booked : (stage : Stage) (gain : ℤ) → is_moving (λ named raised lowered owed. owes_up owed) stage ≡ true → booked_at (booked_stage gain stage) ≡
    booked_at
    stage +ℤ gain
up_booked Idle gain h = no h
up_booked (Refused v to seen) gain h = no h
up_booked (Granted v from to seen) gain h = no h
up_booked (Moving v from to number named raised lowered owed booked) gain h = refl

down_booked : (stage : Stage) (gain : ℤ) → is_moving (λ named raised lowered owed. owes_down owed) stage ≡ true → booked_at (booked_stage gain stage) ≡
    booked_at stage +ℤ gain
down_booked Idle gain h = no h
down_booked (Refused v to seen) gain h = no h
down_booked (Granted v from to seen) gain h = no h
down_booked (Moving v from to number named raised lowered owed booked) gain h = refl

-- a stage that has a name to write has written none
unnamed : (stage : Stage) → is_moving (λ named raised lowered owed. not named) stage ≡ true → named_at stage ≡ []
unnamed Idle h = no h
unnamed (Refused v to seen) h = no h
unnamed (Granted v from to seen) h = no h
unnamed (Moving v from to number true raised lowered owed booked) h = no h
unnamed (Moving v from to number false raised lowered owed booked) h = refl

idle_named : (stage : Stage) → is_idle stage ≡ true → named_at stage ≡ []
idle_named Idle h = refl
idle_named (Refused v to seen) h = no h
idle_named (Granted v from to seen) h = no h
idle_named (Moving v from to number named raised lowered owed booked) h = no h

moving_vertices : (stage : Stage) → is_moving (λ named raised lowered owed. not named) stage ≡ true → stage_vertices stage ≡ vertex_at stage ∷ []
moving_vertices Idle h = no h
moving_vertices (Refused v to seen) h = no h
moving_vertices (Granted v from to seen) h = no h
moving_vertices (Moving v from to number named raised lowered owed booked) h = refl

module _ (words : List ℕ) (views : List View) (id : ℕ) (v : View) (live : v.account.live ≡ true) (k : IsStanding v.terms words views)
    (at : get_elem? views id ≡ some v) where
  abbrev g : Setup
  g = terms_setup v.terms

  abbrev a : Account
  a = v.account

  abbrev r : Readings
  r = table_readings g words

  -- the word of an event, and what it holds
  abbrev word_at : Event → Word
  word_at x = word_of g x a

  abbrev held_in : Event → ℕ
  held_in x = slice_index words (word_place g (word_at x))

  l : id < length (accounts_of views)
  l = let m = length-map views (λ (z : View). z.account) in let b = at_below views id v at in omega arith

  here : get_or (accounts_of views) id (blank false) ≡ a
  here = account_here v.terms views id v at

  module _ (x : Event) (alone : is_alone x ≡ true) (named : pass_of x ≡ v.number) (may : may_step g x a ≡ true) where
    ok : IsSetup g
    ok = setup_ok words views id v x alone live named may k at

    exists : Exists g (word_at x)
    exists = exists_word g (word_at x) (word_exists words views id v x alone live named may k at)

    reads_held : read r (word_at x) ≡ number_in g (word_at x) (held_in x)
    reads_held = reads_found words views id v x alone live named may k at

    pub read_there : IsRead g a (word_at x) (number_in g (word_at x) (held_in x))
    read_there = subst (IsRead g a (word_at x)) reads_held (reads g ok r (accounts_of views) k.balance id a l here (word_at x) exists)

    -- and so is each other word of the round that is there
    pub read_also : (w : Word) → Exists g w → IsRead g a w (number_in g w (slice_index words (word_place g w)))
    read_also w e = subst (IsRead g a w) (reads_number g words w) (reads g ok r (accounts_of views) k.balance id a l here w e)

    -- what is known after the event, where its word is written as it does
    after_gain : (y : ℕ) → IsWritten g x a (held_in x) y → (gain : ℤ) → account_after g x (number_in g (word_at x) (held_in x)) a ≡ booked gain a →
        booked_at (booked_stage gain a.stage) ≡ booked_at a.stage +ℤ gain → IsBookable a gain
    after_gain y written gain same more =
        let b = balance_after words views id v x alone live named may k at y written in
        let accounts' = set (accounts_of views) id (account_after g x (number_in g (word_at x) (held_in x)) a) in
        let there : get_or accounts' id (blank false) ≡ booked gain a = get_or-set_same (accounts_of views) id
        (account_after g x (number_in g (word_at x) (held_in x)) a) (blank false) l ∙ same in
        let l' : id < length accounts' = let n = length-set (accounts_of views) id (account_after g x (number_in g (word_at x) (held_in x)) a) in
        let m = l in
        omega arith in
        record {
          all = small-fits (a.gain +ℤ gain) (subst (λ (z : Account). IsGainSmall z.gain) there
              (gain_small g (table_readings g (set words (word_place g (word_at x)) y)) accounts' ok.bounds b id (blank false) l'));
          move = small-fits (booked_at a.stage +ℤ gain)
              (subst IsGainSmall more (subst (λ (z : Account). IsGainSmall (booked_at z.stage)) there
              (booked_small g (table_readings g (set words (word_place g (word_at x)) y)) accounts' ok.bounds b id (blank false) l')));
        }

  vertex_weight-le : (u : ℕ) → IsSetup g → u < vertex_count g.graph → weight_of g.graph u < 2 ^ 54
  vertex_weight-le u s h = let t = total_at-le (λ z. z) g.graph.weights u 0 h in let w = s.bounds.weight in omega arith

  net_pins-le : (e : ℕ) → IsSetup g → e < net_count g.graph → length (net_of g.graph e).pins ≤ 2 ^ 25
  net_pins-le e s h = let t = total_at-le (λ (z : Net). length z.pins) g.graph.nets e (record { weight = 0; pins = [] }) h in let w = s.bounds.pins in
      omega arith

  -- ---- additions

  pub adds : (x : Event) → is_added x ≡ true → pass_of x ≡ v.number → may_step g x a ≡ true → held_in x < 18446744073709551616 →
      IsRight v x (adding (step_amount g x a)) words
  adds (Reserve i u to) add named may small =
      let x = Reserve i u to in
      let s = ok x refl named may in
      let idle = and_parts (is_idle a.stage) (nat_lt u (vertex_count g.graph) &&
      (holds_unmoved a u && (nat_lt to g.blocks && not (nat_eq to (block_of g.opening u))))) may in
      let vertex = ltb-true u (vertex_count g.graph) (and_parts (nat_lt u (vertex_count g.graph)) (holds_unmoved a u &&
      (nat_lt to g.blocks && not (nat_eq to (block_of g.opening u)))) idle.1).0 in
      let c = vertex_weight-le u s vertex in
      let m = load_small g r (accounts_of views) k.balance to (exists x refl named may) in
      let w = s.bounds.weight in
      let fits : held_in x + weight_of g.graph u < 2 ^ 64 = omega arith in
      record {
        written = record { number = plus (held_in x) (weight_of g.graph u) fits; keeps = tt };
        told = record {
          read = read_there x refl named may;
          found = fits;
        };
      }
  adds (Draw i) add named may small =
      let x = Draw i in
      let s = ok x refl named may in
      let m = next_small g r (accounts_of views) k.balance in
      let w = s.bounds.vertices in
      record {
        written = record { number = plus (held_in x) 1 (omega arith); keeps = tt };
        told = record { read = read_there x refl named may; found = tt };
      }
  adds (Seed i) add named may small =
      let x = Seed i in
      let m = cursor_small g r (accounts_of views) k.balance in
      record {
        written = record { number = plus (held_in x) 1 (omega arith); keeps = tt };
        told = record { read = read_there x refl named may; found = tt };
      }
  adds (Raise i) add named may small =
      let x = Raise i in
      let s = ok x refl named may in
      let e = stage_net g a.stage (raised_at a.stage) in
      let c = to_at a.stage in
      let there = exists x refl named may in
      let on = enabled words views id v x refl live named may k at in
      let room = count_room g s r (accounts_of views) k.balance i on e c (ap (word_of g x) (account_there words views id v x refl live named may k at))
      there.0
      there.1 in
      let pins = bits_room (length (net_of g.graph e).pins) (net_pins-le e s there.0) in
      let w = raised_written g e c (held_in x) small (omega arith) in
      record { written = record { number = w.0; keeps = w.1 }; told = record { read = read_there x refl named may; found = tt } }
  adds (Widen i) add named may small =
      let x = Widen i in
      let s = ok x refl named may in
      let m = spread_small g r (accounts_of views) k.balance (widened_net g a) (exists x refl named may) in
      let w = s.blocks in
      let written : IsWritten g x a (held_in x) (adding 1 (held_in x)) = record { number = plus (held_in x) 1 (omega arith); keeps = tt } in
      record {
        written = written;
        told = record {
          read = read_there x refl named may;
          found = after_gain x refl named may (adding 1 (held_in x)) written
              (widen_gain g.graph (widened_net g a) (held_in x)) refl (up_booked a.stage (widen_gain g.graph (widened_net g a) (held_in x)) may);
        };
      }
  adds (Claim i u) add named may small = no add
  adds (Unclaim i u) add named may small = no add
  adds (TakeBack i) add named may small = no add
  adds (Name i) add named may small = no add
  adds (Lower i) add named may small = no add
  adds (Narrow i) add named may small = no add
  adds (GiveBack i) add named may small = no add
  adds (Peek i w) add named may small = no add
  adds (Split i) add named may small = no add
  adds (Join i j) add named may small = no add

  -- ---- subtractions

  pub subtracts : (x : Event) → is_subtracted x ≡ true → pass_of x ≡ v.number → may_step g x a ≡ true → held_in x < 18446744073709551616 →
      IsRight v x (taking (step_amount g x a)) words
  subtracts (TakeBack i) sub named may small =
      let x = TakeBack i in
      let w = taken_weight g (ok x refl named may) r (accounts_of views) k.balance id a l here may in
      record {
        written = record { number = minus (held_in x) (weight_of g.graph (vertex_at a.stage)) w small; keeps = tt };
        told = record { read = read_there x refl named may; found = tt };
      }
  subtracts (GiveBack i) sub named may small =
      let x = GiveBack i in
      let w = left_weight g (ok x refl named may) r (accounts_of views) k.balance id a l here _ may (exists x refl named may) in
      record {
        written = record { number = minus (held_in x) (weight_of g.graph (vertex_at a.stage)) w small; keeps = tt };
        told = record { read = read_there x refl named may; found = tt };
      }
  subtracts (Lower i) sub named may small =
      let x = Lower i in
      let e = stage_net g a.stage (lowered_at a.stage) in
      let c = from_at a.stage in
      let most = lower_positive g (ok x refl named may) r (accounts_of views) k.balance id a l here live may in
      let w = lowered_written g e c (held_in x) small most in
      record { written = record { number = w.0; keeps = w.1 }; told = record { read = read_there x refl named may; found = most } }
  subtracts (Narrow i) sub named may small =
      let x = Narrow i in
      let s = ok x refl named may in
      let most = narrow_positive g s r (accounts_of views) k.balance id a l here may (exists x refl named may) in
      let written : IsWritten g x a (held_in x) (taking 1 (held_in x)) = record { number = minus (held_in x) 1 most small; keeps = tt } in
      record {
        written = written;
        told = record {
          read = read_there x refl named may;
          found = after_gain x refl named may (taking 1 (held_in x)) written
              (narrow_gain g.graph (narrowed_net g a) (held_in x)) refl (down_booked a.stage (narrow_gain g.graph (narrowed_net g a) (held_in x)) may);
        };
      }
  subtracts (Claim i u) sub named may small = no sub
  subtracts (Unclaim i u) sub named may small = no sub
  subtracts (Reserve i u to) sub named may small = no sub
  subtracts (Draw i) sub named may small = no sub
  subtracts (Name i) sub named may small = no sub
  subtracts (Raise i) sub named may small = no sub
  subtracts (Widen i) sub named may small = no sub
  subtracts (Seed i) sub named may small = no sub
  subtracts (Peek i w) sub named may small = no sub
  subtracts (Split i) sub named may small = no sub
  subtracts (Join i j) sub named may small = no sub

  -- ---- stores, swaps and loads

  pub stores : (x : Event) → is_stored x ≡ true → pass_of x ≡ v.number → may_step g x a ≡ true → IsRight v x (λ n. write_of g x a 0) words
  stores (Unclaim i u) store named may =
      let x = Unclaim i u in
      let p = and_parts (is_idle a.stage) (nat_lt u (vertex_count g.graph) && holds_unmoved a u) may in
      let q = and_parts (nat_lt u (vertex_count g.graph)) (holds_unmoved a u) p.1 in
      let h = and_parts (is_holding a u) (nat_eq (times u (moved_vertices a)) 0) q.1 in
      let read = read_there x refl named may in
      record { written = record { number = refl; keeps = tt }; told = record { read = read; found = read.own (ltb-true 0 (times u a.held) h.0) } }
  stores (Name i) store named may =
      let x = Name i in
      let read = read_there x refl named may in
      let c = stage_carried g r (accounts_of views) id a l here k.balance (vertex_at a.stage) (moving_vertices a.stage may) in
      let e = ap (times (vertex_at a.stage)) (unnamed a.stage may) in
      let t = total-append (λ z. weight_if z (vertex_at a.stage) 1) (moved_vertices a) (named_at a.stage) in
      let z = c.unmoved in
      record { written = record { number = refl; keeps = tt }; told = record { read = read; found = read.unmoved c.held (omega arith) } }
  stores (Claim i u) store named may = no store
  stores (Reserve i u to) store named may = no store
  stores (TakeBack i) store named may = no store
  stores (Draw i) store named may = no store
  stores (Raise i) store named may = no store
  stores (Widen i) store named may = no store
  stores (Lower i) store named may = no store
  stores (Narrow i) store named may = no store
  stores (GiveBack i) store named may = no store
  stores (Seed i) store named may = no store
  stores (Peek i w) store named may = no store
  stores (Split i) store named may = no store
  stores (Join i j) store named may = no store

  pub swaps : (x : Event) → is_swapped x ≡ true → pass_of x ≡ v.number → may_step g x a ≡ true → IsRight v x (λ n. 1) words
  swaps (Claim i u) swap named may = record {
    written = record { number = refl; keeps = tt };
    told = record {
      read = read_there (Claim i u) refl named may;
      found = tt;
    };
  }
  swaps (Unclaim i u) swap named may = no swap
  swaps (Reserve i u to) swap named may = no swap
  swaps (TakeBack i) swap named may = no swap
  swaps (Draw i) swap named may = no swap
  swaps (Name i) swap named may = no swap
  swaps (Raise i) swap named may = no swap
  swaps (Widen i) swap named may = no swap
  swaps (Lower i) swap named may = no swap
  swaps (Narrow i) swap named may = no swap
  swaps (GiveBack i) swap named may = no swap
  swaps (Seed i) swap named may = no swap
  swaps (Peek i w) swap named may = no swap
  swaps (Split i) swap named may = no swap
  swaps (Join i j) swap named may = no swap

  pub loads : (x : Event) → is_loaded x ≡ true → pass_of x ≡ v.number → may_step g x a ≡ true → IsRight v x (λ n. n) words
  loads (Peek i w) load named may = record {
    written = record { number = refl; keeps = keeps_same g w (slice_index words (word_place g w)) };
    told = record { read = read_there (Peek i w) refl named may; found = tt };
  }
  loads (Claim i u) load named may = no load
  loads (Unclaim i u) load named may = no load
  loads (Reserve i u to) load named may = no load
  loads (TakeBack i) load named may = no load
  loads (Draw i) load named may = no load
  loads (Name i) load named may = no load
  loads (Raise i) load named may = no load
  loads (Widen i) load named may = no load
  loads (Lower i) load named may = no load
  loads (Narrow i) load named may = no load
  loads (GiveBack i) load named may = no load
  loads (Seed i) load named may = no load
  loads (Split i) load named may = no load
  loads (Join i j) load named may = no load
