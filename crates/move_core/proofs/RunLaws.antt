-- The books stay in balance over every list of events.
use Rattle.std.proofs.Common.{◌≡◌, ℕ, ◌+◌, ◌<◌, true, List, [], ◌∷◌, ◌++◌, length, take, get_or, refl, sym, ap, ◌∙◌, subst}
use Rattle.std.proofs.lemmas.List.{take_more}
use Rattle.std.proofs.lemmas.Bool.{and_parts, and_from}
use Rattle.move_core.specs.declared.events.Event.{Event}
use Rattle.move_core.specs.State.{State, account}
use Rattle.move_core.specs.Events.{is_enabled, state_after, word_of, write_of, found_of, pass_of}
use Rattle.move_core.specs.Run.{run_of, all_enabled, Leads}
use Rattle.move_core.specs.Balance.{IsBooks}
use Rattle.move_core.proofs.WriteLaws.{setup_written}
use Rattle.move_core.proofs.StateLaw.{event_keeps}

pub run_keeps : (s : State) (xs : List Event) → IsBooks s → all_enabled s xs ≡ true → IsBooks (run_of s xs)
run_keeps s [] k h = k
run_keeps s (x ∷ xs) k h =
    let p = and_parts (is_enabled s x) (all_enabled (state_after s x) xs) h in
    run_keeps (state_after s x) xs (event_keeps s k x p.0) p.1

-- one event more
pub all_enabled_push : (s : State) (xs : List Event) (x : Event) → all_enabled s xs ≡ true → is_enabled (run_of s xs) x ≡ true
    → all_enabled s (xs ++ x ∷ []) ≡ true
all_enabled_push s [] x h e = and_from (is_enabled s x) true e refl
all_enabled_push s (y ∷ xs) x h e =
    let p = and_parts (is_enabled s y) (all_enabled (state_after s y) xs) h in
    and_from (is_enabled s y) (all_enabled (state_after s y) (xs ++ x ∷ [])) p.0 (all_enabled_push (state_after s y) xs x p.1 e)

pub run_of_push : (s : State) (xs : List Event) (x : Event) → run_of s (xs ++ x ∷ []) ≡ state_after (run_of s xs) x
run_of_push s [] x = refl
run_of_push s (y ∷ xs) x = run_of_push (state_after s y) xs x

-- an event changes nothing of what the round is over
pub after_setup : (s : State) (x : Event) → (state_after s x).setup ≡ s.setup
after_setup s x = setup_written s (word_of s.setup x (account s (pass_of x))) (write_of s.setup x (account s (pass_of x)) (found_of s x))

pub record IsMore (s t u : State) (xs : List Event) (i : ℕ) : Type 0 where
  pub enabled : all_enabled s (take (i + 1) xs) ≡ true
  pub state : u ≡ run_of s (take (i + 1) xs)
  pub setup : u.setup ≡ t.setup

pub made_more : (s : State) (xs : List Event) (i : ℕ) (d : Event) → i < length xs → (t u : State) (f : ℕ) → Leads t (get_or xs i d) f u
    → t ≡ run_of s (take i xs) → all_enabled s (take i xs) ≡ true → IsMore s t u xs i
made_more s xs i d l t u f e r h =
    let more = take_more xs i d l in
    record {
      enabled = subst (λ ys. all_enabled s ys ≡ true) (sym more) (all_enabled_push s (take i xs) (get_or xs i d) h
          (subst (λ z. is_enabled z (get_or xs i d) ≡ true) r e.enabled));
      state = e.state ∙ ap (λ z. state_after z (get_or xs i d)) r ∙ sym (run_of_push s (take i xs) (get_or xs i d)) ∙ ap (run_of s) (sym more);
      setup = ap (λ (z : State). z.setup) e.state ∙ after_setup t (get_or xs i d);
    }
