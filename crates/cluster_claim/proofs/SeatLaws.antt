-- A step of one seat on one word: the rule of the table is kept where the step is an event.
use Rattle.std.proofs.Common.{◌≡◌, ℕ, zero, suc, ◌+◌, ◌*◌, ◌<◌, true, false, ◌&&◌, List, [], ◌∷◌, length, length-set, get_or}
use Rattle.std.proofs.Common.{slice_index, slice_set, nat_eq, if◌then◌else◌, sym, ap, ◌∙◌, subst, arith, get_or-set_other}
use Rattle.std.proofs.lemmas.List.{map-set, get_or-map, length-map}
use Rattle.std.proofs.lemmas.Bool.{and_from}
use mathlib.Core.Option.{some, some-injective, some-ne-none}
use lib.ListN.{get_elem?}
use Rattle.atomic_table.specs.Table.{State}
use Rattle.hg_defs.specs.Hypergraph.{vertex_count}
use Rattle.hg_defs.proofs.SumLaws.{total-set}
use Rattle.cluster_core.specs.declared.account.Account.{Account}
use Rattle.cluster_core.specs.declared.events.ClusterEvent.{ClusterEvent}
use Rattle.cluster_core.specs.State.{Setup, Readings, Mark, Mass, Writes, read, blank, account}
use Rattle.cluster_core.specs.Events.{pass_of, word_of, write_of, may_step, others_agree, is_enabled, account_after, accounts_after}
use Rattle.cluster_core.specs.Balance.{InBalance}
use Rattle.cluster_core.proofs.Law.{event_keeps}
use Rattle.cluster_core.proofs.StateLaws.{set_reads}
use Rattle.cluster_claim.specs.declared.board.View.{View}
use Rattle.cluster_claim.specs.Board.{IsKept, readings_of, accounts_of}
use Rattle.cluster_claim.specs.Steps.{done}

-- an element of a list has a place in it
pub at_below : {A : Type 0} (l : List A) (i : ℕ) (a : A) → get_elem? l i ≡ some a → i < length l
at_below [] i a e = absurd (some-ne-none a (sym e))
at_below (x ∷ xs) zero a e = omega arith
at_below (x ∷ xs) (suc i) a e = let r = at_below xs i a e in omega arith

pub at_get : {A : Type 0} (l : List A) (i : ℕ) (a d : A) → get_elem? l i ≡ some a → get_or l i d ≡ a
at_get [] i a d e = absurd (some-ne-none a (sym e))
at_get (x ∷ xs) zero a d e = some-injective x a e
at_get (x ∷ xs) (suc i) a d e = at_get xs i a d e

-- a number written into the words
module _ (g : Setup) (words : List ℕ) (wide : length words ≡ 2 * vertex_count g.graph) where
  abbrev n : ℕ
  n = vertex_count g.graph

  pub writes_mark : (u y : ℕ) → u < n → Writes g (readings_of n words) (readings_of n (slice_set words u y)) (Mark u) y
  writes_mark u y l = record {
    mark = λ v k. set_reads words u y v (omega arith);
    mass = λ v k. get_or-set_other words u (n + v) y 0 (λ e. omega arith);
  }

  pub writes_mass : (q y : ℕ) → q < n → Writes g (readings_of n words) (readings_of n (slice_set words (n + q) y)) (Mass q) y
  writes_mass q y l = record {
    mark = λ v k. get_or-set_other words (n + q) v y 0 (λ e. omega arith);
    mass = λ v k. set_reads words (n + q) y (n + v) (omega arith) ∙ same v;
  }
    where
      same : (v : ℕ) → (if nat_eq (n + q) (n + v) then y else slice_index words (n + v)) ≡ (if nat_eq q v then y else slice_index words (n + v))
      same v = ap (λ b. if b then y else slice_index words (n + v)) (moved v)
        where
          moved : (v : ℕ) → nat_eq (n + q) (n + v) ≡ nat_eq q v
          moved v = grind arith

module _ (g : Setup) (workers : ℕ) (s : State (Unit {0}) View) (k : IsKept g workers s) (id : ℕ) (v : View) (at : get_elem? s.views id ≡ some v) where
  abbrev accounts : List Account
  accounts = accounts_of s.views

  abbrev r : Readings
  r = readings_of (vertex_count g.graph) s.words

  pub seat_below : id < length s.views
  seat_below = at_below s.views id v at

  pub account_below : id < length accounts
  account_below = let l = seat_below in let m = length-map s.views (λ (z : View). z.account) in omega arith

  pub account_here : account accounts id ≡ v.account
  account_here = get_or-map (λ (z : View). z.account) s.views id v (blank false) seat_below ∙ ap (λ (z : View). z.account) (at_get s.views id v v at)

  -- the words and the account of the seat changed
  pub kept_one : (words : List ℕ) (a' : Account) → length words ≡ length s.words → InBalance g (readings_of (vertex_count g.graph) words)
      (slice_set accounts id a') → IsKept g workers (record { words = words; homes = s.homes; views = slice_set s.views id (record v { account = a' }) })
  kept_one words a' e b = record {
    wide = e ∙ k.wide;
    some = k.some;
    bounds = k.bounds;
    balance = subst (InBalance g (readings_of (vertex_count g.graph) words))
        (sym (map-set (λ (z : View). z.account) s.views id (record v { account = a' }))) b;
    made =
        let t = total-set (λ (z : View). z.spare) s.views id (record v { account = a' }) v seat_below in
        let o = ap (λ (z : View). z.spare) (at_get s.views id v v at) in
        let m = k.made in
        let l = length-set s.views id (record v { account = a' }) in
        omega arith;
    few = k.few;
  }

  -- an event of this seat alone
  pub event_kept : (x : ClusterEvent) → pass_of x ≡ id → ((f : ℕ) → accounts_after g accounts x f ≡ slice_set accounts (pass_of x)
      (account_after g x f (account accounts (pass_of x)))) → others_agree accounts x ≡ true → v.account.live ≡ true → may_step g x v.account ≡ true →
      (place y found : ℕ) → found ≡ read r (word_of x v.account) → Writes g r (readings_of (vertex_count g.graph) (slice_set s.words place y))
      (word_of x v.account) y → y ≡ write_of g x v.account found →
      IsKept g workers (record { words = slice_set s.words place y; homes = s.homes; views = slice_set s.views id (done g x found v) })
  event_kept x p own others live may place y found f w e =
      kept_one (slice_set s.words place y) (account_after g x found v.account) (length-set s.words place y)
      (subst (λ i. InBalance g (readings_of (vertex_count g.graph) (slice_set s.words place y)) (slice_set accounts i (account_after g x found v.account)))
      p
      (subst (λ (a : Account). InBalance g (readings_of (vertex_count g.graph) (slice_set s.words place y))
      (slice_set accounts (pass_of x) (account_after g x found a))) here
      (subst (λ z. InBalance g (readings_of (vertex_count g.graph) (slice_set s.words place y))
      (slice_set accounts (pass_of x) (account_after g x z (account accounts (pass_of x))))) (sym found_here)
      (subst (InBalance g (readings_of (vertex_count g.graph) (slice_set s.words place y))) (own (read r (word_of x (account accounts (pass_of x)))))
      (event_keeps g r accounts k.balance (readings_of (vertex_count g.graph) (slice_set s.words place y)) x enabled
      (subst (λ (a : Account). Writes g r (readings_of (vertex_count g.graph) (slice_set s.words place y)) (word_of x a)
      (write_of g x a (read r (word_of x a)))) (sym here)
      (subst (λ z. Writes g r (readings_of (vertex_count g.graph) (slice_set s.words place y)) (word_of x v.account) (write_of g x v.account z)) f
      (subst (Writes g r (readings_of (vertex_count g.graph) (slice_set s.words place y)) (word_of x v.account)) e w))))))))
    where
      here : account accounts (pass_of x) ≡ v.account
      here = ap (account accounts) p ∙ account_here

      found_here : found ≡ read r (word_of x (account accounts (pass_of x)))
      found_here = f ∙ ap (λ (a : Account). read r (word_of x a)) (sym here)

      enabled : is_enabled g accounts x ≡ true
      enabled =
          and_from (account accounts (pass_of x)).live (may_step g x (account accounts (pass_of x)) && others_agree accounts x)
          (ap (λ (a : Account). a.live) here ∙ live)
          (and_from (may_step g x (account accounts (pass_of x))) (others_agree accounts x) (ap (may_step g x) here ∙ may) others)
