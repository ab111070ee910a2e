-- The clause on workers: where the moves stay, where one is done, and after a Split and a Join.
use Rattle.std.proofs.Common.{◌≡◌, ℕ, zero, suc, ◌-◌, ◌<◌, ◌≤◌, ◌≢◌, inl, inr, true, false, List, [], ◌∷◌, ◌++◌, length, length-append}
use Rattle.std.proofs.Common.{length-set, get_or, get_or-set_same, get_or-set_other, set, All, refl, sym, ap, ◌∙◌, subst, arith}
use Rattle.std.proofs.lemmas.Bool.{true≢false, cases_eq, cases_lt}
use Rattle.std.proofs.lemmas.List.{get_or_append_left, get_or-append_right, get_or_past}
use Rattle.std.proofs.lemmas.List.Elements.{All-nil, All-cons, All-append}
use Rattle.hg_defs.specs.declared.moves.Move.{Move}
use Rattle.move_core.specs.declared.account.Account.{Account}
use Rattle.move_core.specs.State.{account_in, blank}
use Rattle.move_core.specs.Balance.{Workers}
use Rattle.move_core.proofs.TimesLaws.{same_default}

-- what a pass owes for the moves in its account
pub record AreOwn (accounts : List Account) (i : ℕ) (moves : List Move) : Type 0 where
  pub made : All (λ m. m.worker < length accounts) moves
  pub own : All (λ m. (account_in accounts m.worker).live ≡ true → m.worker ≡ i) moves

pub own_append : (accounts : List Account) (i : ℕ) (ms ns : List Move) → AreOwn accounts i ms → AreOwn accounts i ns → AreOwn accounts i (ms ++ ns)
own_append accounts i ms ns p q = record {
  made = All-append (λ (m : Move). m.worker < length accounts) ms ns p.made q.made;
  own = All-append (λ (m : Move). (account_in accounts m.worker).live ≡ true → m.worker ≡ i) ms ns p.own q.own;
}

own_none : (accounts : List Account) (i : ℕ) → AreOwn accounts i []
own_none accounts i = record {
  made = All-nil (λ (m : Move). m.worker < length accounts);
  own = All-nil (λ (m : Move). (account_in accounts m.worker).live ≡ true → m.worker ≡ i);
}

-- the same over other accounts, of which fewer live
own_same : (accounts accounts' : List Account) (i : ℕ) (moves : List Move) → length accounts ≤ length accounts'
    → ((j : ℕ) → j < length accounts → (account_in accounts' j).live ≡ true → (account_in accounts j).live ≡ true) → AreOwn accounts i moves
    → AreOwn accounts' i moves
own_same accounts accounts' i moves n f p = record {
  made = λ k d q. let x = p.made k d q in omega arith;
  own = λ k d q h. p.own k d q (f (get_or moves k d).worker (p.made k d q) h);
}

-- the clause is this of each pass
pub own_of : (accounts : List Account) → Workers accounts → (i : ℕ) → AreOwn accounts i (account_in accounts i).moves
own_of accounts c i = record {
  made =
      elim (cases_lt i (length accounts)) [
        | inl l ↦ c.made i (blank false) l
        | inr m ↦ subst (λ (z : Account). All (λ m. m.worker < length accounts) z.moves) (sym (get_or_past accounts i (blank false) m))
            (All-nil (λ (m : Move). m.worker < length accounts))
      ];
  own = c.own i;
}

from_own : (accounts : List Account) → ((i : ℕ) → AreOwn accounts i (account_in accounts i).moves) → Workers accounts
from_own accounts p = record {
  made = λ i d l. subst (λ (z : Account). All (λ m. m.worker < length accounts) z.moves) (same_default accounts i (blank false) d l) (p i).made;
  own = λ i. (p i).own;
}

-- a pass with another account, whose moves are given
changed : (accounts : List Account) (i : ℕ) (a' : Account) → i < length accounts → Workers accounts → (a'.live ≡ true → (account_in accounts i).live ≡ true)
    → AreOwn accounts i a'.moves → (j : ℕ) → AreOwn (set accounts i a') j (account_in (set accounts i a') j).moves
changed accounts i a' l c on p j =
    elim (cases_eq j i) [
      | inl e ↦
          subst (λ z. AreOwn (set accounts i a') z (account_in (set accounts i a') z).moves) (sym e)
          (subst (λ (z : Account). AreOwn (set accounts i a') i z.moves) (sym (get_or-set_same accounts i a' (blank false) l)) (fewer i a'.moves p))
      | inr n ↦
          subst (λ (z : Account). AreOwn (set accounts i a') j z.moves) (sym (get_or-set_other accounts i j a' (blank false) n))
          (fewer j (account_in accounts j).moves (own_of accounts c j))
    ]
  where
    live : (w : ℕ) → w < length accounts → (account_in (set accounts i a') w).live ≡ true → (account_in accounts w).live ≡ true
    live w q h =
        elim (cases_eq w i) [
          | inl e ↦ subst (λ z. (account_in accounts z).live ≡ true) (sym e)
              (on (sym (ap (λ (z : Account). z.live) (get_or-set_same accounts i a' (blank false) l))
              ∙ sym (ap (λ z. (account_in (set accounts i a') z).live) e) ∙ h))
          | inr n ↦ sym (ap (λ (z : Account). z.live) (get_or-set_other accounts i w a' (blank false) n)) ∙ h
        ]

    fewer : (x : ℕ) (moves : List Move) → AreOwn accounts x moves → AreOwn (set accounts i a') x moves
    fewer x moves q = own_same accounts (set accounts i a') x moves (let n = length-set accounts i a' in omega arith) live q

module _ (accounts : List Account) (i : ℕ) (a a' : Account) (l : i < length accounts) (at : get_or accounts i (blank false) ≡ a) (c : Workers accounts)
    (on : a.live ≡ true) where
  -- the moves stay
  pub workers_kept : a'.moves ≡ a.moves → Workers (set accounts i a')
  workers_kept e = from_own (set accounts i a') (changed accounts i a' l c (λ h. ap (λ (z : Account). z.live) at ∙ on)
      (subst (AreOwn accounts i) (sym e) (subst (λ (z : Account). AreOwn accounts i z.moves) at (own_of accounts c i))))

  -- GiveBack: a move of the pass is done
  pub workers_done : (m : Move) → m.worker ≡ i → a'.moves ≡ a.moves ++ m ∷ [] → Workers (set accounts i a')
  workers_done m w e =
      from_own (set accounts i a') (changed accounts i a' l c (λ h. ap (λ (z : Account). z.live) at ∙ on)
      (subst (AreOwn accounts i) (sym e)
      (own_append accounts i a.moves (m ∷ []) (subst (λ (z : Account). AreOwn accounts i z.moves) at (own_of accounts c i))
      (record {
        made = All-cons (λ (z : Move). z.worker < length accounts) m [] (omega arith) (All-nil (λ (z : Move). z.worker < length accounts));
        own = All-cons (λ (z : Move). (account_in accounts z.worker).live ≡ true → z.worker ≡ i) m [] (λ h. w)
            (All-nil (λ (z : Move). (account_in accounts z.worker).live ≡ true → z.worker ≡ i));
      }))))

-- Split
pub workers_split : (accounts : List Account) → Workers accounts → Workers (accounts ++ blank true ∷ [])
workers_split accounts c = from_own (accounts ++ blank true ∷ []) each
  where
    each : (j : ℕ) → AreOwn (accounts ++ blank true ∷ []) j (account_in (accounts ++ blank true ∷ []) j).moves
    each j =
        elim (cases_lt j (length accounts)) [
          | inl l ↦
              subst (λ (z : Account). AreOwn (accounts ++ blank true ∷ []) j z.moves)
              (sym (get_or_append_left accounts (blank true ∷ []) (blank false) j l))
              (own_same accounts (accounts ++ blank true ∷ []) j (account_in accounts j).moves (let n = length-append accounts (blank true ∷ []) in
              omega arith)
              (λ w q h. sym (ap (λ (z : Account). z.live) (get_or_append_left accounts (blank true ∷ []) (blank false) w q)) ∙ h)
              (own_of accounts c j))
          | inr m ↦
              subst (AreOwn (accounts ++ blank true ∷ []) j)
              (sym (ap (λ (z : Account). z.moves) (get_or-append_right accounts (blank true ∷ []) (length accounts) j (blank false) refl m)
              ∙ none (j - length accounts)))
              (own_none (accounts ++ blank true ∷ []) j)
        ]
      where
        none : (k : ℕ) → (get_or (blank true ∷ []) k (blank false)).moves ≡ []
        none zero = refl
        none (suc k) = refl

abbrev joined : List Account → ℕ → ℕ → Account → List Account
joined accounts i j both = set (set accounts i both) j (blank false)

-- Join
pub workers_joined : (accounts : List Account) (i j : ℕ) (both : Account) → i < length accounts → j < length accounts → i ≢ j
    → (account_in accounts i).live ≡ true → (account_in accounts j).live ≡ true → both.moves ≡ (account_in accounts i).moves ++
    (account_in accounts j).moves
    → Workers accounts → Workers (joined accounts i j both)
workers_joined accounts i j both li lj apart on on' e c = from_own (joined accounts i j both) each
  where
    size : length (joined accounts i j both) ≡ length accounts
    size = length-set (set accounts i both) j (blank false) ∙ length-set accounts i both

    lj' : j < length (set accounts i both)
    lj' = let n = length-set accounts i both in omega arith

    -- what lives afterwards lived before, and isn't the pass that ended
    ended : (w : ℕ) → (account_in (joined accounts i j both) w).live ≡ true → w ≢ j
    ended w h q = true≢false (sym h ∙ ap (λ z. (account_in (joined accounts i j both) z).live) q
        ∙ ap (λ (z : Account). z.live) (get_or-set_same (set accounts i both) j (blank false) (blank false) lj'))

    live : (w : ℕ) → (account_in (joined accounts i j both) w).live ≡ true → (account_in accounts w).live ≡ true
    live w h =
        elim (cases_eq w i) [
          | inl q ↦ subst (λ z. (account_in accounts z).live ≡ true) (sym q) on
          | inr n ↦ sym (ap (λ (z : Account). z.live) (get_or-set_other (set accounts i both) j w (blank false) (blank false) (ended w h)
              ∙ get_or-set_other accounts i w both (blank false) n)) ∙ h
        ]

    stay : (x : ℕ) (moves : List Move) → AreOwn accounts x moves → AreOwn (joined accounts i j both) x moves
    stay x moves q = own_same accounts (joined accounts i j both) x moves (omega (arith, size)) (λ w l h. live w h) q

    -- the moves of the pass that ended: their workers have ended
    theirs : AreOwn (joined accounts i j both) i (account_in accounts j).moves
    theirs =
        let q = own_of accounts c j in
        record {
          made = λ k d l. let x = q.made k d l in omega (arith, size);
          own = λ k d l h. absurd (ended (get_or (account_in accounts j).moves k d).worker h
              (q.own k d l (live (get_or (account_in accounts j).moves k d).worker h)));
        }

    each : (x : ℕ) → AreOwn (joined accounts i j both) x (account_in (joined accounts i j both) x).moves
    each x =
        elim (cases_eq x j) [
          | inl q ↦
              subst (AreOwn (joined accounts i j both) x)
              (sym (ap (λ z. (account_in (joined accounts i j both) z).moves) q
              ∙ ap (λ (z : Account). z.moves) (get_or-set_same (set accounts i both) j (blank false) (blank false) lj')))
              (own_none (joined accounts i j both) x)
          | inr n ↦
              elim (cases_eq x i) [
                | inl q ↦
                    subst (λ z. AreOwn (joined accounts i j both) z (account_in (joined accounts i j both) z).moves) (sym q)
                    (subst (AreOwn (joined accounts i j both) i)
                    (sym (ap (λ (z : Account). z.moves) (get_or-set_other (set accounts i both) j i (blank false) (blank false) apart
                    ∙ get_or-set_same accounts i both (blank false) li) ∙ e))
                    (own_append (joined accounts i j both) i (account_in accounts i).moves (account_in accounts j).moves
                    (stay i (account_in accounts i).moves (own_of accounts c i)) theirs))
                | inr o ↦
                    subst (λ (z : Account). AreOwn (joined accounts i j both) x z.moves)
                    (sym (get_or-set_other (set accounts i both) j x (blank false) (blank false) n ∙ get_or-set_other accounts i x both (blank false) o))
                    (stay x (account_in accounts x).moves (own_of accounts c x))
              ]
        ]

-- all passes have nothing
pub workers_blank : (accounts : List Account) → ((i : ℕ) → (account_in accounts i).moves ≡ []) → Workers accounts
workers_blank accounts z = from_own accounts (λ i. subst (AreOwn accounts i) (sym (z i)) (own_none accounts i))
