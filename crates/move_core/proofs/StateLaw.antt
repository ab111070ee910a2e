-- Every enabled event keeps the books of a state in balance.
use Rattle.std.proofs.Common.{◌≡◌, ℕ, ◌^◌, ◌<◌, true, List, refl, sym, ap, ◌∙◌, subst, arith}
use Rattle.std.proofs.lemmas.Bool.{ltb-true}
use Rattle.hg_defs.specs.Hypergraph.{vertex_count}
use Rattle.move_core.specs.declared.account.Account.{Account}
use Rattle.move_core.specs.declared.events.Word.{Word}
use Rattle.move_core.specs.declared.events.Word.TheVariants as word
use Rattle.move_core.specs.declared.events.Event.{Event}
use Rattle.move_core.specs.State.{State, read, readings, account, written}
use Rattle.move_core.specs.Events.{is_enabled, is_word, word_for, write_for, found_of, accounts_after, state_after, may_step, pass_of}
use Rattle.move_core.specs.Balance.{IsBooks, IsSetup, InBalance}
use Rattle.move_core.proofs.WriteLaws.{writes_at, shaped_written, setup_written}
use Rattle.move_core.proofs.EventLaw.{allowed, event_word, event_balance}
use Rattle.move_core.proofs.ReadBack.{name_below}

module _ (s : State) (k : IsBooks s) (x : Event) (h : is_enabled s x ≡ true) where
  pub may_at : may_step s.setup x (account s (pass_of x)) ≡ true
  may_at = (allowed s.setup s.accounts x h).step

  pub event_keeps : IsBooks (state_after s x)
  event_keeps =
      let w = word_for s.setup s.accounts x in
      let y = write_for s.setup s.accounts x (found_of s x) in
      let shape = shaped_written s w y k.shape in
      let there = event_word s.setup k.setup (readings s) s.accounts k.balance x h in
      record {
        setup = subst IsSetup (sym (setup_written s w y)) k.setup;
        shape = record { claims = shape.claims; names = shape.names; loads = shape.loads; counts = shape.counts; spreads = shape.spreads };
        balance = subst (λ z. InBalance z (readings (written s w y)) (accounts_after s x (found_of s x))) (sym (setup_written s w y))
            (event_balance s.setup k.setup (readings s) s.accounts k.balance (readings (written s w y)) x h (writes_at s w y k.shape there));
      }

  -- what is written into a name is a block
  pub name_room : (v : ℕ) → word_for s.setup s.accounts x ≡ word.Name v → write_for s.setup s.accounts x (found_of s x) < 2 ^ 32
  name_room v e =
      let w = word_for s.setup s.accounts x in
      let y = write_for s.setup s.accounts x (found_of s x) in
      let there = event_word s.setup k.setup (readings s) s.accounts k.balance x h in
      let writes = writes_at s w y k.shape there in
      let b = event_balance s.setup k.setup (readings s) s.accounts k.balance (readings (written s w y)) x h writes in
      let l = ltb-true v (vertex_count s.setup.graph) (subst (λ z. is_word s.setup z ≡ true) e there) in
      let n = name_below s.setup (readings (written s w y)) (accounts_after s x (found_of s x)) b k.setup v l in
      let here = subst (λ z. read (readings (written s w y)) z ≡ y) e writes.here in
      let few = k.setup.blocks in
      omega arith

-- a write leaves the accounts, and they leave the words
pub written_after : (s : State) (accounts : List Account) (w : Word) (y : ℕ)
    → written (record s { accounts = accounts }) w y ≡ record (written s w y) { accounts = accounts }
written_after s accounts (word.Claim v) y = refl
written_after s accounts (word.Name v) y = refl
written_after s accounts (word.Load b) y = refl
written_after s accounts (word.Count e b) y = refl
written_after s accounts (word.Spread e) y = refl
written_after s accounts word.Next y = refl
written_after s accounts word.Cursor y = refl

-- what a step reads, and what it leaves, from a state t that is s
pub found_is : (s t : State) (x : Event) (w : Word) (found : ℕ) → t ≡ s → w ≡ word_for s.setup s.accounts x → found ≡ read (readings t) w →
    found ≡ found_of s x
found_is s t x w found e f q = q ∙ ap (λ z. read (readings z) w) e ∙ ap (read (readings s)) f

abbrev with_accounts : State → List Account → State
with_accounts s accounts = record s { accounts = accounts }

pub left_by : (s t u v : State) (x : Event) (w : Word) (found y : ℕ) → t ≡ s → w ≡ word_for s.setup s.accounts x → found ≡ found_of s x
    → y ≡ write_for s.setup s.accounts x found → u ≡ record t { accounts = accounts_after t x found } → v ≡ written u w y → v ≡ state_after s x
left_by s t u v x w found y e f q g o p =
    p
    ∙ ap (λ (z : State). written z w y) (o ∙ ap (λ (z : State). with_accounts z (accounts_after z x found)) e
    ∙ ap (λ n. with_accounts s (accounts_after s x n)) q)
    ∙ written_after s (accounts_after s x (found_of s x)) w y
    ∙ ap (λ z. with_accounts (written s z y) (accounts_after s x (found_of s x))) f
    ∙ ap (λ z. with_accounts (written s (word_for s.setup s.accounts x) z) (accounts_after s x (found_of s x))) (g ∙ ap (write_for s.setup s.accounts x) q)
