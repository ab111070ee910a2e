-- The clause on numbers, after a Draw and after all other events.
use Rattle.std.proofs.Common.{◌≡◌, ℕ, ◌+◌, ◌<◌, ◌≤◌, inl, inr, false, List, length, get_or, set, nat_lt, if◌then◌else◌, sym, ap, ◌∙◌, arith}
use Rattle.std.proofs.lemmas.Bool.{cases_eq, cases_lt, lt-ltb, le-ltb}
use Rattle.hg_defs.proofs.SumLaws.{weight_if, weight_if-same, weight_if-other}
use Rattle.move_core.specs.declared.account.Account.{Account}
use Rattle.move_core.specs.State.{Readings, times, blank}
use Rattle.move_core.specs.Balance.{Numbers, drawn}
use Rattle.move_core.proofs.TimesLaws.{total_changed, total_unchanged, all_changed}

below : ℕ → ℕ → ℕ
below i n = if nat_lt i n then 1 else 0

below-yes : (i n : ℕ) → i < n → below i n ≡ 1
unfolding below
below-yes i n l = ap (λ b. if b then 1 else 0) (lt-ltb i n l)

below-no : (i n : ℕ) → n ≤ i → below i n ≡ 0
unfolding below
below-no i n l = ap (λ b. if b then 1 else 0) (le-ltb i n l)

below-more : (i n : ℕ) → below i (n + 1) ≡ below i n + weight_if n i 1
below-more i n =
    elim (cases_eq n i) [
      | inl e ↦
          let a = below-no i n (omega arith) in
          let b = below-yes i (n + 1) (omega arith) in
          let c = weight_if-same n i 1 e in
          omega arith
      | inr q ↦
          let c = weight_if-other n i 1 q in
          elim (cases_lt i n) [
            | inl l ↦ let a = below-yes i n l in let b = below-yes i (n + 1) (omega arith) in omega arith
            | inr m ↦
                let k : n + 1 ≤ i = grind arith in
                let a = below-no i n m in
                let b = below-no i (n + 1) k in
                omega arith
          ]
    ]

module _ (r r' : Readings) (accounts : List Account) (i : ℕ) (a a' : Account) (l : i < length accounts) (at : get_or accounts i (blank false) ≡ a)
    (c : Numbers r accounts) where
  pub numbers_kept : ((j : ℕ) → times j (drawn a') ≡ times j (drawn a)) → r'.next ≡ r.next → length a'.numbers ≡ length a'.moves
      → Numbers r' (set accounts i a')
  numbers_kept e same own = record {
    each = λ j. total_unchanged accounts i a a' l at (λ x. times j (drawn x)) (e j) ∙ c.each j ∙ ap (λ n. if nat_lt j n then 1 else 0) (sym same);
    lengths = all_changed accounts i a a' l at (λ x. length x.numbers ≡ length x.moves) c.lengths own;
  }

  -- Draw
  pub numbers_drawn : ((j : ℕ) → times j (drawn a') ≡ times j (drawn a) + weight_if r.next j 1) → r'.next ≡ r.next + 1 → length a'.numbers ≡ length a'.moves
      → Numbers r' (set accounts i a')
  unfolding below
  numbers_drawn e more own = record {
    each = λ j.
        let t = total_changed accounts i a a' l at (λ x. times j (drawn x)) in
        let w = c.each j in
        let q = e j in
        let b = below-more j r.next in
        let n = ap (λ n. below j n) more in
        omega arith;
    lengths = all_changed accounts i a a' l at (λ x. length x.numbers ≡ length x.moves) c.lengths own;
  }
