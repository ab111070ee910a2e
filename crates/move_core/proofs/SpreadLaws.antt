-- The clause on spreads, after a Raise, a Lower, a Widen and a Narrow, and after all other events.
use Rattle.std.proofs.Common.{◌≡◌, ℕ, ◌+◌, ◌-◌, ◌<◌, ◌≤◌, ◌≢◌, inl, inr, false, ◌&&◌, List, length, get_or}
use Rattle.std.proofs.Common.{set, nat_eq, if◌then◌else◌, refl, sym, ap, ◌∙◌, arith}
use Rattle.std.proofs.lemmas.Bool.{cases_eq}
use Rattle.hg_defs.specs.Hypergraph.{Hyper, net_count}
use Rattle.hg_defs.specs.Pins.{present}
use Rattle.hg_defs.proofs.SumLaws.{weight_if, weight_if-same, weight_if-other, weight_if-le, total-le, total-ones, sum_below-same, sum_below-change}
use Rattle.hg_defs.proofs.DistinctLaws.{present-zero, present-positive}
use Rattle.move_core.specs.declared.account.Account.{Account}
use Rattle.move_core.specs.declared.account.Owed.TheVariants.{Nothing, Up, Down}
use Rattle.move_core.specs.declared.account.Stage.{Stage}
use Rattle.move_core.specs.declared.account.Stage.TheVariants.{Idle, Refused, Granted, Moving}
use Rattle.move_core.specs.State.{Setup, Readings, blank, present_below}
use Rattle.move_core.specs.Balance.{Spreads, IsOwing, owed_up, owed_down}
use Rattle.move_core.proofs.TimesLaws.{total_changed, total_unchanged, total_at, all_changed, pick, pick_two}

-- at most one net is owed for by a stage
owed_up-le : (h : Hyper) (e : ℕ) (stage : Stage) → owed_up h e stage ≤ 1
owed_up-le h e Idle = omega arith
owed_up-le h e (Refused v to seen) = omega arith
owed_up-le h e (Granted v from to seen) = omega arith
owed_up-le h e (Moving v from to number named raised lowered Nothing booked) = omega arith
owed_up-le h e (Moving v from to number named raised lowered Up booked) = weight_if-le _ e 1
owed_up-le h e (Moving v from to number named raised lowered Down booked) = omega arith

-- a count changed in one block
module _ (f g : ℕ → ℕ) (k b : ℕ) (l : b < k) (same : (j : ℕ) → j < k → j ≢ b → f j ≡ g j) where
  present-one_more : f b ≡ g b + 1 → present_below f k ≡ present_below g k + weight_if (g b) 0 1
  present-one_more e =
      let c = sum_below-change (λ j. present (f j)) (λ j. present (g j)) k b l (λ j m q. ap present (same j m q)) in
      let p = present-positive (f b) (omega arith) in
      elim (cases_eq (g b) 0) [
        | inl z ↦ let x = present-zero (g b) z in let y = weight_if-same (g b) 0 1 z in omega arith
        | inr z ↦ let x = present-positive (g b) (omega arith) in let y = weight_if-other (g b) 0 1 z in omega arith
      ]

  present-one_less : f b + 1 ≡ g b → present_below f k + weight_if (g b) 1 1 ≡ present_below g k
  present-one_less e =
      let c = sum_below-change (λ j. present (f j)) (λ j. present (g j)) k b l (λ j m q. ap present (same j m q)) in
      let p = present-positive (g b) (omega arith) in
      elim (cases_eq (g b) 1) [
        | inl z ↦ let x = present-zero (f b) (omega arith) in let y = weight_if-same (g b) 1 1 z in omega arith
        | inr z ↦ let x = present-positive (f b) (omega arith) in let y = weight_if-other (g b) 1 1 z in omega arith
      ]

module _ (s : Setup) (r r' : Readings) (accounts : List Account) (i : ℕ) (a a' : Account) (l : i < length accounts)
    (at : get_or accounts i (blank false) ≡ a)
    (c : Spreads s r accounts) where
  -- the spreads, the counts and what is owed stay
  pub spreads_kept : ((e : ℕ) → owed_up s.graph e a'.stage ≡ owed_up s.graph e a.stage)
      → ((e : ℕ) → owed_down s.graph e a'.stage ≡ owed_down s.graph e a.stage) → ((e : ℕ) → e < net_count s.graph → r'.spread e ≡ r.spread e)
      → ((e b : ℕ) → e < net_count s.graph → b < s.blocks → r'.count e b ≡ r.count e b) → IsOwing a'.stage → Spreads s r' (set accounts i a')
  spreads_kept up down spread count own = record {
    word = λ e le.
        let w = c.word e le in
        let u = total_unchanged accounts i a a' l at (λ x. owed_up s.graph e x.stage) (up e) in
        let d = total_unchanged accounts i a a' l at (λ x. owed_down s.graph e x.stage) (down e) in
        let z = spread e le in
        let p = sum_below-same (λ b. present (r'.count e b)) (λ b. present (r.count e b)) s.blocks (λ b lb. ap present (count e b le lb)) in
        omega arith;
    owed = all_changed accounts i a a' l at (λ x. IsOwing x.stage) c.owed own;
  }

  -- Raise: where it found 0, a block more is owed
  pub spreads_raised : (e0 to : ℕ) → e0 < net_count s.graph → to < s.blocks
      → ((e : ℕ) → owed_up s.graph e a'.stage ≡ owed_up s.graph e a.stage + weight_if e0 e (weight_if (r.count e0 to) 0 1))
      → ((e : ℕ) → owed_down s.graph e a'.stage ≡ owed_down s.graph e a.stage) → ((e : ℕ) → e < net_count s.graph → r'.spread e ≡ r.spread e)
      → ((e b : ℕ) → e < net_count s.graph → b < s.blocks → r'.count e b ≡ (if nat_eq e0 e && nat_eq to b then r.count e0 to + 1 else r.count e b))
      → IsOwing a'.stage → Spreads s r' (set accounts i a')
  spreads_raised e0 to l0 lt up down spread count own = record {
    word = λ e le.
        let w = c.word e le in
        let u = total_changed accounts i a a' l at (λ x. owed_up s.graph e x.stage) in
        let d = total_unchanged accounts i a a' l at (λ x. owed_down s.graph e x.stage) (down e) in
        let z = spread e le in
        let q = up e in
        elim (cases_eq e0 e) [
          | inl x ↦
              let y = weight_if-same e0 e (weight_if (r.count e0 to) 0 1) x in
              let cc = ap (λ j. r.count j to) x in
              let v = ap (λ j. weight_if j 0 1) cc in
              let here : r'.count e to ≡ r.count e to + 1 = elim (pick_two e0 e to to (r.count e0 to + 1) (r.count e to)) [
                | inl t ↦ let t2 = t.2 in let k = count e to le lt in omega arith
                | inr t ↦ absurd (t.0 (x, refl))
              ] in
              let p = present-one_more (r'.count e) (r.count e) s.blocks to lt
              (λ j m n. elim (pick_two e0 e to j (r.count e0 to + 1) (r.count e j)) [ inl t ↦ absurd (n (sym t.1)) | inr t ↦ count e j le m ∙ t.1 ])
              here in
              omega arith
          | inr x ↦
              let y = weight_if-other e0 e (weight_if (r.count e0 to) 0 1) x in
              let p = sum_below-same (λ b. present (r'.count e b)) (λ b. present (r.count e b)) s.blocks
              (λ b lb. ap present (elim (pick_two e0 e to b (r.count e0 to + 1) (r.count e b)) [
                | inl t ↦ absurd (x t.0)
                | inr t ↦ count e b le lb ∙
                    t.1
              ])) in
              omega arith
        ];
    owed = all_changed accounts i a a' l at (λ x. IsOwing x.stage) c.owed own;
  }

  -- Lower: where it found 1, a block less is owed
  pub spreads_lowered : (e0 from : ℕ) → e0 < net_count s.graph → from < s.blocks → 1 ≤ r.count e0 from
      → ((e : ℕ) → owed_up s.graph e a'.stage ≡ owed_up s.graph e a.stage)
      → ((e : ℕ) → owed_down s.graph e a'.stage ≡ owed_down s.graph e a.stage + weight_if e0 e (weight_if (r.count e0 from) 1 1))
      → ((e : ℕ) → e < net_count s.graph → r'.spread e ≡ r.spread e) → ((e b : ℕ) → e < net_count s.graph → b < s.blocks
      → r'.count e b ≡ (if nat_eq e0 e && nat_eq from b then r.count e0 from - 1 else r.count e b)) → IsOwing a'.stage → Spreads s r' (set accounts i a')
  spreads_lowered e0 from l0 lf some up down spread count own = record {
    word = λ e le.
        let w = c.word e le in
        let u = total_unchanged accounts i a a' l at (λ x. owed_up s.graph e x.stage) (up e) in
        let d = total_changed accounts i a a' l at (λ x. owed_down s.graph e x.stage) in
        let z = spread e le in
        let q = down e in
        elim (cases_eq e0 e) [
          | inl x ↦
              let y = weight_if-same e0 e (weight_if (r.count e0 from) 1 1) x in
              let cc = ap (λ j. r.count j from) x in
              let v = ap (λ j. weight_if j 1 1) cc in
              let here : r'.count e from + 1 ≡ r.count e from = elim (pick_two e0 e from from (r.count e0 from - 1) (r.count e from)) [
                | inl t ↦ let t2 = t.2 in let k = count e from le lf in omega arith
                | inr t ↦ absurd (t.0 (x, refl))
              ] in
              let p = present-one_less (r'.count e) (r.count e) s.blocks from lf
              (λ j m n. elim (pick_two e0 e from j (r.count e0 from - 1) (r.count e j)) [ inl t ↦ absurd (n (sym t.1)) | inr t ↦ count e j le m ∙ t.1 ])
              here in
              omega arith
          | inr x ↦
              let y = weight_if-other e0 e (weight_if (r.count e0 from) 1 1) x in
              let p = sum_below-same (λ b. present (r'.count e b)) (λ b. present (r.count e b)) s.blocks
              (λ b lb. ap present (elim (pick_two e0 e from b (r.count e0 from - 1) (r.count e b)) [
                | inl t ↦ absurd (x t.0)
                | inr t ↦ count e b le lb ∙
                    t.1
              ]))
              in
              omega arith
        ];
    owed = all_changed accounts i a a' l at (λ x. IsOwing x.stage) c.owed own;
  }

  -- Widen: what was owed is booked
  pub spreads_widened : (e0 : ℕ) → ((e : ℕ) → owed_up s.graph e a'.stage + weight_if e0 e 1 ≡ owed_up s.graph e a.stage)
      → ((e : ℕ) → owed_down s.graph e a'.stage ≡ owed_down s.graph e a.stage)
      → ((e : ℕ) → e < net_count s.graph → r'.spread e ≡ (if nat_eq e0 e then r.spread e0 + 1 else r.spread e))
      → ((e b : ℕ) → e < net_count s.graph → b < s.blocks → r'.count e b ≡ r.count e b) → IsOwing a'.stage → Spreads s r' (set accounts i a')
  spreads_widened e0 up down spread count own = record {
    word = λ e le.
        let w = c.word e le in
        let u = total_changed accounts i a a' l at (λ x. owed_up s.graph e x.stage) in
        let d = total_unchanged accounts i a a' l at (λ x. owed_down s.graph e x.stage) (down e) in
        let z = spread e le in
        let q = up e in
        let p = sum_below-same (λ b. present (r'.count e b)) (λ b. present (r.count e b)) s.blocks (λ b lb. ap present (count e b le lb)) in
        elim (pick e0 e (r.spread e0 + 1) (r.spread e)) [
          | inl x ↦ let y = weight_if-same e0 e 1 x.0 in let v = ap r.spread x.0 in let t = x.1 in omega arith
          | inr x ↦ let y = weight_if-other e0 e 1 x.0 in let t = x.1 in omega arith
        ];
    owed = all_changed accounts i a a' l at (λ x. IsOwing x.stage) c.owed own;
  }

  -- Narrow: what was owed is booked, and no spread word falls below 0
  pub spread_positive : (e : ℕ) → e < net_count s.graph → length accounts ≤ 64 → 1 ≤ owed_down s.graph e a.stage → 1 ≤ r.spread e
  spread_positive e le made o =
      let w = c.word e le in
      let d = total_at accounts i a a' l at (λ x. owed_down s.graph e x.stage) in
      let u = total-le (λ x. owed_up s.graph e x.stage) (λ x. 1) accounts (λ k y q. owed_up-le s.graph e (get_or accounts k y).stage) in
      let n = total-ones accounts in
      omega arith

  pub spreads_narrowed : (e0 : ℕ) → e0 < net_count s.graph → length accounts ≤ 64 → ((e : ℕ) → owed_up s.graph e a'.stage ≡ owed_up s.graph e a.stage)
      → ((e : ℕ) → owed_down s.graph e a'.stage + weight_if e0 e 1 ≡ owed_down s.graph e a.stage)
      → ((e : ℕ) → e < net_count s.graph → r'.spread e ≡ (if nat_eq e0 e then r.spread e0 - 1 else r.spread e))
      → ((e b : ℕ) → e < net_count s.graph → b < s.blocks → r'.count e b ≡ r.count e b) → IsOwing a'.stage → Spreads s r' (set accounts i a')
  spreads_narrowed e0 l0 made up down spread count own = record {
    word = λ e le.
        let w = c.word e le in
        let u = total_unchanged accounts i a a' l at (λ x. owed_up s.graph e x.stage) (up e) in
        let d = total_changed accounts i a a' l at (λ x. owed_down s.graph e x.stage) in
        let z = spread e le in
        let q = down e in
        let p = sum_below-same (λ b. present (r'.count e b)) (λ b. present (r.count e b)) s.blocks (λ b lb. ap present (count e b le lb)) in
        elim (pick e0 e (r.spread e0 - 1) (r.spread e)) [
          | inl x ↦
              let y = weight_if-same e0 e 1 x.0 in
              let v = ap r.spread x.0 in
              let t = x.1 in
              let n = spread_positive e le made (omega arith) in
              omega arith
          | inr x ↦ let y = weight_if-other e0 e 1 x.0 in let t = x.1 in omega arith
        ];
    owed = all_changed accounts i a a' l at (λ x. IsOwing x.stage) c.owed own;
  }
