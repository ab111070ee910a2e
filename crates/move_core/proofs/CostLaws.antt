-- The clause on the sum of the gains, after a Widen or a Narrow, and after all other events.
use Rattle.std.proofs.Common.{◌≡◌, ℕ, ◌<◌, inl, inr, false, List, length, get_or, set, nat_eq, if◌then◌else◌, pos, ◌+ℤ◌, ◌-ℤ◌, refl, sym, ap, ◌∙◌, arith}
use Rattle.std.proofs.lemmas.Int.{ints}
use Rattle.hg_defs.specs.Hypergraph.{net_count}
use Rattle.hg_defs.proofs.SumLaws.{sum_below-same, sum_below-change}
use Rattle.move_core.specs.declared.account.Account.{Account}
use Rattle.move_core.specs.State.{Setup, Readings, blank}
use Rattle.move_core.specs.Events.{price_at}
use Rattle.move_core.specs.Balance.{Sum}
use Rattle.move_core.proofs.TimesLaws.{total_z_changed, pick}

module _ (s : Setup) (r r' : Readings) (accounts : List Account) (i : ℕ) (a a' : Account) (l : i < length accounts)
    (at : get_or accounts i (blank false) ≡ a)
    (c : Sum s r accounts) where
  pub sum_kept : a'.gain ≡ a.gain → ((e : ℕ) → e < net_count s.graph → r'.spread e ≡ r.spread e) → Sum s r' (set accounts i a')
  sum_kept e same = record {
    gains =
        let t = total_z_changed accounts i a a' l at (λ x. x.gain) in
        let w = c.gains in
        let p = sum_below-same (λ f. price_at s.graph f (r'.spread f)) (λ f. price_at s.graph f (r.spread f)) (net_count s.graph)
        (λ f lf. ap (price_at s.graph f) (same f lf)) in
        omega (arith, ints);
  }

  -- Widen and Narrow: the pass books what the net's price falls
  pub sum_booked : (e0 x : ℕ) → e0 < net_count s.graph → a'.gain ≡ a.gain +ℤ (pos (price_at s.graph e0 (r.spread e0)) -ℤ pos (price_at s.graph e0 x))
      → ((e : ℕ) → e < net_count s.graph → r'.spread e ≡ (if nat_eq e0 e then x else r.spread e)) → Sum s r' (set accounts i a')
  sum_booked e0 x l0 e word = record {
    gains =
        let t = total_z_changed accounts i a a' l at (λ y. y.gain) in
        let w = c.gains in
        let p = sum_below-change (λ f. price_at s.graph f (r'.spread f)) (λ f. price_at s.graph f (r.spread f)) (net_count s.graph) e0 l0
        (λ f lf q. ap (price_at s.graph f) (elim (pick e0 f x (r.spread f)) [ inl y ↦ absurd (q (sym y.0)) | inr y ↦ word f lf ∙ y.1 ])) in
        let h : price_at s.graph e0 (r'.spread e0) ≡ price_at s.graph e0 x =
        ap (price_at s.graph e0) (elim (pick e0 e0 x (r.spread e0)) [ inl y ↦ word e0 l0 ∙ y.1 | inr y ↦ absurd (y.0 refl) ]) in
        omega (arith, ints);
  }
