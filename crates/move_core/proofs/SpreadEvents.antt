-- The books stay in balance over Widen and Narrow.
use Rattle.std.proofs.Common.{◌≡◌, ℕ, zero, suc, ◌+◌, ◌-◌, ◌*◌, ◌<◌, ◌≤◌, inl, inr, Bool, false, List, length, get_or}
use Rattle.std.proofs.Common.{slice_index, take, set, ℤ, ◌+ℤ◌, refl, ap, ◌∙◌, arith, nat_lt, sym}
use Rattle.std.proofs.lemmas.Int.{ints}
use Rattle.std.proofs.lemmas.Bool.{cases_lt}
use Rattle.hg_defs.specs.declared.moves.Move.{Move}
use Rattle.hg_defs.specs.Hypergraph.{Hyper, net_of}
use Rattle.hg_defs.proofs.SumLaws.{weight_if-same}
use Rattle.move_core.specs.declared.account.Account.{Account}
use Rattle.move_core.specs.declared.account.Owed.{Owed}
use Rattle.move_core.specs.declared.account.Owed.TheVariants.{Nothing, Up, Down}
use Rattle.move_core.specs.declared.account.Stage.{Stage}
use Rattle.move_core.specs.declared.account.Stage.TheVariants.{Idle, Moving}
use Rattle.move_core.specs.declared.events.Word.TheVariants as word
use Rattle.hg_defs.specs.Incidence.{nets_of}
use Rattle.move_core.specs.State.{Setup, Readings, times, blank}
use Rattle.move_core.specs.Balance.{Sum, Spreads, InBalance, IsSetup, IsStageMove, IsInStep, IsOwing, IsBetween, IsBookedWithin, carried, weights_of}
use Rattle.move_core.proofs.Words.{WordsAfter}
use Rattle.move_core.proofs.TimesLaws.{all_at}
use Rattle.move_core.proofs.LoadLaws.{loads_kept}
use Rattle.move_core.proofs.NameLaws.{names_kept}
use Rattle.move_core.proofs.CountLaws.{counts_kept}
use Rattle.move_core.proofs.NumberLaws.{numbers_kept}
use Rattle.move_core.proofs.CostLaws.{sum_booked}
use Rattle.move_core.proofs.PrefixLaws.{prefixes_kept, total-numbered_push}
use Rattle.move_core.proofs.SpreadLaws.{spreads_widened, spreads_narrowed, spread_positive}
use Rattle.move_core.proofs.StageEvents.{staged, stage_to}
use Rattle.move_core.proofs.NetLaws.{net_at-below}
use Rattle.hg_defs.proofs.SumLaws.{total-take_more}
use Rattle.std.proofs.Math.Nat.{mul-le-mul_left}
use Rattle.hg_defs.specs.declared.objective.Objective.{Objective}
use Rattle.hg_defs.specs.declared.objective.Objective.TheVariants.{Connectivity, CutNet, ExternalDegree}
use Rattle.hg_defs.specs.Cost.{price}
use Rattle.move_core.specs.Events.{price_at, widen_gain, narrow_gain}

-- a block more raises the price of a net by at most 2
price-more : (o : Objective) (x : ℕ) → (price o x ≤ price o (suc x)) × (price o (suc x) ≤ price o x + 2)
price-more o zero = (omega arith, omega arith)
price-more Connectivity (suc zero) = (omega arith, omega arith)
price-more CutNet (suc zero) = (omega arith, omega arith)
price-more ExternalDegree (suc zero) = (omega arith, omega arith)
price-more Connectivity (suc (suc x)) = (omega arith, omega arith)
price-more CutNet (suc (suc x)) = (omega arith, omega arith)
price-more ExternalDegree (suc (suc x)) = (omega arith, omega arith)

-- and the price at a spread word by at most twice the weight
price_at-more : (h : Hyper) (e x : ℕ) → (price_at h e x ≤ price_at h e (x + 1)) × (price_at h e (x + 1) ≤ price_at h e x + 2 * (net_of h e).weight)
price_at-more h e x =
    elim (cases_lt x 64) [
      | inl l ↦
          let p0 : x - 64 ≡ 0 = omega arith in
          let q0 : x + 1 - 64 ≡ 0 = omega arith in
          let p = ap (price h.objective) p0 in
          let q = ap (price h.objective) q0 in
          let w : ℕ = (net_of h e).weight in
          let m = ap (λ z. w * z) p in
          let n = ap (λ z. w * z) q in
          (omega arith, omega arith)
      | inr g ↦
          let w : ℕ = (net_of h e).weight in
          let q0 : x + 1 - 64 ≡ suc (x - 64) = omega arith in
          let q = ap (price h.objective) q0 in
          let n = ap (λ z. w * z) q in
          let k = price-more h.objective (x - 64) in
          let a = mul-le-mul_left w k.0 in
          let c = mul-le-mul_left w k.1 in
          (omega arith, omega arith)
    ]

module _ (s : Setup) (ok : IsSetup s) (r r' : Readings) (accounts : List Account) (i : ℕ) (l : i < length accounts) (b : InBalance s r accounts)
    (held : List ℕ) (moves : List Move) (numbers : List ℕ) (seeds : ℕ) (gain : ℤ) where
  abbrev acc : ℤ → Stage → Account
  acc g = staged held moves numbers seeds g

  module _ (v from to number raised lowered : ℕ) (named : Bool) (owed : Owed) (booked : ℤ)
      (at : get_or accounts i (blank false) ≡ acc gain (Moving v from to number named raised lowered owed booked)) where
    abbrev net : ℕ → ℕ
    net j = slice_index (nets_of s.graph v) j

    step : IsInStep s.graph (Moving v from to number named raised lowered owed booked)
    step = all_at accounts i (acc gain (Moving v from to number named raised lowered owed booked)) (acc gain Idle) l at (λ x. IsInStep s.graph x.stage)
        b.counts.steps

    -- what a step on a spread word leaves alone
    on_spreads : (g : ℤ) (e0 x : ℕ) → WordsAfter s r r' (word.Spread e0) x
        → Sum s r' (set accounts i (acc (gain +ℤ g) (Moving v from to number named raised lowered Nothing (booked +ℤ g))))
        → Spreads s r' (set accounts i (acc (gain +ℤ g) (Moving v from to number named raised lowered Nothing (booked +ℤ g))))
        → IsBetween (weights_of s.graph (take raised (nets_of s.graph v))) (weights_of s.graph (take lowered (nets_of s.graph v))) (booked +ℤ g)
        → InBalance s r' (set accounts i (acc (gain +ℤ g) (Moving v from to number named raised lowered Nothing (booked +ℤ g))))
    on_spreads g e0 x w sum spreads within =
        let a = acc gain (Moving v from to number named raised lowered owed booked) in
        let a' = acc (gain +ℤ g) (Moving v from to number named raised lowered Nothing (booked +ℤ g)) in
        let m : Move = record { vertex = v; from = from; to = to; worker = 0; booked = booked } in
        let size = all_at accounts i a a' l at (λ y. length y.numbers ≡ length y.moves) b.numbers.lengths in
        stage_to s ok r r' accounts i l b held moves numbers seeds gain (Moving v from to number named raised lowered owed booked)
        (Moving v from to number named raised lowered Nothing (booked +ℤ g)) (gain +ℤ g) at
        w.claim w.cursor (omega (arith, ints))
        (all_at accounts i a a' l at (λ y. (u : ℕ) → times u (carried y) ≤ times u y.held) b.moves.held)
        (all_at accounts i a a' l at (λ y. IsStageMove s y.stage) b.moves.stages) within
        (loads_kept s r r' accounts i a a' l at b.loads refl (λ k q. refl) (λ k q. refl) w.load)
        (names_kept s r r' accounts b.claims b.moves b.names i a a' l at w.name (λ u. refl) (λ d n. (d, n)))
        (counts_kept s r r' accounts i a a' l at b.counts (λ u e c k o. refl) (λ u e k o. refl) w.count step)
        (numbers_kept r r' accounts i a a' l at b.numbers (λ j. refl) w.next size)
        sum spreads
        (prefixes_kept s accounts i a a' l at b.prefixes
        (λ f j.
        total-numbered_push (λ (z : Move). f z.vertex z.from z.to) (λ n. nat_lt n j) numbers moves number (record m { booked = booked +ℤ g }) size
        ∙ sym (total-numbered_push (λ (z : Move). f z.vertex z.from z.to) (λ n. nat_lt n j) numbers moves number m size)))

  module _ (v from to number raised lowered : ℕ) (named : Bool) (booked : ℤ) where
    -- Widen
    pub widen_kept : (at : get_or accounts i (blank false) ≡ acc gain (Moving v from to number named raised lowered Up booked)) → (g : ℤ)
        → g ≡ widen_gain s.graph (slice_index (nets_of s.graph v) (raised - 1)) (r.spread (slice_index (nets_of s.graph v) (raised - 1)))
        → WordsAfter s r r' (word.Spread (slice_index (nets_of s.graph v) (raised - 1))) (r.spread (slice_index (nets_of s.graph v) (raised - 1)) + 1)
        → InBalance s r' (set accounts i (acc (gain +ℤ g) (Moving v from to number named raised lowered Nothing (booked +ℤ g))))
    widen_kept at g is w =
        let a = acc gain (Moving v from to number named raised lowered Up booked) in
        let a' = acc (gain +ℤ g) (Moving v from to number named raised lowered Nothing (booked +ℤ g)) in
        let e0 : ℕ = slice_index (nets_of s.graph v) (raised - 1) in
        let odd = all_at accounts i a a' l at (λ x. IsOwing x.stage) b.spreads.owed in
        let st = step v from to number raised lowered named Up booked at in
        let most = st.2 in
        let place : raised - 1 < length (nets_of s.graph v) = omega arith in
        let within = all_at accounts i a a' l at (λ x. IsBookedWithin s.graph x.stage) b.bounds.stages in
        on_spreads v from to number raised lowered named Up booked at g e0 (r.spread e0 + 1) w
        (sum_booked s r r' accounts i a a' l at b.sum e0 (r.spread e0 + 1) (net_at-below s.graph v (raised - 1) place) (ap (λ z. gain +ℤ z) is) w.spread)
        (spreads_widened s r r' accounts i a a' l at b.spreads e0 (λ e. omega arith) (λ e. refl) w.spread w.count tt)
        (let p = price_at-more s.graph e0 (r.spread e0) in
        let p0 = p.0 in
        let p1 = p.1 in
        let low = within.low in
        let high = within.high in
        let back : raised - 1 + 1 ≡ raised = omega arith in
        let x = total-take_more (λ e. (net_of s.graph e).weight) (nets_of s.graph v) (raised - 1) 0 place in
        let y = ap (λ j. weights_of s.graph (take j (nets_of s.graph v))) back in
        record { low = omega (arith, ints); high = omega (arith, ints) })

    -- Narrow
    pub narrow_kept : (at : get_or accounts i (blank false) ≡ acc gain (Moving v from to number named raised lowered Down booked)) → (g : ℤ)
        → g ≡ narrow_gain s.graph (slice_index (nets_of s.graph v) (lowered - 1)) (r.spread (slice_index (nets_of s.graph v) (lowered - 1)))
        → WordsAfter s r r' (word.Spread (slice_index (nets_of s.graph v) (lowered - 1))) (r.spread (slice_index (nets_of s.graph v) (lowered - 1)) - 1)
        → InBalance s r' (set accounts i (acc (gain +ℤ g) (Moving v from to number named raised lowered Nothing (booked +ℤ g))))
    narrow_kept at g is w =
        let a = acc gain (Moving v from to number named raised lowered Down booked) in
        let a' = acc (gain +ℤ g) (Moving v from to number named raised lowered Nothing (booked +ℤ g)) in
        let e0 : ℕ = slice_index (nets_of s.graph v) (lowered - 1) in
        let even = all_at accounts i a a' l at (λ x. IsOwing x.stage) b.spreads.owed in
        let even0 = even.0 in
        let even1 = even.1 in
        let st = step v from to number raised lowered named Down booked at in
        let most = st.2 in
        let place : lowered - 1 < length (nets_of s.graph v) = omega arith in
        let within = all_at accounts i a a' l at (λ x. IsBookedWithin s.graph x.stage) b.bounds.stages in
        let some = spread_positive s r r' accounts i a a' l at b.spreads e0 (net_at-below s.graph v (lowered - 1) place) b.rest.made
        (let o = weight_if-same e0 e0 1 refl in omega arith) in
        on_spreads v from to number raised lowered named Down booked at g e0 (r.spread e0 - 1) w
        (sum_booked s r r' accounts i a a' l at b.sum e0 (r.spread e0 - 1) (net_at-below s.graph v (lowered - 1) place) (ap (λ z. gain +ℤ z) is) w.spread)
        (spreads_narrowed s r r' accounts i a a' l at b.spreads e0 (net_at-below s.graph v (lowered - 1) place) b.rest.made (λ e. refl) (λ e. omega arith)
        w.spread w.count tt)
        (let p = price_at-more s.graph e0 (r.spread e0 - 1) in
        let more : r.spread e0 - 1 + 1 ≡ r.spread e0 = omega arith in
        let again = ap (price_at s.graph e0) more in
        let p0 = p.0 in
        let p1 = p.1 in
        let low = within.low in
        let high = within.high in
        let back : lowered - 1 + 1 ≡ lowered = omega arith in
        let x = total-take_more (λ e. (net_of s.graph e).weight) (nets_of s.graph v) (lowered - 1) 0 place in
        let y = ap (λ j. weights_of s.graph (take j (nets_of s.graph v))) back in
        record { low = omega (arith, ints); high = omega (arith, ints) })
