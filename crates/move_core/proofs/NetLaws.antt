-- The nets of a vertex: each of its nets once, in rising number.
use Rattle.std.proofs.Common.{◌≡◌, ℕ, ◌+◌, ◌<◌, ◌≤◌, inl, inr, Bool, true, false, if◌then◌else◌, nat_lt, [], filter}
use Rattle.std.proofs.Common.{length, slice_index, take, refl, sym, ap, ◌∙◌, subst, arith}
use Rattle.std.specs.List.{range_with_len}
use Rattle.std.proofs.lemmas.List.Elements.{filter_agree}
use Rattle.std.proofs.lemmas.Bool.{ltb-true, lt-ltb, cases_lt}
use Rattle.hg_defs.specs.Hypergraph.{Hyper, IsHypergraph, vertex_count, net_count, net_of}
use Rattle.hg_defs.proofs.SumLaws.{total-filter, total-range, sum_below-only, sum_below-zero, weight_if}
use Rattle.hg_defs.proofs.SumLaws.{weight_if-same, weight_if-other, total-take_more, total_more-le}
use Rattle.hg_defs.proofs.DistinctLaws.{member_times, times_of-once, Contains-from_times}
use Rattle.hg_defs.specs.Incidence.{is_on, nets_of}
use Rattle.move_core.specs.State.{times}
use Rattle.move_core.proofs.TimesLaws.{All_at_times}

-- the nets of a vertex, told by how often it stands among the pins
pub on_by_times : (h : Hyper) (v : ℕ) → nets_of h v ≡ filter (λ e. nat_lt 0 (times v (net_of h e).pins)) (range_with_len 0 (net_count h))
on_by_times h v = filter_agree (is_on h v) (λ e. nat_lt 0 (times v (net_of h e).pins)) (λ e. member_times (net_of h e).pins v)
    (range_with_len 0 (net_count h))

-- 1 where a net has the vertex as a pin
abbrev pub has_pin : Hyper → ℕ → ℕ → ℕ
has_pin h v e = if nat_lt 0 (times v (net_of h e).pins) then 1 else 0

module _ (h : Hyper) (v : ℕ) where
  -- a net's place in the sum over all nets
  counted : ℕ → ℕ → ℕ
  counted e x = if nat_lt 0 (times v (net_of h x).pins) then weight_if x e 1 else 0

  pub times-nets_of : (e : ℕ) → e < net_count h → times e (nets_of h v) ≡ has_pin h v e
  unfolding counted
  times-nets_of e l =
      ap (times e) (on_by_times h v)
      ∙ total-filter (λ x. weight_if x e 1) (λ x. nat_lt 0 (times v (net_of h x).pins)) (range_with_len 0 (net_count h))
      ∙ total-range (counted e) (net_count h)
      ∙ sum_below-only (counted e) (net_count h) e l (λ j m q. by j (nat_lt 0 (times v (net_of h j).pins)) (weight_if-other j e 1 q))
      ∙ ap (λ n. if nat_lt 0 (times v (net_of h e).pins) then n else 0) (weight_if-same e e 1 refl)
    where
      by : (j : ℕ) (b : Bool) → weight_if j e 1 ≡ 0 → (if b then weight_if j e 1 else 0) ≡ 0
      by j true z = z
      by j false z = refl

  pub times-nets_of_past : (e : ℕ) → net_count h ≤ e → times e (nets_of h v) ≡ 0
  unfolding counted
  times-nets_of_past e l =
      ap (times e) (on_by_times h v)
      ∙ total-filter (λ x. weight_if x e 1) (λ x. nat_lt 0 (times v (net_of h x).pins)) (range_with_len 0 (net_count h))
      ∙ total-range (counted e) (net_count h)
      ∙ sum_below-zero (counted e) (net_count h) (λ j m. by j (nat_lt 0 (times v (net_of h j).pins)) (weight_if-other j e 1 (λ q. absurd (omega arith))))
    where
      by : (j : ℕ) (b : Bool) → weight_if j e 1 ≡ 0 → (if b then weight_if j e 1 else 0) ≡ 0
      by j true z = z
      by j false z = refl

  has_pin-le : (e : ℕ) → has_pin h v e ≤ 1
  has_pin-le e = by (nat_lt 0 (times v (net_of h e).pins))
    where
      by : (b : Bool) → (if b then 1 else 0) ≤ 1
      by true = omega arith
      by false = omega arith

  pub times-nets_of-le : (e : ℕ) → times e (nets_of h v) ≤ 1
  times-nets_of-le e = elim (cases_lt e (net_count h)) [
    | inl l ↦ subst (λ n. n ≤ 1) (sym (times-nets_of e l)) (has_pin-le e)
    | inr l ↦ subst (λ n. n ≤ 1)
        (sym (times-nets_of_past e l)) (omega arith)
  ]

  -- a net with the vertex stands among its nets
  pub times-nets_of_pin : (e : ℕ) → e < net_count h → 0 < times v (net_of h e).pins → times e (nets_of h v) ≡ 1
  times-nets_of_pin e l k = times-nets_of e l ∙ ap (λ b. if b then 1 else 0) (lt-ltb 0 (times v (net_of h e).pins) k)

  -- the net at a place
  pub times_net_at : (j : ℕ) → j < length (nets_of h v) → 0 < times (slice_index (nets_of h v) j) (nets_of h v)
  times_net_at j l =
      let e = slice_index (nets_of h v) j in
      let m = total_more-le (λ x. weight_if x e 1) (nets_of h v) j 0 l in
      let s = weight_if-same e e 1 refl in
      omega arith

  pub net_at-below : (j : ℕ) → j < length (nets_of h v) → slice_index (nets_of h v) j < net_count h
  net_at-below j l =
      let e = slice_index (nets_of h v) j in
      let k = times_net_at j l in
      elim (cases_lt e (net_count h)) [ inl m ↦ m | inr m ↦ let z = times-nets_of_past e m in absurd (omega arith) ]

  pub net_at_pin : (j : ℕ) → j < length (nets_of h v) → 0 < times v (net_of h (slice_index (nets_of h v) j)).pins
  net_at_pin j l =
      let e = slice_index (nets_of h v) j in
      let k = times_net_at j l in
      let z = times-nets_of e (net_at-below j l) in
      by (nat_lt 0 (times v (net_of h e).pins)) refl (subst (λ n. 0 < n) z k)
    where
      by : (b : Bool) → nat_lt 0 (times v (net_of h (slice_index (nets_of h v) j)).pins) ≡ b → 0 < (if b then 1 else 0)
          → 0 < times v (net_of h (slice_index (nets_of h v) j)).pins
      by true e k = ltb-true 0 (times v (net_of h (slice_index (nets_of h v) j)).pins) e
      by false e k = absurd (omega arith)

  -- it doesn't stand before its place
  pub times_net_at_before : (j : ℕ) → j < length (nets_of h v) → times (slice_index (nets_of h v) j) (take j (nets_of h v)) ≡ 0
  times_net_at_before j l =
      let e = slice_index (nets_of h v) j in
      let m = total_more-le (λ x. weight_if x e 1) (nets_of h v) j 0 l in
      let s = weight_if-same e e 1 refl in
      let o = times-nets_of-le e in
      omega arith

  -- one place more
  pub times-take_more : (e j : ℕ) → j < length (nets_of h v) → times e (take (j + 1) (nets_of h v)) ≡ times e (take j (nets_of h v))
      + weight_if (slice_index (nets_of h v) j) e 1
  times-take_more e j l = total-take_more (λ x. weight_if x e 1) (nets_of h v) j 0 l

-- a pin stands once in its net
pub times_pin : (h : Hyper) → IsHypergraph h → (v e : ℕ) → e < net_count h → 0 < times v (net_of h e).pins → times v (net_of h e).pins ≡ 1
times_pin h ok v e l k =
    let net = ok.nets e (record { weight = 0; pins = [] }) l in
    times_of-once (net_of h e).pins v net.rising (Contains-from_times (net_of h e).pins v k)

-- a pin is a vertex
pub pin-below : (h : Hyper) → IsHypergraph h → (v e : ℕ) → e < net_count h → 0 < times v (net_of h e).pins → v < vertex_count h
pin-below h ok v e l k =
    let net = ok.nets e (record { weight = 0; pins = [] }) l in
    All_at_times (λ u. u < vertex_count h) (net_of h e).pins v net.pins k
