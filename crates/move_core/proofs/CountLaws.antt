-- The clause on counts, after a Raise, after a Lower, and after all other events; no Lower finds 0, and no count
-- passes the number of pins.
use Rattle.std.proofs.Common.{◌≡◌, ℕ, ◌+◌, ◌-◌, ◌*◌, ◌<◌, ◌≤◌, ◌≢◌, inl, inr, Bool, true, false, ◌&&◌, List, [], ◌∷◌, map, length}
use Rattle.std.proofs.Common.{get_or, take, set, nat_eq, if◌then◌else◌, All, refl, sym, ap, ◌∙◌, subst, arith}
use Rattle.std.proofs.lemmas.List.Elements.{All-head, All-tail}
use Rattle.std.proofs.lemmas.Bool.{cases_eq}
use Rattle.hg_defs.specs.declared.moves.Move.{Move}
use Rattle.hg_defs.specs.Sums.{total}
use Rattle.hg_defs.specs.Hypergraph.{Hyper, IsHypergraph, vertex_count, net_count, net_of}
use Rattle.hg_defs.specs.Partition.{block_of}
use Rattle.hg_defs.proofs.SumLaws.{weight_if, weight_if-same, weight_if-other, total-same, total-same_each, total-add}
use Rattle.hg_defs.proofs.SumLaws.{total-append, total-le, total-zero, total-take-le, total-ones}
use Rattle.move_core.specs.declared.account.Account.{Account}
use Rattle.move_core.specs.declared.account.Stage.{Stage}
use Rattle.move_core.specs.declared.account.Stage.TheVariants.{Idle, Refused, Granted, Moving}
use Rattle.hg_defs.specs.Incidence.{nets_of}
use Rattle.move_core.specs.State.{Setup, Readings, times, blank}
use Rattle.move_core.specs.Events.{moved_vertices}
use Rattle.move_core.specs.Balance.{Claims, Moves, Counts, IsMoveFromOpening, IsStageMove, IsInStep, carried}
use Rattle.move_core.specs.Balance.{stage_vertices, raises, lowers, stage_raises, stage_lowers}
use Rattle.move_core.proofs.TimesLaws.{total_changed, total_unchanged, all_changed, pick_two, times_at, total-weight_if, total_strict}
use Rattle.move_core.proofs.NetLaws.{times_pin, pin-below, times-nets_of-le}
use Rattle.move_core.proofs.HeldLaws.{carried_once}

module _ (s : Setup) (r r' : Readings) (accounts : List Account) (i : ℕ) (a a' : Account) (l : i < length accounts)
    (at : get_or accounts i (blank false) ≡ a)
    (c : Counts s r accounts) where
  -- the counts stay, and what was raised and lowered too
  pub counts_kept : ((u e b : ℕ) → e < net_count s.graph → 0 < times u (net_of s.graph e).pins → raises s.graph u e b a' ≡ raises s.graph u e b a)
      → ((u e : ℕ) → e < net_count s.graph → 0 < times u (net_of s.graph e).pins → lowers s.graph u e a' ≡ lowers s.graph u e a)
      → ((e b : ℕ) → e < net_count s.graph → b < s.blocks → r'.count e b ≡ r.count e b) → IsInStep s.graph a'.stage → Counts s r' (set accounts i a')
  counts_kept up low same step = record {
    word = λ e b le lb.
        let pins = (net_of s.graph e).pins in
        let f = total-same (λ u. if nat_eq (block_of s.opening u) b then total (lowers s.graph u e) (set accounts i a') else 0)
        (λ u. if nat_eq (block_of s.opening u) b then total (lowers s.graph u e) accounts else 0) pins
        (λ k d q. ap (λ x. if nat_eq (block_of s.opening (get_or pins k d)) b then x else 0)
        (total_unchanged accounts i a a' l at (lowers s.graph (get_or pins k d) e) (low (get_or pins k d) e le (times_at pins k d q)))) in
        let g = total-same (λ u. (if nat_eq (block_of s.opening u) b then 1 else 0) + total (raises s.graph u e b) (set accounts i a'))
        (λ u. (if nat_eq (block_of s.opening u) b then 1 else 0) + total (raises s.graph u e b) accounts) pins
        (λ k d q. ap (λ x. (if nat_eq (block_of s.opening (get_or pins k d)) b then 1 else 0) + x)
        (total_unchanged accounts i a a' l at (raises s.graph (get_or pins k d) e b) (up (get_or pins k d) e b le (times_at pins k d q)))) in
        let w = c.word e b le lb in
        let z = same e b le lb in
        omega arith;
    steps = all_changed accounts i a a' l at (λ x. IsInStep s.graph x.stage) c.steps step;
  }

  -- Raise
  pub counts_raised : IsHypergraph s.graph → (v e0 to : ℕ) → e0 < net_count s.graph → 0 < times v (net_of s.graph e0).pins
      → ((u e b : ℕ) → raises s.graph u e b a' ≡ raises s.graph u e b a + weight_if v u (weight_if e0 e (weight_if to b 1)))
      → ((u e : ℕ) → lowers s.graph u e a' ≡ lowers s.graph u e a) → ((e b : ℕ) → e < net_count s.graph → b < s.blocks
      → r'.count e b ≡ (if nat_eq e0 e && nat_eq to b then r.count e0 to + 1 else r.count e b)) → IsInStep s.graph a'.stage →
      Counts s r' (set accounts i a')
  counts_raised ok v e0 to l0 pin up low word step = record {
    word = λ e b le lb.
        let pins = (net_of s.graph e).pins in
        let d : ℕ = weight_if e0 e (weight_if to b 1) in
        let f = total-same_each (λ u. if nat_eq (block_of s.opening u) b then total (lowers s.graph u e) (set accounts i a') else 0)
        (λ u. if nat_eq (block_of s.opening u) b then total (lowers s.graph u e) accounts else 0)
        (λ u. ap (λ x. if nat_eq (block_of s.opening u) b then x else 0) (total_unchanged accounts i a a' l at (lowers s.graph u e) (low u e))) pins in
        let g = total-same_each (λ u. (if nat_eq (block_of s.opening u) b then 1 else 0) + total (raises s.graph u e b) (set accounts i a'))
        (λ u. ((if nat_eq (block_of s.opening u) b then 1 else 0) + total (raises s.graph u e b) accounts) + weight_if v u d)
        (λ u. let t = total_changed accounts i a a' l at (raises s.graph u e b) in let q = up u e b in omega arith) pins in
        let h = total-add (λ u. (if nat_eq (block_of s.opening u) b then 1 else 0) + total (raises s.graph u e b) accounts) (λ u. weight_if v u d) pins in
        let j = total-weight_if v d pins in
        let w = c.word e b le lb in
        let z = word e b le lb in
        elim (pick_two e0 e to b (r.count e0 to + 1) (r.count e b)) [
          | inl x ↦
              let one = times_pin s.graph ok v e0 l0 pin in
              let one' : times v pins ≡ 1 = subst (λ y. times v (net_of s.graph y).pins ≡ 1) x.0 one in
              let dd : d ≡ 1 = weight_if-same e0 e (weight_if to b 1) x.0 ∙ weight_if-same to b 1 x.1 in
              let m : times v pins * d ≡ 1 = ap (λ y. y * d) one' ∙ once d ∙ dd in
              let rr : r.count e0 to ≡ r.count e b = ap (λ y. r.count y to) x.0 ∙ ap (r.count e) x.1 in
              let x2 = x.2 in
              omega arith
          | inr x ↦
              let dd : d ≡ 0 = nothing e0 e to b x.0 in
              let m : times v pins * d ≡ 0 = ap (λ y. times v pins * y) dd ∙ none (times v pins) in
              let x1 = x.1 in
              omega arith
        ];
    steps = all_changed accounts i a a' l at (λ x. IsInStep s.graph x.stage) c.steps step;
  }
    where
      once : (y : ℕ) → 1 * y ≡ y
      once y = omega arith

      none : (y : ℕ) → y * 0 ≡ 0
      none y = omega arith

      nothing : (p q o t : ℕ) → ((p ≡ q) × (o ≡ t) → ⊥) → weight_if p q (weight_if o t 1) ≡ 0
      nothing p q o t h =
          elim (cases_eq p q) [
            | inl e ↦ weight_if-same p q (weight_if o t 1) e ∙ weight_if-other o t 1 (λ f. h (e, f))
            | inr n ↦ weight_if-other p q (weight_if o t 1) n
          ]

  -- Lower
  pub counts_lowered : IsHypergraph s.graph → (v e0 from : ℕ) → e0 < net_count s.graph → 0 < times v (net_of s.graph e0).pins → block_of s.opening v ≡ from
      → 1 ≤ r.count e0 from → ((u e b : ℕ) → raises s.graph u e b a' ≡ raises s.graph u e b a)
      → ((u e : ℕ) → lowers s.graph u e a' ≡ lowers s.graph u e a + weight_if v u (weight_if e0 e 1))
      → ((e b : ℕ) → e < net_count s.graph → b < s.blocks → r'.count e b ≡ (if nat_eq e0 e && nat_eq from b then r.count e0 from - 1 else r.count e b))
      → IsInStep s.graph a'.stage → Counts s r' (set accounts i a')
  counts_lowered ok v e0 from l0 pin origin some up low word step = record {
    word = λ e b le lb.
        let pins = (net_of s.graph e).pins in
        let d : ℕ = weight_if e0 e 1 in
        let g = total-same_each (λ u. (if nat_eq (block_of s.opening u) b then 1 else 0) + total (raises s.graph u e b) (set accounts i a'))
        (λ u. (if nat_eq (block_of s.opening u) b then 1 else 0) + total (raises s.graph u e b) accounts)
        (λ u. ap (λ x. (if nat_eq (block_of s.opening u) b then 1 else 0) + x) (total_unchanged accounts i a a' l at (raises s.graph u e b) (up u e b)))
        pins in
        let f = total-same_each (λ u. if nat_eq (block_of s.opening u) b then total (lowers s.graph u e) (set accounts i a') else 0)
        (λ u. (if nat_eq (block_of s.opening u) b then total (lowers s.graph u e) accounts else 0) + weight_if v u (weight_if from b d))
        (λ u. at_pin u b d (total (lowers s.graph u e) (set accounts i a')) (total (lowers s.graph u e) accounts)
        (let t = total_changed accounts i a a' l at (lowers s.graph u e) in let q = low u e in omega arith)) pins in
        let h = total-add (λ u. if nat_eq (block_of s.opening u) b then total (lowers s.graph u e) accounts else 0)
        (λ u. weight_if v u (weight_if from b d))
        pins in
        let j = total-weight_if v (weight_if from b d) pins in
        let w = c.word e b le lb in
        let z = word e b le lb in
        elim (pick_two e0 e from b (r.count e0 from - 1) (r.count e b)) [
          | inl x ↦
              let one = times_pin s.graph ok v e0 l0 pin in
              let one' : times v pins ≡ 1 = subst (λ y. times v (net_of s.graph y).pins ≡ 1) x.0 one in
              let dd : weight_if from b d ≡ 1 = weight_if-same from b d x.1 ∙ weight_if-same e0 e 1 x.0 in
              let m : times v pins * weight_if from b d ≡ 1 = ap (λ y. y * weight_if from b d) one' ∙ once (weight_if from b d) ∙ dd in
              let rr : r.count e0 from ≡ r.count e b = ap (λ y. r.count y from) x.0 ∙ ap (r.count e) x.1 in
              let x2 = x.2 in
              omega arith
          | inr x ↦
              let dd : weight_if from b d ≡ 0 = nothing e0 e from b x.0 in
              let m : times v pins * weight_if from b d ≡ 0 = ap (λ y. times v pins * y) dd ∙ none (times v pins) in
              let x1 = x.1 in
              omega arith
        ];
    steps = all_changed accounts i a a' l at (λ x. IsInStep s.graph x.stage) c.steps step;
  }
    where
      once : (y : ℕ) → 1 * y ≡ y
      once y = omega arith

      none : (y : ℕ) → y * 0 ≡ 0
      none y = omega arith

      nothing : (p q o t : ℕ) → ((p ≡ q) × (o ≡ t) → ⊥) → weight_if o t (weight_if p q 1) ≡ 0
      nothing p q o t h =
          elim (cases_eq o t) [
            | inl e ↦ weight_if-same o t (weight_if p q 1) e ∙ weight_if-other p q 1 (λ f. h (f, e))
            | inr n ↦ weight_if-other o t (weight_if p q 1) n
          ]

      at_pin : (u b d x y : ℕ) → x ≡ y + weight_if v u d → (if nat_eq (block_of s.opening u) b then x else 0)
          ≡ (if nat_eq (block_of s.opening u) b then y else 0) + weight_if v u (weight_if from b d)
      at_pin u b d x y e =
          elim (cases_eq v u) [
            | inl q ↦
                let p : block_of s.opening u ≡ from = subst (λ z. block_of s.opening z ≡ from) q origin in
                let a1 = weight_if-same v u d q in
                let a2 = weight_if-same v u (weight_if from b d) q in
                elim (cases_eq from b) [
                  | inl n ↦
                      let b1 = weight_if-same from b d n in
                      let b2 = weight_if-same (block_of s.opening u) b x (p ∙ n) in
                      let b3 = weight_if-same (block_of s.opening u) b y (p ∙ n) in
                      omega arith
                  | inr n ↦
                      let b1 = weight_if-other from b d n in
                      let b2 = weight_if-other (block_of s.opening u) b x (λ z. n (sym p ∙ z)) in
                      let b3 = weight_if-other (block_of s.opening u) b y (λ z. n (sym p ∙ z)) in
                      omega arith
                ]
            | inr q ↦
                let a1 = weight_if-other v u d q in
                let a2 = weight_if-other v u (weight_if from b d) q in
                let same : x ≡ y = omega arith in
                let b1 = ap (λ z. if nat_eq (block_of s.opening u) b then z else 0) same in
                omega arith
          ]

-- what a pass raised and lowered for a vertex it carries
module _ (h : Hyper) (u e : ℕ) where
  stage_lowers-le : (stage : Stage) → stage_lowers h u e stage ≤ times u (stage_vertices stage)
  stage_lowers-le Idle = omega arith
  stage_lowers-le (Refused v to seen) = omega arith
  stage_lowers-le (Granted v from to seen) = omega arith
  stage_lowers-le (Moving v from to number named raised lowered owed booked) =
      let t = total-take-le (λ x. weight_if x e 1) (nets_of h v) lowered in
      let o = times-nets_of-le h v e in
      by (nat_eq v u) (omega arith)
    where
      by : (b : Bool) → times e (take lowered (nets_of h v)) ≤ 1 → (if b then times e (take lowered (nets_of h v)) else 0) ≤ (if b then 1 else 0) + 0
      by true q = omega arith
      by false q = omega arith

  pub lowers-le : (a : Account) → lowers h u e a ≤ times u (carried a)
  lowers-le a =
      let x = stage_lowers-le a.stage in
      let y = total-append (λ z. weight_if z u 1) (moved_vertices a) (stage_vertices a.stage) in
      omega arith

  done_raises-le : (b : ℕ) (ms : List Move) → total (λ m. if nat_eq m.vertex u then (if nat_eq m.to b then 1 else 0) else 0) ms
      ≤ times u (map (λ m. m.vertex) ms)
  done_raises-le b [] = omega arith
  done_raises-le b (m ∷ ms) =
      let x = done_raises-le b ms in
      let y = by (nat_eq m.vertex u) (nat_eq m.to b) in
      omega arith
    where
      by : (p q : Bool) → (if p then (if q then 1 else 0) else 0) ≤ (if p then 1 else 0)
      by true true = omega arith
      by true false = omega arith
      by false q = omega arith

  stage_raises-le : (b : ℕ) (stage : Stage) → stage_raises h u e b stage ≤ times u (stage_vertices stage)
  stage_raises-le b Idle = omega arith
  stage_raises-le b (Refused v to seen) = omega arith
  stage_raises-le b (Granted v from to seen) = omega arith
  stage_raises-le b (Moving v from to number named raised lowered owed booked) =
      let t = total-take-le (λ x. weight_if x e 1) (nets_of h v) raised in
      let o = times-nets_of-le h v e in
      by (nat_eq v u) (nat_eq to b) (omega arith)
    where
      by : (p q : Bool) → times e (take raised (nets_of h v)) ≤ 1 → (if p then (if q then times e (take raised (nets_of h v)) else 0) else 0)
          ≤ (if p then 1 else 0) + 0
      by true true z = omega arith
      by true false z = omega arith
      by false q z = omega arith

  pub raises-le : (b : ℕ) (a : Account) → raises h u e b a ≤ times u (carried a)
  raises-le b a =
      let w = done_raises-le b a.moves in
      let x = stage_raises-le b a.stage in
      let y = total-append (λ z. weight_if z u 1) (moved_vertices a) (stage_vertices a.stage) in
      omega arith

-- nothing is raised in the block at the opening
module _ (s : Setup) (u e : ℕ) where
  done_raises-none : (ms : List Move) → All (λ m. IsMoveFromOpening s m.vertex m.from m.to) ms
      → total (λ m. if nat_eq m.vertex u then (if nat_eq m.to (block_of s.opening u) then 1 else 0) else 0) ms ≡ 0
  done_raises-none [] h = refl
  done_raises-none (m ∷ ms) h =
      let x = done_raises-none ms (All-tail (λ z. IsMoveFromOpening s z.vertex z.from z.to) m ms h) in
      let o = (All-head (λ z. IsMoveFromOpening s z.vertex z.from z.to) m ms h).other in
      let y : weight_if m.vertex u (weight_if m.to (block_of s.opening u) 1) ≡ 0 = at m o in
      omega arith
    where
      at : (z : Move) → z.to ≢ block_of s.opening z.vertex → weight_if z.vertex u (weight_if z.to (block_of s.opening u) 1) ≡ 0
      at z o =
          elim (cases_eq z.vertex u) [
            | inl q ↦ weight_if-same z.vertex u (weight_if z.to (block_of s.opening u) 1) q
                ∙ weight_if-other z.to (block_of s.opening u) 1 (λ p. o (p ∙ ap (block_of s.opening) (sym q)))
            | inr q ↦ weight_if-other z.vertex u (weight_if z.to (block_of s.opening u) 1) q
          ]

  stage_raises-none : (stage : Stage) → IsStageMove s stage → stage_raises s.graph u e (block_of s.opening u) stage ≡ 0
  stage_raises-none Idle h = refl
  stage_raises-none (Refused v to seen) h = refl
  stage_raises-none (Granted v from to seen) h = refl
  stage_raises-none (Moving v from to number named raised lowered owed booked) h =
      let t : ℕ = times e (take raised (nets_of s.graph v)) in
      elim (cases_eq v u) [
        | inl q ↦ weight_if-same v u (weight_if to (block_of s.opening u) t) q
            ∙ weight_if-other to (block_of s.opening u) t (λ p. h.other (p ∙ ap (block_of s.opening) (sym q)))
        | inr q ↦ weight_if-other v u (weight_if to (block_of s.opening u) t) q
      ]

module _ (s : Setup) (r : Readings) (accounts : List Account) (ok : IsHypergraph s.graph) (c : Claims s.graph r accounts) (m : Moves s accounts)
    (w : Counts s r accounts) where
  lowers_once : (u e : ℕ) → u < vertex_count s.graph → total (lowers s.graph u e) accounts ≤ 1
  lowers_once u e l =
      let x = total-le (lowers s.graph u e) (λ a. times u (carried a)) accounts (λ k d q. lowers-le s.graph u e (get_or accounts k d)) in
      let y = carried_once s r accounts c m u l in
      omega arith

  raises_once : (u e b : ℕ) → u < vertex_count s.graph → total (raises s.graph u e b) accounts ≤ 1
  raises_once u e b l =
      let x = total-le (raises s.graph u e b) (λ a. times u (carried a)) accounts (λ k d q. raises-le s.graph u e b (get_or accounts k d)) in
      let y = carried_once s r accounts c m u l in
      omega arith

  raises_none : (u e : ℕ) → total (raises s.graph u e (block_of s.opening u)) accounts ≡ 0
  raises_none u e =
      total-zero (raises s.graph u e (block_of s.opening u)) accounts
      (λ k d q.
      let x = done_raises-none s u e (get_or accounts k d).moves (m.done k d q) in
      let y = stage_raises-none s u e (get_or accounts k d).stage (m.stages k d q) in
      omega arith)

  -- a pin that no pass has lowered yet keeps the count of its block positive: no Lower finds 0
  pub count_positive : (v e b : ℕ) → e < net_count s.graph → b < s.blocks → 0 < times v (net_of s.graph e).pins → block_of s.opening v ≡ b
      → total (lowers s.graph v e) accounts ≡ 0 → 1 ≤ r.count e b
  count_positive v e b le lb pin origin none =
      let f : ℕ → ℕ = λ u. if nat_eq (block_of s.opening u) b then total (lowers s.graph u e) accounts else 0 in
      let g : ℕ → ℕ = λ u. (if nat_eq (block_of s.opening u) b then 1 else 0) + total (raises s.graph u e b) accounts in
      let a1 = weight_if-same (block_of s.opening v) b (total (lowers s.graph v e) accounts) origin in
      let a2 = weight_if-same (block_of s.opening v) b 1 origin in
      let t = total_strict f g (net_of s.graph e).pins v
      (λ u p. let o = lowers_once u e (pin-below s.graph ok u e le p) in
      by (nat_eq (block_of s.opening u) b) (total (lowers s.graph u e) accounts) (total (raises s.graph u e b) accounts) o)
      pin (omega arith) in
      let z = w.word e b le lb in
      omega arith
    where
      by : (q : Bool) (x y : ℕ) → x ≤ 1 → (if q then x else 0) ≤ (if q then 1 else 0) + y
      by true x y h = omega arith
      by false x y h = omega arith

  -- all Raises stand in the count, whatever was lowered
  pub raises_within : (e b : ℕ) → e < net_count s.graph → b < s.blocks → total (λ u. total (raises s.graph u e b) accounts) (net_of s.graph e).pins
      ≤ r.count e b
  raises_within e b le lb =
      let pins = (net_of s.graph e).pins in
      let f : ℕ → ℕ = λ u. if nat_eq (block_of s.opening u) b then total (lowers s.graph u e) accounts else 0 in
      let g : ℕ → ℕ = λ u. (if nat_eq (block_of s.opening u) b then 1 else 0) + total (raises s.graph u e b) accounts in
      let t = total-le (λ u. f u + total (raises s.graph u e b) accounts) g pins
      (λ k d q.
      let u = get_or pins k d in
      let o = lowers_once u e (pin-below s.graph ok u e le (times_at pins k d q)) in
      by (nat_eq (block_of s.opening u) b) (total (lowers s.graph u e) accounts) (total (raises s.graph u e b) accounts) o) in
      let p = total-add f (λ u. total (raises s.graph u e b) accounts) pins in
      let z = w.word e b le lb in
      omega arith
    where
      by : (q : Bool) (x y : ℕ) → x ≤ 1 → (if q then x else 0) + y ≤ (if q then 1 else 0) + y
      by true x y h = omega arith
      by false x y h = omega arith

  -- no count passes the number of pins of its net
  pub count_within : (e b : ℕ) → e < net_count s.graph → b < s.blocks → r.count e b ≤ length (net_of s.graph e).pins
  count_within e b le lb =
      let pins = (net_of s.graph e).pins in
      let f : ℕ → ℕ = λ u. if nat_eq (block_of s.opening u) b then total (lowers s.graph u e) accounts else 0 in
      let g : ℕ → ℕ = λ u. (if nat_eq (block_of s.opening u) b then 1 else 0) + total (raises s.graph u e b) accounts in
      let t = total-le g (λ u. f u + 1) pins (λ k d q. at (get_or pins k d) (pin-below s.graph ok (get_or pins k d) e le (times_at pins k d q))) in
      let p = total-add f (λ u. 1) pins in
      let o = total-ones pins in
      let z = w.word e b le lb in
      omega arith
    where
      at : (u : ℕ) → u < vertex_count s.graph → (if nat_eq (block_of s.opening u) b then 1 else 0) + total (raises s.graph u e b) accounts
          ≤ (if nat_eq (block_of s.opening u) b then total (lowers s.graph u e) accounts else 0) + 1
      at u l =
          elim (cases_eq (block_of s.opening u) b) [
            | inl q ↦
                let x = subst (λ y. total (raises s.graph u e y) accounts ≡ 0) q (raises_none u e) in
                let a1 = weight_if-same (block_of s.opening u) b (total (lowers s.graph u e) accounts) q in
                let a2 = weight_if-same (block_of s.opening u) b 1 q in
                omega arith
            | inr q ↦
                let x = raises_once u e b l in
                let a1 = weight_if-other (block_of s.opening u) b (total (lowers s.graph u e) accounts) q in
                let a2 = weight_if-other (block_of s.opening u) b 1 q in
                omega arith
          ]
