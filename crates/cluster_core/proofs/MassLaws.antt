-- The clause on masses, event by event.
use Rattle.std.proofs.Common.{◌≡◌, ◌≢◌, ℕ, ◌+◌, ◌-◌, ◌<◌, ◌≤◌, inl, inr, false, List, length, get_or, set}
use Rattle.std.proofs.Common.{nat_eq, if◌then◌else◌, All, refl, sym, ap, ◌∙◌, subst, arith}
use Rattle.std.proofs.lemmas.Bool.{cases_eq}
use Rattle.hg_defs.specs.Sums.{total}
use Rattle.hg_defs.specs.Hypergraph.{Hyper, vertex_count, weight_of}
use Rattle.hg_defs.proofs.SumLaws.{weight_if, weight_if-same, weight_if-other, total-zero, total-le, sum_below-change, sum_below-same, sum_below-zero}
use Rattle.cluster_core.specs.declared.account.Account.{Account}
use Rattle.cluster_core.specs.declared.account.Stage.{Stage}
use Rattle.cluster_core.specs.declared.account.Stage.TheVariants.{Idle, Refused, Granted}
use Rattle.cluster_core.specs.State.{Setup, Readings, blank}
use Rattle.cluster_core.specs.Balance.{InBalance, IsRoot, HasMasses, IsHeld, share, clustered, pending_weight, granted_weight, grants, promised}
use Rattle.cluster_core.proofs.TimesLaws.{total_changed, total_at, All_at_times, pick}
use Rattle.cluster_core.proofs.MarkLaws.{mark_here, mark_there, mark_stays}

-- the root of a stage that isn't idle is a root
abbrev pub HasRoot : Hyper → Readings → Stage → Type 0
HasRoot h r Idle = Unit {0}
HasRoot h r (Refused v q) = IsRoot h r q
HasRoot h r (Granted v q) = IsRoot h r q

has_root : (h : Hyper) (r : Readings) (a : Account) (stage : Stage) → All (IsRoot h r) a.known → IsHeld stage a → HasRoot h r stage
has_root h r a Idle k t = tt
has_root h r a (Refused v q) k t = All_at_times (IsRoot h r) a.known q k t.1
has_root h r a (Granted v q) k t = All_at_times (IsRoot h r) a.known q k t.1

pub roots_here : (g : Setup) (r : Readings) (accounts : List Account) → InBalance g r accounts → All (λ a. HasRoot g.graph r a.stage) accounts
roots_here g r accounts b k d l = let a = get_or accounts k d in has_root g.graph r a a.stage (b.marks.known k d l) (b.passes.held k d l)

no_pending : (h : Hyper) (r : Readings) (q : ℕ) (stage : Stage) → HasRoot h r stage → r.mark q < 2 → pending_weight h q stage ≡ 0
no_pending h r q Idle k o = refl
no_pending h r q (Refused v p) k o = weight_if-other p q (weight_of h v) (λ e. let m = k.mark in let z = ap r.mark e in omega arith)
no_pending h r q (Granted v p) k o = weight_if-other p q (weight_of h v) (λ e. let m = k.mark in let z = ap r.mark e in omega arith)

no_grant : (h : Hyper) (r : Readings) (q : ℕ) (stage : Stage) → HasRoot h r stage → r.mark q < 2 → grants q stage ≡ 0
no_grant h r q Idle k o = refl
no_grant h r q (Refused v p) k o = refl
no_grant h r q (Granted v p) k o = weight_if-other p q 1 (λ e. let m = k.mark in let z = ap r.mark e in omega arith)

granted_pending : (h : Hyper) (q : ℕ) (stage : Stage) → granted_weight h q stage ≤ pending_weight h q stage
granted_pending h q Idle = omega arith
granted_pending h q (Refused v p) = omega arith
granted_pending h q (Granted v p) = omega arith

-- the same number on both sides, or not
pub shifted : (p q x : ℕ) → weight_if (p + 2) (q + 2) x ≡ weight_if p q x
shifted p q x =
    elim (cases_eq p q) [
      | inl e ↦ weight_if-same (p + 2) (q + 2) x (ap (λ z. z + 2) e) ∙ sym (weight_if-same p q x e)
      | inr n ↦ weight_if-other (p + 2) (q + 2) x (λ e. n (omega arith)) ∙ sym (weight_if-other p q x n)
    ]

module _ (g : Setup) (r : Readings) (accounts : List Account) (b : InBalance g r accounts) where
  abbrev h : Hyper
  h = g.graph

  pub pending_nothing : (q : ℕ) → r.mark q < 2 → total (λ a. pending_weight h q a.stage) accounts ≡ 0
  pending_nothing q o = total-zero (λ a. pending_weight h q a.stage) accounts (λ k d l. no_pending h r q (get_or accounts k d).stage
      (roots_here g r accounts b k d l) o)

  pub grants_nothing : (q : ℕ) → r.mark q < 2 → total (λ a. grants q a.stage) accounts ≡ 0
  grants_nothing q o = total-zero (λ a. grants q a.stage) accounts (λ k d l. no_grant h r q (get_or accounts k d).stage (roots_here g r accounts b k d l) o)

  -- what is granted is within the mass
  pub promised_within : (q : ℕ) → q < vertex_count h → r.mark q ≡ q + 2 → promised h r accounts q ≤ r.mass q
  promised_within q lq e =
      let m = b.masses.root q lq e in
      let t = total-le (λ a. granted_weight h q a.stage) (λ a. pending_weight h q a.stage) accounts
      (λ k d l. granted_pending h q (get_or accounts k d).stage) in
      omega arith

  -- one account changed
  module _ (r' : Readings) (i : ℕ) (a a' : Account) (l : i < length accounts) (at : get_or accounts i (blank false) ≡ a) where
    abbrev now : List Account
    now = set accounts i a'

    total_now : (f : Account → ℕ) → total f now + f a ≡ total f accounts + f a'
    total_now f = total_changed accounts i a a' l at f

    -- the mark of a vertex that isn't decided is written, and no mass
    module _ (v x : ℕ) (lv : v < vertex_count h) (w : (u : ℕ) → u < vertex_count h → r'.mark u ≡ (if nat_eq v u then x else r.mark u))
        (m : (u : ℕ) → u < vertex_count h → r'.mass u ≡ r.mass u) (vacant : r.mark v < 2) where
      here : r'.mark v ≡ x
      here = mark_here h r r' v x lv w

      there : (u : ℕ) → u < vertex_count h → (v ≡ u → ⊥) → r'.mark u ≡ r.mark u
      there = mark_there h r r' v x lv w

      stays : (u q : ℕ) → u < vertex_count h → r.mark u ≡ q + 2 → r'.mark u ≡ q + 2
      stays = mark_stays h r r' v x lv w vacant

      clustered_more : (q : ℕ) → clustered h r' q ≡ clustered h r q + weight_if x (q + 2) (weight_of h v)
      clustered_more q =
          let e = sum_below-change (share h r' q) (share h r q) (vertex_count h) v lv (λ j k n. ap (λ z. weight_if z (q + 2) (weight_of h j))
          (there j k (λ s. n (sym s)))) in
          let old : share h r q v ≡ 0 = weight_if-other (r.mark v) (q + 2) (weight_of h v) (λ s. omega arith) in
          let new : share h r' q v ≡ weight_if x (q + 2) (weight_of h v) = ap (λ z. weight_if z (q + 2) (weight_of h v)) here in
          omega arith

      other_kept : (q : ℕ) → q < vertex_count h → r'.mark q ≢ q + 2 → r'.mass q ≡ weight_of h q
      other_kept q lq n = m q lq ∙ b.masses.other q lq (λ e. n (stays q q lq e))

      -- Take
      pub masses_taken : x ≡ 1 → a'.stage ≡ a.stage → HasMasses g r' now
      masses_taken one stage = record {
        root = λ q lq e.
            elim (cases_eq v q) [
              | inl s ↦ let z = ap r'.mark s in let y = here in absurd (omega arith)
              | inr n ↦
                  let c = same q in
                  let t = total_now (λ z. pending_weight h q z.stage) in
                  let p = ap (pending_weight h q) stage in
                  let y = b.masses.root q lq (sym (there q lq n) ∙ e) in
                  let z = m q lq in
                  omega arith
            ];
        other = other_kept;
        followed = λ q u lu n e.
            elim (cases_eq v u) [
              | inl s ↦ let z = ap r'.mark s in let y = here in absurd (omega arith)
              | inr k ↦ let y = b.masses.followed q u lu n (sym (there u lu k) ∙ e) in let z = promise q in omega arith
            ];
        granted = λ q p.
            let t = total_now (λ z. grants q z.stage) in
            let k = ap (grants q) stage in
            let y = b.masses.granted q (omega arith) in
            let z = promise q in
            omega arith;
      }
        where
          same : (q : ℕ) → clustered h r' q ≡ clustered h r q
          same q = let c = clustered_more q in let o = weight_if-other x (q + 2) (weight_of h v) (λ e. omega arith) in omega arith

          promise : (q : ℕ) → promised h r' now q ≡ promised h r accounts q
          promise q =
              let c = same q in
              let t = total_now (λ z. granted_weight h q z.stage) in
              let k = ap (granted_weight h q) stage in
              omega arith

      -- Root
      pub masses_rooted : x ≡ v + 2 → a'.stage ≡ a.stage → HasMasses g r' now
      masses_rooted own stage = record {
        root = λ q lq e.
            elim (cases_eq v q) [
              | inl s ↦ subst (λ z. r'.mass z ≡ clustered h r' z + total (λ y. pending_weight h z y.stage) now) s alone
              | inr n ↦
                  let c = same q n in
                  let t = total_now (λ z. pending_weight h q z.stage) in
                  let p = ap (pending_weight h q) stage in
                  let y = b.masses.root q lq (sym (there q lq n) ∙ e) in
                  let z = m q lq in
                  omega arith
            ];
        other = other_kept;
        followed = λ q u lu n e.
            elim (cases_eq v u) [
              | inl s ↦ let z = ap r'.mark s in let y = here in absurd (n (omega arith))
              | inr k ↦
                  let old = sym (there u lu k) ∙ e in
                  let d = b.marks.roots u q lu old in
                  let y = b.masses.followed q u lu n old in
                  let z = promise q (λ s. let dm = d.mark in let f = ap r.mark s in omega arith) in
                  omega arith
            ];
        granted = λ q p.
            let t = total_now (λ z. grants q z.stage) in
            let k = ap (grants q) stage in
            let before : 0 < total (λ z. grants q z.stage) accounts = omega arith in
            let y = b.masses.granted q before in
            let z = promise q (λ s. let f = ap r.mark s in let o = grants_nothing q (omega arith) in omega arith) in
            omega arith;
      }
        where
          same : (q : ℕ) → (v ≡ q → ⊥) → clustered h r' q ≡ clustered h r q
          same q n = let c = clustered_more q in let o = weight_if-other x (q + 2) (weight_of h v) (λ e. n (omega arith)) in omega arith

          promise : (q : ℕ) → (v ≡ q → ⊥) → promised h r' now q ≡ promised h r accounts q
          promise q n =
              let c = same q n in
              let t = total_now (λ z. granted_weight h q z.stage) in
              let k = ap (granted_weight h q) stage in
              omega arith

          nobody : clustered h r v ≡ 0
          nobody =
              sum_below-zero (share h r v) (vertex_count h)
              (λ u lu. weight_if-other (r.mark u) (v + 2) (weight_of h u) (λ e. let d = b.marks.roots u v lu e in let dm = d.mark in omega arith))

          alone : r'.mass v ≡ clustered h r' v + total (λ y. pending_weight h v y.stage) now
          alone =
              let c = clustered_more v in
              let o = weight_if-same x (v + 2) (weight_of h v) own in
              let z = nobody in
              let t = total_now (λ z. pending_weight h v z.stage) in
              let k = ap (pending_weight h v) stage in
              let p = pending_nothing v vacant in
              let y = b.masses.other v lv (λ e. omega arith) in
              let f = m v lv in
              omega arith

      -- Follow
      pub masses_followed : (o : ℕ) → x ≡ o + 2 → r.mark o ≡ o + 2 → a.stage ≡ Granted v o → a'.stage ≡ Idle → HasMasses g r' now
      masses_followed o to root stage idle = record {
        root = λ q lq e.
            elim (cases_eq v q) [
              | inl s ↦
                  let z = ap r'.mark s in
                  let y = here in
                  let f : o ≡ v = omega arith in
                  let k = ap r.mark f in
                  absurd (omega arith)
              | inr n ↦
                  let c = more q in
                  let t = total_now (λ z. pending_weight h q z.stage) in
                  let p = ap (pending_weight h q) stage in
                  let p' = ap (pending_weight h q) idle in
                  let y = b.masses.root q lq (sym (there q lq n) ∙ e) in
                  let z = m q lq in
                  omega arith
            ];
        other = other_kept;
        followed = λ q u lu n e.
            elim (cases_eq v u) [
              | inl s ↦
                  let z = ap r'.mark s in
                  let y = here in
                  let f : o ≡ q = omega arith in
                  subst (λ z. promised h r' now z ≤ g.cap) f (let k = b.masses.granted o has in let p = promise o in omega arith)
              | inr k ↦ let y = b.masses.followed q u lu n (sym (there u lu k) ∙ e) in let z = promise q in omega arith
            ];
        granted = λ q p.
            let t = total_now (λ z. grants q z.stage) in
            let k = ap (grants q) stage in
            let k' = ap (grants q) idle in
            let y = b.masses.granted q (omega arith) in
            let z = promise q in
            omega arith;
      }
        where
          more : (q : ℕ) → clustered h r' q ≡ clustered h r q + weight_if o q (weight_of h v)
          more q =
              let c = clustered_more q in
              let e : weight_if x (q + 2) (weight_of h v) ≡ weight_if (o + 2) (q + 2) (weight_of h v) = ap (λ z. weight_if z (q + 2) (weight_of h v)) to in
              let f = shifted o q (weight_of h v) in
              omega arith

          promise : (q : ℕ) → promised h r' now q ≡ promised h r accounts q
          promise q =
              let c = more q in
              let t = total_now (λ z. granted_weight h q z.stage) in
              let k = ap (granted_weight h q) stage in
              let k' = ap (granted_weight h q) idle in
              omega arith

          has : 0 < total (λ z. grants o z.stage) accounts
          has =
              let t = total_at accounts i a a' l at (λ z. grants o z.stage) in
              let k = ap (grants o) stage in
              let y = weight_if-same o o 1 refl in
              omega arith

    -- no mark is written
    module _ (w : (u : ℕ) → u < vertex_count h → r'.mark u ≡ r.mark u) where
      clustered_same : (q : ℕ) → clustered h r' q ≡ clustered h r q
      clustered_same q = sum_below-same (share h r' q) (share h r q) (vertex_count h) (λ j k. ap (λ z. weight_if z (q + 2) (weight_of h j)) (w j k))

      -- nothing but what the pass knows
      pub masses_kept : ((u : ℕ) → u < vertex_count h → r'.mass u ≡ r.mass u) → a'.stage ≡ a.stage → HasMasses g r' now
      masses_kept m stage = record {
        root = λ q lq e.
            let c = clustered_same q in
            let t = total_now (λ z. pending_weight h q z.stage) in
            let p = ap (pending_weight h q) stage in
            let y = b.masses.root q lq (sym (w q lq) ∙ e) in
            let z = m q lq in
            omega arith;
        other = λ q lq n. m q lq ∙ b.masses.other q lq (λ e. n (w q lq ∙ e));
        followed = λ q u lu n e. let y = b.masses.followed q u lu n (sym (w u lu) ∙ e) in let z = promise q in omega arith;
        granted = λ q p.
            let t = total_now (λ z. grants q z.stage) in
            let k = ap (grants q) stage in
            let y = b.masses.granted q (omega arith) in
            let z = promise q in
            omega arith;
      }
        where
          promise : (q : ℕ) → promised h r' now q ≡ promised h r accounts q
          promise q =
              let c = clustered_same q in
              let t = total_now (λ z. granted_weight h q z.stage) in
              let k = ap (granted_weight h q) stage in
              omega arith

      -- Add and TakeBack: the mass of a root is written
      module _ (v o x : ℕ) (lo : o < vertex_count h) (root : r.mark o ≡ o + 2) (m : (u : ℕ) → u < vertex_count h →
          r'.mass u ≡ (if nat_eq o u then x else r.mass u)) where
        mass_there : (u : ℕ) → u < vertex_count h → (o ≡ u → ⊥) → r'.mass u ≡ r.mass u
        mass_there u lu n = elim (pick o u x (r.mass u)) [ inl p ↦ absurd (n p.0) | inr p ↦ m u lu ∙ p.1 ]

        mass_here : r'.mass o ≡ x
        mass_here = elim (pick o o x (r.mass o)) [ inl p ↦ m o lo ∙ p.1 | inr p ↦ absurd (p.0 refl) ]

        other_left : (q : ℕ) → q < vertex_count h → r'.mark q ≢ q + 2 → r'.mass q ≡ weight_of h q
        other_left q lq n =
            mass_there q lq (λ s. n (w q lq ∙ sym (ap r.mark s) ∙ root ∙ ap (λ z. z + 2) s))
            ∙ b.masses.other q lq (λ e. n (w q lq ∙ e))

        -- Add, where there was no room
        pub masses_refused : x ≡ r.mass o + weight_of h v → a.stage ≡ Idle → a'.stage ≡ Refused v o → HasMasses g r' now
        masses_refused to idle stage = record {
          root = λ q lq e. grown q lq (sym (w q lq) ∙ e);
          other = other_left;
          followed = λ q u lu n e. let y = b.masses.followed q u lu n (sym (w u lu) ∙ e) in let z = promise q in omega arith;
          granted = λ q p.
              let t = total_now (λ z. grants q z.stage) in
              let k = ap (grants q) stage in
              let k' = ap (grants q) idle in
              let y = b.masses.granted q (omega arith) in
              let z = promise q in
              omega arith;
        }
          where
            grown : (q : ℕ) → q < vertex_count h → r.mark q ≡ q + 2 → r'.mass q ≡ clustered h r' q + total (λ z. pending_weight h q z.stage) now
            grown q lq e =
                let c = clustered_same q in
                let t = total_now (λ z. pending_weight h q z.stage) in
                let p = ap (pending_weight h q) stage in
                let p' = ap (pending_weight h q) idle in
                let y = b.masses.root q lq e in
                elim (cases_eq o q) [
                  | inl s ↦ let z = mass_here in let f = ap r'.mass s in let k = ap r.mass s in let j = weight_if-same o q (weight_of h v) s in omega arith
                  | inr n ↦ let z = mass_there q lq n in let j = weight_if-other o q (weight_of h v) n in omega arith
                ]

            promise : (q : ℕ) → promised h r' now q ≡ promised h r accounts q
            promise q =
                let c = clustered_same q in
                let t = total_now (λ z. granted_weight h q z.stage) in
                let k = ap (granted_weight h q) stage in
                let k' = ap (granted_weight h q) idle in
                omega arith

        -- Add, where there was room
        pub masses_granted : x ≡ r.mass o + weight_of h v → x ≤ g.cap → a.stage ≡ Idle → a'.stage ≡ Granted v o → HasMasses g r' now
        masses_granted to room idle stage = record {
          root = λ q lq e. grown q lq (sym (w q lq) ∙ e);
          other = other_left;
          followed = λ q u lu n e.
              elim (cases_eq o q) [
                | inl s ↦ subst (λ z. promised h r' now z ≤ g.cap) s within
                | inr k ↦ let y = b.masses.followed q u lu n (sym (w u lu) ∙ e) in let z = promise q in let j = weight_if-other o q (weight_of h v) k in
                    omega arith
              ];
          granted = λ q p.
              elim (cases_eq o q) [
                | inl s ↦ subst (λ z. promised h r' now z ≤ g.cap) s within
                | inr n ↦
                    let t = total_now (λ z. grants q z.stage) in
                    let k = ap (grants q) stage in
                    let k' = ap (grants q) idle in
                    let f = weight_if-other o q 1 n in
                    let y = b.masses.granted q (omega arith) in
                    let z = promise q in
                    let j = weight_if-other o q (weight_of h v) n in
                    omega arith
              ];
        }
          where
            grown : (q : ℕ) → q < vertex_count h → r.mark q ≡ q + 2 → r'.mass q ≡ clustered h r' q + total (λ z. pending_weight h q z.stage) now
            grown q lq e =
                let c = clustered_same q in
                let t = total_now (λ z. pending_weight h q z.stage) in
                let p = ap (pending_weight h q) stage in
                let p' = ap (pending_weight h q) idle in
                let y = b.masses.root q lq e in
                elim (cases_eq o q) [
                  | inl s ↦ let z = mass_here in let f = ap r'.mass s in let k = ap r.mass s in let j = weight_if-same o q (weight_of h v) s in omega arith
                  | inr n ↦ let z = mass_there q lq n in let j = weight_if-other o q (weight_of h v) n in omega arith
                ]

            promise : (q : ℕ) → promised h r' now q ≡ promised h r accounts q + weight_if o q (weight_of h v)
            promise q =
                let c = clustered_same q in
                let t = total_now (λ z. granted_weight h q z.stage) in
                let k = ap (granted_weight h q) stage in
                let k' = ap (granted_weight h q) idle in
                omega arith

            within : promised h r' now o ≤ g.cap
            within = let p = promise o in let j = weight_if-same o o (weight_of h v) refl in let y = promised_within o lo root in omega arith

        -- TakeBack
        pub masses_taken_back : x ≡ r.mass o - weight_of h v → ((q : ℕ) → pending_weight h q a.stage ≡ weight_if o q (weight_of h v)) → a'.stage ≡ Idle →
            HasMasses g r' now
        masses_taken_back to stage idle = record {
          root = λ q lq e. shrunk q lq (sym (w q lq) ∙ e);
          other = other_left;
          followed = λ q u lu n e. let y = b.masses.followed q u lu n (sym (w u lu) ∙ e) in let z = promise q in omega arith;
          granted = λ q p.
              let t = total_now (λ z. grants q z.stage) in
              let k' = ap (grants q) idle in
              let y = b.masses.granted q (omega arith) in
              let z = promise q in
              omega arith;
        }
          where
            shrunk : (q : ℕ) → q < vertex_count h → r.mark q ≡ q + 2 → r'.mass q ≡ clustered h r' q + total (λ z. pending_weight h q z.stage) now
            shrunk q lq e =
                let c = clustered_same q in
                let t = total_now (λ z. pending_weight h q z.stage) in
                let p = stage q in
                let p' = ap (pending_weight h q) idle in
                let y = b.masses.root q lq e in
                elim (cases_eq o q) [
                  | inl s ↦ let z = mass_here in let f = ap r'.mass s in let k = ap r.mass s in let j = weight_if-same o q (weight_of h v) s in omega arith
                  | inr n ↦ let z = mass_there q lq n in let j = weight_if-other o q (weight_of h v) n in omega arith
                ]

            promise : (q : ℕ) → promised h r' now q ≤ promised h r accounts q
            promise q =
                let c = clustered_same q in
                let t = total_now (λ z. granted_weight h q z.stage) in
                let k' = ap (granted_weight h q) idle in
                omega arith
