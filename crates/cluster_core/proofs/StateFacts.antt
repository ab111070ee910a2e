-- What a step of the machine needs to know of a state: that its places are there, that no number passes its type,
-- and that what it leaves is the state after the event.
use Rattle.std.proofs.Common.{◌≡◌, ℕ, zero, suc, ◌+◌, ◌-◌, ◌*◌, ◌^◌, ◌<◌, ◌≤◌, inl, inr, true, false, ◌&&◌, List, [], ◌∷◌, length}
use Rattle.std.proofs.Common.{get_or, slice_index, slice_set, nat_lt, All, refl, sym, ap, ◌∙◌, subst, arith}
use Rattle.std.proofs.lemmas.Bool.{true≢false, ltb-true, and_parts, cases_lt, cases_eq}
use Rattle.std.proofs.lemmas.List.{get_or_past}
use Rattle.hg_defs.specs.Hypergraph.{Hyper, vertex_count, weight_of, IsWithinLimits}
use Rattle.hg_defs.proofs.SumLaws.{weight_if-le, weight_if-same, total-by_index, total-constant, total-le, total_at-le, sum_below-le}
use Rattle.cluster_core.specs.declared.account.Account.{Account}
use Rattle.cluster_core.specs.declared.account.Stage.{Stage}
use Rattle.cluster_core.specs.declared.account.Stage.TheVariants.{Idle, Refused, Granted}
use Rattle.cluster_core.specs.declared.events.ClusterEvent.{ClusterEvent}
use Rattle.cluster_core.specs.declared.events.ClusterEvent.TheVariants.{Add, TakeBack, Follow}
use Rattle.cluster_core.specs.State.{Setup, State, Readings, Word, Mark, Mass, readings, written, blank, account}
use Rattle.cluster_core.specs.Events.{pass_of, word_of, write_of, found_of, is_idle, is_added, root_at, vertex_at}
use Rattle.cluster_core.specs.Events.{followed, is_enabled, accounts_after, after, has_taken, knows}
use Rattle.cluster_core.specs.Balance.{InBalance, IsRoot, IsHeld, IsClusterState, share, pending_weight}
use Rattle.cluster_core.specs.Run.{Leads}
use Rattle.cluster_core.proofs.TimesLaws.{all_at, total_at, All_at_times}
use Rattle.cluster_core.proofs.Law.{may_at, below_at}
use Rattle.cluster_core.proofs.StateLaws.{stage_there, granted-added}

-- a place of a list reads the same whatever would stand past its end
pub same_default : {A : Type 0} (xs : List A) (i : ℕ) (d e : A) → i < length xs → get_or xs i d ≡ get_or xs i e
same_default [] i d e l = absurd (omega arith)
same_default (x ∷ xs) zero d e l = refl
same_default (x ∷ xs) (suc i) d e l = same_default xs i d e (omega arith)

-- a number found in a list
pub found_at : (xs : List ℕ) (p q found : ℕ) → p ≡ q → q < length xs → found ≡ get_or xs p found → found ≡ slice_index xs q
found_at xs p q found e l f = f ∙ ap (λ z. get_or xs z found) e ∙ same_default xs q found 0 l

-- the state that an event leaves, by its word, what it writes, and the accounts
pub same_after : (g : Setup) (s : State) (x : ClusterEvent) (w : Word) (y : ℕ) (accounts : List Account) → w ≡ word_of x (account s.accounts (pass_of x)) →
    y ≡ write_of g x (account s.accounts (pass_of x)) (found_of s x) → accounts ≡ accounts_after g s.accounts x (found_of s x) →
    record (written s w y) { accounts = accounts } ≡ after g s x
same_after g s x w y accounts e f q =
    ap (λ z. record (written s z y) { accounts = accounts }) e
    ∙ ap (λ z. record (written s (word_of x (account s.accounts (pass_of x))) z) { accounts = accounts }) f
    ∙ ap (λ z. record (written s (word_of x (account s.accounts (pass_of x))) (write_of g x (account s.accounts (pass_of x)) (found_of s x)))
    { accounts = z })
    q

-- a weight is within the weight of all vertices
weight_small : (h : Hyper) → IsWithinLimits h → (v : ℕ) → weight_of h v ≤ 2 ^ 54
weight_small h b v =
    let w = b.weight in
    elim (cases_lt v (vertex_count h)) [
      | inl l ↦ let x = total_at-le (λ z. z) h.weights v 0 l in omega arith
      | inr m ↦ let x = get_or_past h.weights v 0 m in omega arith
    ]

pending_small : (h : Hyper) → IsWithinLimits h → (q : ℕ) (stage : Stage) → pending_weight h q stage ≤ 2 ^ 54
pending_small h b q Idle = omega arith
pending_small h b q (Refused v o) = let x = weight_if-le o q (weight_of h v) in let y = weight_small h b v in omega arith
pending_small h b q (Granted v o) = let x = weight_if-le o q (weight_of h v) in let y = weight_small h b v in omega arith

-- no mass passes its type, with what one more vertex weighs
pub mass_small : (g : Setup) (r : Readings) (accounts : List Account) → IsWithinLimits g.graph → InBalance g r accounts → (q : ℕ) →
    q < vertex_count g.graph →
    r.mass q ≤ 66 * 2 ^ 54
mass_small g r accounts bounds b q lq =
    let w = bounds.weight in
    let h = g.graph in
    elim (cases_eq (r.mark q) (q + 2)) [
      | inl e ↦
          let m = b.masses.root q lq e in
          let c = sum_below-le (share h r q) (weight_of h) (vertex_count h) (λ v l. weight_if-le (r.mark v) (q + 2) (weight_of h v)) in
          let t = total-by_index (λ z. z) 0 h.weights in
          let p = total-le (λ a. pending_weight h q a.stage) (λ a. 2 ^ 54) accounts (λ k d l. pending_small h bounds q (get_or accounts k d).stage) in
          let s = total-constant (2 ^ 54) accounts in
          let made = b.passes.made in
          omega arith
      | inr n ↦ let m = b.masses.other q lq n in let y = weight_small h bounds q in omega arith
    ]

module _ (g : Setup) (s : State) (k : IsClusterState g s) where
  abbrev n : ℕ
  n = vertex_count g.graph

  pub pass_below : (x : ClusterEvent) → is_enabled g s.accounts x ≡ true → pass_of x < length s.accounts
  pass_below x h = below_at g (readings s) s.accounts k.balance x h

  pub account_is : (i : ℕ) (a : Account) → i < length s.accounts → a ≡ get_or s.accounts i a → a ≡ account s.accounts i
  account_is i a l e = e ∙ same_default s.accounts i a (blank false) l

  pub stage_is : (i : ℕ) (a : Account) (stage : Stage) → i < length s.accounts → a ≡ get_or s.accounts i a → stage ≡ a.stage →
      stage ≡ (account s.accounts i).stage
  stage_is i a stage l e q = q ∙ ap (λ (z : Account). z.stage) (account_is i a l e)

  -- the weight of the vertex of an Add fits beside the mass
  pub add_fits : (i v o : ℕ) → is_enabled g s.accounts (Add i v o) ≡ true → slice_index s.masses o + weight_of g.graph v < 2 ^ 64
  add_fits i v o h =
      let a = account s.accounts i in
      let p = and_parts (is_idle a.stage) (nat_lt v n && (nat_lt o n && (has_taken a v && knows a o)))
      (may_at g (readings s) s.accounts k.balance (Add i v o)
      h) in
      let q = and_parts (nat_lt v n) (nat_lt o n && (has_taken a v && knows a o)) p.1 in
      let lo = ltb-true o n (and_parts (nat_lt o n) (has_taken a v && knows a o) q.1).0 in
      let x = mass_small g (readings s) s.accounts k.bounds k.balance o lo in
      let y = weight_small g.graph k.bounds v in
      omega arith

  pub add_root_below : (i v o : ℕ) → is_enabled g s.accounts (Add i v o) ≡ true → o < length s.masses
  add_root_below i v o h =
      let a = account s.accounts i in
      let p = and_parts (is_idle a.stage) (nat_lt v n && (nat_lt o n && (has_taken a v && knows a o)))
      (may_at g (readings s) s.accounts k.balance (Add i v o)
      h) in
      let q = and_parts (nat_lt v n) (nat_lt o n && (has_taken a v && knows a o)) p.1 in
      let lo = ltb-true o n (and_parts (nat_lt o n) (has_taken a v && knows a o) q.1).0 in
      subst (λ z. o < z) (sym k.shape.masses) lo

  -- what stands at a stage is within the mass of its root
  weight_within : (i : ℕ) → i < length s.accounts → (stage : Stage) → (account s.accounts i).stage ≡ stage → pending_weight g.graph (root_at stage) stage ≡
      weight_of g.graph (vertex_at stage) → IsRoot g.graph (readings s) (root_at stage) → weight_of g.graph (vertex_at stage) ≤ slice_index s.masses
      (root_at stage)
  weight_within i l stage e w root =
      let a = account s.accounts i in
      let t = total_at s.accounts i a a l refl (λ z. pending_weight g.graph (root_at stage) z.stage) in
      let p = ap (pending_weight g.graph (root_at stage)) e in
      let m = k.balance.masses.root (root_at stage) root.vertex root.mark in
      omega arith

  root_held : (i : ℕ) → i < length s.accounts → (v o : ℕ) → IsHeld (Granted v o) (account s.accounts i) → IsRoot g.graph (readings s) o
  root_held i l v o held =
      let a = account s.accounts i in
      All_at_times (IsRoot g.graph (readings s)) a.known o (all_at s.accounts i a a l refl (λ z. All (IsRoot g.graph (readings s)) z.known)
      k.balance.marks.known) held.1

  pub weight_stands : (i : ℕ) → i < length s.accounts → (stage : Stage) → (account s.accounts i).stage ≡ stage → is_added stage ≡ true →
      weight_of g.graph (vertex_at stage) ≤ slice_index s.masses (root_at stage)
  weight_stands i l Idle e m = absurd (true≢false (sym m))
  weight_stands i l (Refused v o) e m =
      let a = account s.accounts i in
      weight_within i l (Refused v o) e (weight_if-same o o (weight_of g.graph v) refl)
      (root_held i l v o (subst (λ z. IsHeld z a) e (all_at s.accounts i a a l refl (λ z. IsHeld z.stage z) k.balance.passes.held)))
  weight_stands i l (Granted v o) e m =
      let a = account s.accounts i in
      weight_within i l (Granted v o) e (weight_if-same o o (weight_of g.graph v) refl)
      (root_held i l v o (subst (λ z. IsHeld z a) e (all_at s.accounts i a a l refl (λ z. IsHeld z.stage z) k.balance.passes.held)))

  -- the stage of a TakeBack or a Follow, as it was read
  pub record IsRead (i : ℕ) (stage : Stage) : Type 0 where
    pub here : stage ≡ (account s.accounts i).stage
    pub vertex : vertex_at stage < n
    pub root : root_at stage < n
    pub weight : weight_of g.graph (vertex_at stage) ≤ slice_index s.masses (root_at stage)

  stage_read : (i : ℕ) (b : Account) (stage : Stage) → i < length s.accounts → is_added (account s.accounts i).stage ≡ true → b ≡ get_or s.accounts i b →
      stage ≡ b.stage → IsRead i stage
  stage_read i b stage l m eb es =
      let e = stage_is i b stage l eb es in
      let t = stage_there g s k i l (account s.accounts i).stage refl m in
      record {
        here = e;
        vertex = subst (λ z. vertex_at z < n) (sym e) t.0;
        root = subst (λ z. root_at z < n) (sym e) t.1;
        weight = subst (λ z. weight_of g.graph (vertex_at z) ≤ slice_index s.masses (root_at z)) (sym e) (weight_stands i l (account s.accounts i).stage
            refl
            m);
      }

  pub take_back_read : (i : ℕ) (b : Account) (stage : Stage) → is_enabled g s.accounts (TakeBack i) ≡ true → b ≡ get_or s.accounts i b → stage ≡ b.stage →
      IsRead i stage
  take_back_read i b stage h = stage_read i b stage (pass_below (TakeBack i) h) (may_at g (readings s) s.accounts k.balance (TakeBack i) h)

  pub follow_read : (i : ℕ) (b : Account) (stage : Stage) → is_enabled g s.accounts (Follow i) ≡ true → b ≡ get_or s.accounts i b → stage ≡ b.stage →
      IsRead i stage
  follow_read i b stage h = stage_read i b stage (pass_below (Follow i) h) (granted-added g s k (account s.accounts i).stage
      (may_at g (readings s) s.accounts k.balance (Follow i) h))

  pub take_back_leads : (i : ℕ) (h : is_enabled g s.accounts (TakeBack i) ≡ true) (b c a' : Account) (stage : Stage) (v o found weight : ℕ) →
      b ≡ get_or s.accounts i b → stage ≡ b.stage → v ≡ vertex_at stage → o ≡ root_at stage → found ≡ get_or s.masses o found → weight ≡ weight_of g.graph
      v →
      c ≡ get_or s.accounts i c → a' ≡ record c { stage = Idle } → Leads g s (TakeBack i) found
      (record s { masses = slice_set s.masses o (found - weight); accounts = slice_set s.accounts i a' })
  take_back_leads i h b c a' stage v o found weight eb es ev eo ef ew ec e =
      let t = take_back_read i b stage h eb es in
      let a = account s.accounts i in
      let p = eo ∙ ap root_at t.here in
      let l : root_at a.stage < length s.masses = subst (λ z. root_at a.stage < z) (sym k.shape.masses) (subst (λ z. root_at z < n) t.here t.root) in
      let f = found_at s.masses o (root_at a.stage) found p l ef in
      let w = ew ∙ ap (weight_of g.graph) (ev ∙ ap vertex_at t.here) in
      record {
        enabled = h;
        found = f;
        state = same_after g s (TakeBack i) (Mass o) (found - weight) (slice_set s.accounts i a') (ap Mass p)
            (ap (λ x. x - weight) f ∙ ap (λ x. slice_index s.masses (root_at a.stage) - x) w)
            (ap (slice_set s.accounts i) (e ∙ ap (λ (z : Account). record z { stage = Idle }) (account_is i c (pass_below (TakeBack i) h) ec)));
      }

  pub follow_leads : (i : ℕ) (h : is_enabled g s.accounts (Follow i) ≡ true) (b c a' : Account) (stage : Stage) (v o found : ℕ) →
      b ≡ get_or s.accounts i b →
      stage ≡ b.stage → v ≡ vertex_at stage → o ≡ root_at stage → found ≡ get_or s.marks v found → c ≡ get_or s.accounts i c → a' ≡ followed c →
      Leads g s (Follow i) found (record s { marks = slice_set s.marks v (o + 2); accounts = slice_set s.accounts i a' })
  follow_leads i h b c a' stage v o found eb es ev eo ef ec e =
      let t = follow_read i b stage h eb es in
      let a = account s.accounts i in
      let p = ev ∙ ap vertex_at t.here in
      let l : vertex_at a.stage < length s.marks = subst (λ z. vertex_at a.stage < z) (sym k.shape.marks) (subst (λ z. vertex_at z < n) t.here t.vertex) in
      record {
        enabled = h;
        found = found_at s.marks v (vertex_at a.stage) found p l ef;
        state = same_after g s (Follow i) (Mark v) (o + 2) (slice_set s.accounts i a') (ap Mark p)
            (ap (λ x. x + 2) (eo ∙ ap root_at t.here))
            (ap (slice_set s.accounts i) (e ∙ ap followed (account_is i c (pass_below (Follow i) h) ec)));
      }
