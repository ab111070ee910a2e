-- States: what an event writes into one, the opening, and lists of events.
use Rattle.std.proofs.Common.{◌≡◌, ℕ, ◌+◌, ◌*◌, ◌<◌, ◌≤◌, inl, inr, true, false, ◌&&◌, List, [], ◌∷◌, ◌++◌, length, length-set, replicate, take, get_or}
use Rattle.std.proofs.Common.{get_or-set_same, get_or-set_other, slice_index, slice_set, nat_eq, nat_lt}
use Rattle.std.proofs.Common.{if◌then◌else◌, All, refl, sym, ap, ◌∙◌, subst, arith}
use Rattle.std.proofs.lemmas.List.{take_more, get_or-replicate, length-replicate}
use Rattle.std.proofs.lemmas.List.Elements.{All-replicate}
use Rattle.std.proofs.lemmas.Bool.{true≢false, ltb-true, and_parts, and_from}
use Rattle.hg_defs.specs.Sums.{total}
use Rattle.hg_defs.specs.Hypergraph.{vertex_count, is_free, IsWithinLimits}
use Rattle.hg_defs.proofs.SumLaws.{weight_if-other, total-replicate}
use Rattle.cluster_core.specs.declared.account.Account.{Account}
use Rattle.cluster_core.specs.declared.account.Stage.{Stage}
use Rattle.cluster_core.specs.declared.account.Stage.TheVariants.{Idle, Refused, Granted}
use Rattle.cluster_core.specs.declared.events.ClusterEvent.{ClusterEvent}
use Rattle.cluster_core.specs.declared.events.ClusterEvent.TheVariants.{Take, Root, Add, TakeBack, Follow, Peek, Split, Join}
use Rattle.cluster_core.specs.State.{Setup, State, Word, Mark, Mass, Writes, readings, written, times, blank, account, opened}
use Rattle.cluster_core.specs.Events.{pass_of, word_of, write_of, found_of, is_idle, is_added, is_granted, root_at}
use Rattle.cluster_core.specs.Events.{vertex_at, is_enabled, accounts_after, after, has_taken, knows}
use Rattle.cluster_core.specs.Balance.{InBalance, IsRoot, IsHeld, IsShaped, IsClusterState, grants}
use Rattle.cluster_core.specs.Run.{run_of, all_enabled, Leads}
use Rattle.cluster_core.proofs.TimesLaws.{All_at_times, all_at, pick}
use Rattle.cluster_core.proofs.Law.{event_keeps, may_at, below_at}

-- the word is one of the clustering's
abbrev pub IsWord : Setup → Word → Type 0
IsWord g (Mark v) = v < vertex_count g.graph
IsWord g (Mass v) = v < vertex_count g.graph

-- a list with one number changed
pub set_reads : (xs : List ℕ) (i x j : ℕ) → i < length xs → slice_index (slice_set xs i x) j ≡ (if nat_eq i j then x else slice_index xs j)
set_reads xs i x j l =
    elim (pick i j x (slice_index xs j)) [
      | inl p ↦ ap (slice_index (slice_set xs i x)) (sym p.0) ∙ get_or-set_same xs i x 0 l ∙ sym p.1
      | inr p ↦ get_or-set_other xs i j x 0 (λ e. p.0 (sym e)) ∙ sym p.1
    ]

pub writes_at : (g : Setup) (s : State) (w : Word) (x : ℕ) → IsShaped g s → IsWord g w → Writes g (readings s) (readings (written s w x)) w x
writes_at g s (Mark v) x h l = record { mark = λ u m. set_reads s.marks v x u (subst (λ n. v < n) (sym h.marks) l); mass = λ u m. refl }
writes_at g s (Mass v) x h l = record { mark = λ u m. refl; mass = λ u m. set_reads s.masses v x u (subst (λ n. v < n) (sym h.masses) l) }

pub shaped_written : (g : Setup) (s : State) (w : Word) (x : ℕ) (accounts : List Account) → IsShaped g s →
    IsShaped g (record (written s w x) { accounts = accounts })
shaped_written g s (Mark v) x accounts h = record { some = h.some; marks = length-set s.marks v x ∙ h.marks; masses = h.masses }
shaped_written g s (Mass v) x accounts h = record { some = h.some; marks = h.marks; masses = length-set s.masses v x ∙ h.masses }

no : {P : Type 0} → false ≡ true → P
no h = absurd (true≢false (sym h))

module _ (g : Setup) (s : State) (k : IsClusterState g s) where
  abbrev n : ℕ
  n = vertex_count g.graph

  -- the vertex and the root of a stage that isn't idle
  pub stage_there : (i : ℕ) → i < length s.accounts → (stage : Stage) → (account s.accounts i).stage ≡ stage → is_added stage ≡ true →
      (vertex_at stage < n) × (root_at stage < n)
  stage_there i l Idle e m = no m
  stage_there i l (Refused v o) e m =
      let a = account s.accounts i in
      let held : IsHeld (Refused v o) a = subst (λ z. IsHeld z a) e (all_at s.accounts i a a l refl (λ z. IsHeld z.stage z) k.balance.passes.held) in (
        All_at_times (λ u. u < n) a.taken v (all_at s.accounts i a a l refl (λ z. All (λ u. u < n) z.taken) k.balance.marks.range) held.0,
        (All_at_times (IsRoot g.graph (readings s)) a.known o (all_at s.accounts i a a l refl (λ z. All (IsRoot g.graph (readings s)) z.known)
            k.balance.marks.known) held.1).vertex,
      )
  stage_there i l (Granted v o) e m =
      let a = account s.accounts i in
      let held : IsHeld (Granted v o) a = subst (λ z. IsHeld z a) e (all_at s.accounts i a a l refl (λ z. IsHeld z.stage z) k.balance.passes.held) in (
        All_at_times (λ u. u < n) a.taken v (all_at s.accounts i a a l refl (λ z. All (λ u. u < n) z.taken) k.balance.marks.range) held.0,
        (All_at_times (IsRoot g.graph (readings s)) a.known o (all_at s.accounts i a a l refl (λ z. All (IsRoot g.graph (readings s)) z.known)
            k.balance.marks.known) held.1).vertex,
      )

  pub granted-added : (stage : Stage) → is_granted stage ≡ true → is_added stage ≡ true
  granted-added Idle m = no m
  granted-added (Refused v o) m = no m
  granted-added (Granted v o) m = refl

  -- the word of an enabled event is there
  pub word_there : (x : ClusterEvent) → is_enabled g s.accounts x ≡ true → IsWord g (word_of x (account s.accounts (pass_of x)))
  word_there (Take i v) h = ltb-true v n (and_parts (nat_lt v n) (is_free g.graph v) (and_parts (is_idle (account s.accounts i).stage)
      (nat_lt v n && is_free g.graph v) (may_at g (readings s) s.accounts k.balance (Take i v) h)).1).0
  word_there (Root i v) h = ltb-true v n (and_parts (nat_lt v n) (has_taken (account s.accounts i) v) (and_parts (is_idle (account s.accounts i).stage)
      (nat_lt v n && has_taken (account s.accounts i) v) (may_at g (readings s) s.accounts k.balance (Root i v) h)).1).0
  word_there (Add i v o) h =
      let a = account s.accounts i in
      let p = and_parts (is_idle a.stage) (nat_lt v n && (nat_lt o n && (has_taken a v && knows a o)))
      (may_at g (readings s) s.accounts k.balance (Add i v o)
      h) in
      let q = and_parts (nat_lt v n) (nat_lt o n && (has_taken a v && knows a o)) p.1 in
      ltb-true o n (and_parts (nat_lt o n) (has_taken a v && knows a o) q.1).0
  word_there (TakeBack i) h = (stage_there i (below_at g (readings s) s.accounts k.balance (TakeBack i) h) (account s.accounts i).stage refl
      (may_at g (readings s) s.accounts k.balance (TakeBack i) h)).1
  word_there (Follow i) h = (stage_there i (below_at g (readings s) s.accounts k.balance (Follow i) h) (account s.accounts i).stage refl
      (granted-added (account s.accounts i).stage (may_at g (readings s) s.accounts k.balance (Follow i) h))).0
  word_there (Peek i v) h = ltb-true v n (may_at g (readings s) s.accounts k.balance (Peek i v) h)
  word_there (Split i) h = k.shape.some
  word_there (Join i j) h = k.shape.some

  pub state_keeps : (x : ClusterEvent) → is_enabled g s.accounts x ≡ true → IsClusterState g (after g s x)
  state_keeps x h =
      let w = word_of x (account s.accounts (pass_of x)) in
      let y = write_of g x (account s.accounts (pass_of x)) (found_of s x) in
      let accounts = accounts_after g s.accounts x (found_of s x) in
      record {
        bounds = k.bounds;
        shape = shaped_written g s w y accounts k.shape;
        balance = balance_at w y accounts (event_keeps g (readings s) s.accounts k.balance (readings (written s w y)) x h
            (writes_at g s w y k.shape (word_there x h)));
      }
    where
      balance_at : (w : Word) (y : ℕ) (accounts : List Account) → InBalance g (readings (written s w y)) accounts →
          InBalance g (readings (record (written s w y) { accounts = accounts })) accounts
      balance_at (Mark v) y accounts b = b
      balance_at (Mass v) y accounts b = b

-- the opening
pub opened_state : (g : Setup) (passes : ℕ) → 0 < vertex_count g.graph → IsWithinLimits g.graph → passes ≤ 64 → IsClusterState g (opened g passes)
opened_state g passes some bounds few = record {
  bounds = bounds;
  shape = record { some = some; marks = length-replicate (vertex_count g.graph) 0; masses = refl };
  balance = record {
    marks = record {
      roots = λ v q l e. let z = zero v l in absurd (omega arith);
      known = All-replicate (λ a. All (IsRoot g.graph (readings (opened g passes))) a.known) passes (blank true) nothing;
      taken = λ v l. none (λ a. times v a.taken) refl ∙
          sym (weight_if-other ((readings (opened g passes)).mark v) 1 1 (λ e. let z = zero v l in omega arith));
      range = All-replicate (λ a. All (λ v. v < vertex_count g.graph) a.taken) passes (blank true) nothing_below;
      fixed = λ v l f. zero v l;
    };
    masses = record {
      root = λ q l e. let z = zero q l in absurd (omega arith);
      other = λ q l n. refl;
      followed = λ q v l n e. let z = zero v l in absurd (omega arith);
      granted = λ q p. let z = none (λ a. grants q a.stage) refl in absurd (omega arith);
    };
    passes = record {
      held = All-replicate (λ a. IsHeld a.stage a) passes (blank true) tt;
      ended = All-replicate (λ a. a.live ≡ false → a ≡ blank false) passes (blank true) (λ q. absurd (true≢false q));
      made = let l = length-replicate passes (blank true) in omega arith;
    };
  };
}
  where
    zero : (v : ℕ) → v < vertex_count g.graph → slice_index (replicate (vertex_count g.graph) 0) v ≡ 0
    zero v l = get_or-replicate (vertex_count g.graph) v 0 0 l

    none : (f : Account → ℕ) → f (blank true) ≡ 0 → total f (replicate passes (blank true)) ≡ 0
    none f z = total-replicate f passes (blank true) ∙ ap (λ y. passes * y) z ∙ (omega arith)

    nothing : All (IsRoot g.graph (readings (opened g passes))) []
    nothing k d l = absurd (omega arith)

    nothing_below : All (λ v. v < vertex_count g.graph) []
    nothing_below k d l = absurd (omega arith)

pub opened_from : (g : Setup) (passes : ℕ) (marks masses : List ℕ) (accounts : List Account) → 0 < vertex_count g.graph → IsWithinLimits g.graph →
    passes ≤ 64 → marks ≡ replicate (vertex_count g.graph) 0 → masses ≡ g.graph.weights → accounts ≡ replicate passes (blank true) →
    IsClusterState g (record { marks = marks; masses = masses; accounts = accounts })
opened_from g passes marks masses accounts some bounds few e f h =
    subst (λ z. IsClusterState g (record { marks = z; masses = masses; accounts = accounts })) (sym e)
    (subst (λ z. IsClusterState g (record { marks = replicate (vertex_count g.graph) 0; masses = z; accounts = accounts })) (sym f)
    (subst (λ z. IsClusterState g (record { marks = replicate (vertex_count g.graph) 0; masses = g.graph.weights; accounts = z })) (sym h)
    (opened_state g passes some bounds few)))

pub run_keeps : (g : Setup) (s : State) (xs : List ClusterEvent) → IsClusterState g s → all_enabled g s xs ≡ true → IsClusterState g (run_of g s xs)
run_keeps g s [] k h = k
run_keeps g s (x ∷ xs) k h =
    let p = and_parts (is_enabled g s.accounts x) (all_enabled g (after g s x) xs) h in
    run_keeps g (after g s x) xs (state_keeps g s k x p.0) p.1

-- one event more
pub all_enabled_push : (g : Setup) (s : State) (xs : List ClusterEvent) (x : ClusterEvent) → all_enabled g s xs ≡ true →
    is_enabled g (run_of g s xs).accounts
    x ≡ true → all_enabled g s (xs ++ x ∷ []) ≡ true
all_enabled_push g s [] x h e = and_from (is_enabled g s.accounts x) true e refl
all_enabled_push g s (y ∷ xs) x h e =
    let p = and_parts (is_enabled g s.accounts y) (all_enabled g (after g s y) xs) h in
    and_from (is_enabled g s.accounts y) (all_enabled g (after g s y) (xs ++ x ∷ [])) p.0 (all_enabled_push g (after g s y) xs x p.1 e)

pub run_of_push : (g : Setup) (s : State) (xs : List ClusterEvent) (x : ClusterEvent) → run_of g s (xs ++ x ∷ []) ≡ after g (run_of g s xs) x
run_of_push g s [] x = refl
run_of_push g s (y ∷ xs) x = run_of_push g (after g s y) xs x

-- the state u, which the first i + 1 events lead to
pub record IsMore (g : Setup) (s u : State) (xs : List ClusterEvent) (i : ℕ) : Type 0 where
  pub enabled : all_enabled g s (take (i + 1) xs) ≡ true
  pub state : u ≡ run_of g s (take (i + 1) xs)
  pub balance : IsClusterState g u

pub made_more : (g : Setup) (s : State) (xs : List ClusterEvent) (i : ℕ) (d : ClusterEvent) → i < length xs → (t u : State) (f : ℕ) →
    Leads g t (get_or xs i d)
    f u → IsClusterState g t → t ≡ run_of g s (take i xs) → all_enabled g s (take i xs) ≡ true → IsMore g s u xs i
made_more g s xs i d l t u f e k r h =
    let more = take_more xs i d l in
    record {
      enabled = subst (λ ys. all_enabled g s ys ≡ true) (sym more) (all_enabled_push g s (take i xs) (get_or xs i d) h
          (subst (λ (z : State). is_enabled g z.accounts (get_or xs i d) ≡ true) r e.enabled));
      state = e.state ∙ ap (λ z. after g z (get_or xs i d)) r ∙ sym (run_of_push g s (take i xs) (get_or xs i d)) ∙ ap (run_of g s) (sym more);
      balance = subst (IsClusterState g) (sym e.state) (state_keeps g t k (get_or xs i d) e.enabled);
    }
