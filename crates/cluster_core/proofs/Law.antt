-- Every enabled event keeps the balance, and no event changes a decided mark.
use Rattle.std.proofs.Common.{◌≡◌, ◌≢◌, ℕ, ◌+◌, ◌-◌, ◌<◌, ◌≤◌, inl, inr, Bool, true, false, not, ◌&&◌}
use Rattle.std.proofs.Common.{List, [], ◌∷◌, ◌++◌, length, length-append, length-set}
use Rattle.std.proofs.Common.{get_or, set, slice_set, nat_eq, nat_lt, nat_le, if◌then◌else◌, All, refl, sym, ap, ◌∙◌, subst, arith, nat_cmp}
use Rattle.std.proofs.lemmas.Bool.{true≢false, eqb-true, eqb-false, ltb-true, leb-true, not-true, and_parts, cases_lt, cases_eq}
use Rattle.std.proofs.lemmas.List.{get_or_past, set-get_or, get_or-set_other}
use Rattle.std.proofs.lemmas.List.Elements.{All-append, All-cons, All-nil, All-set}
use Rattle.std.specs.BTreeSet.{insert_key}
use Rattle.std.specs.Set.{remove_key}
use Rattle.hg_defs.specs.Sums.{total}
use Rattle.hg_defs.specs.Hypergraph.{Hyper, vertex_count, weight_of, is_free}
use Rattle.hg_defs.proofs.SumLaws.{weight_if, weight_if-same, weight_if-other, total-set, total_push, sum_below-same}
use Rattle.cluster_core.specs.declared.account.Account.{Account}
use Rattle.cluster_core.specs.declared.account.Stage.{Stage}
use Rattle.cluster_core.specs.declared.account.Stage.TheVariants.{Idle, Refused, Granted}
use Rattle.cluster_core.specs.declared.events.ClusterEvent.{ClusterEvent}
use Rattle.cluster_core.specs.declared.events.ClusterEvent.TheVariants.{Take, Root, Add, TakeBack, Follow, Peek, Split, Join}
use Rattle.cluster_core.specs.State.{Setup, Readings, Mark, Mass, Writes, read, times, blank, account}
use Rattle.cluster_core.specs.Events.{pass_of, word_of, write_of, is_idle, may_step, others_agree, is_enabled}
use Rattle.cluster_core.specs.Events.{account_after, accounts_after, learned, joined_with, has_taken, knows}
use Rattle.cluster_core.specs.Balance.{InBalance, IsRoot, IsHeld, KeepsDecided, clustered, share, pending_weight, granted_weight, grants}
use Rattle.cluster_core.proofs.TimesLaws.{times-insert_key, times-remove_key, times-all_inserted, All-insert_key}
use Rattle.cluster_core.proofs.TimesLaws.{All-remove_key, All-all_inserted, All_at_times, all_at, pick, total_two}
use Rattle.cluster_core.proofs.MarkLaws.{mark_here, mark_there, mark_stays, root_stays, marks_written, marks_kept}
use Rattle.cluster_core.proofs.MassLaws.{masses_taken, masses_rooted, masses_followed, masses_kept, masses_refused, masses_granted, masses_taken_back}
use Rattle.cluster_core.proofs.PassLaws.{staged, staged_at, passes_changed, taken_mark, untaken, held_more}

no : {P : Type 0} → false ≡ true → P
no h = absurd (true≢false (sym h))

-- a pass that lives has a place among the accounts
pub live_below : (accounts : List Account) (i : ℕ) → (account accounts i).live ≡ true → i < length accounts
live_below accounts i on =
    elim (cases_lt i (length accounts)) [
      | inl l ↦ l
      | inr m ↦ absurd (true≢false (sym on ∙ ap (λ (a : Account). a.live) (get_or_past accounts i (blank false) m)))
    ]

-- every word reads as before
pub record Same (g : Setup) (r r' : Readings) : Type 0 where
  pub mark : (v : ℕ) → v < vertex_count g.graph → r'.mark v ≡ r.mark v
  pub mass : (v : ℕ) → v < vertex_count g.graph → r'.mass v ≡ r.mass v

-- a mark into which its own reading was written
pub same_from_writes : (g : Setup) (r r' : Readings) (v x : ℕ) → Writes g r r' (Mark v) x → x ≡ r.mark v → Same g r r'
same_from_writes g r r' v x w e = record {
  mark = λ u l. w.mark u l ∙ elim (pick v u x (r.mark u)) [ inl p ↦ p.1 ∙ e ∙ ap r.mark p.0 | inr p ↦ p.1 ];
  mass = w.mass;
}

-- words that read as before keep the balance
pub balance_same : (g : Setup) (r r' : Readings) (accounts : List Account) → Same g r r' → InBalance g r accounts → InBalance g r' accounts
balance_same g r r' accounts e b = record {
  marks = record {
    roots = λ v q l f. root_same q (b.marks.roots v q l (sym (e.mark v l) ∙ f));
    known = λ k d l j f p. root_same (get_or (get_or accounts k d).known j f) (b.marks.known k d l j f p);
    taken = λ v l. b.marks.taken v l ∙ ap (λ m. if nat_eq m 1 then 1 else 0) (sym (e.mark v l));
    range = b.marks.range;
    fixed = λ v l f. e.mark v l ∙ b.marks.fixed v l f;
  };
  masses = record {
    root = λ q l f. let c = clustered_same q in let y = b.masses.root q l (sym (e.mark q l) ∙ f) in let z = e.mass q l in omega arith;
    other = λ q l n. e.mass q l ∙ b.masses.other q l (λ f. n (e.mark q l ∙ f));
    followed = λ q u l n f. let c = clustered_same q in let y = b.masses.followed q u l n (sym (e.mark u l) ∙ f) in omega arith;
    granted = λ q p. let c = clustered_same q in let y = b.masses.granted q p in omega arith;
  };
  passes = b.passes;
}
  where
    root_same : (q : ℕ) → IsRoot g.graph r q → IsRoot g.graph r' q
    root_same q k = record { vertex = k.vertex; mark = e.mark q k.vertex ∙ k.mark }

    clustered_same : (q : ℕ) → clustered g.graph r' q ≡ clustered g.graph r q
    clustered_same q = sum_below-same (share g.graph r' q) (share g.graph r q) (vertex_count g.graph)
        (λ j k. ap (λ z. weight_if z (q + 2) (weight_of g.graph j)) (e.mark j k))

module _ (g : Setup) (r : Readings) (accounts : List Account) (b : InBalance g r accounts) where
  abbrev h : Hyper
  h = g.graph

  abbrev n : ℕ
  n = vertex_count g.graph

  module _ (i : ℕ) (l : i < length accounts) (taken known : List ℕ) where
    abbrev acc : Stage → Account
    acc = staged taken known

    abbrev Here : Stage → Type 0
    Here stage = get_or accounts i (blank false) ≡ acc stage

    roots_known : (stage : Stage) → Here stage → All (IsRoot h r) known
    roots_known stage at = all_at accounts i (acc stage) (acc stage) l at (λ z. All (IsRoot h r) z.known) b.marks.known

    taken_below : (stage : Stage) → Here stage → All (λ u. u < n) taken
    taken_below stage at = all_at accounts i (acc stage) (acc stage) l at (λ z. All (λ u. u < n) z.taken) b.marks.range

    held_here : (stage : Stage) → Here stage → IsHeld stage (acc stage)
    held_here stage at = all_at accounts i (acc stage) (acc stage) l at (λ z. IsHeld z.stage z) b.passes.held

    -- a mark that is read
    pub learn_kept : (v : ℕ) → v < n → (stage : Stage) → Here stage → InBalance g r (slice_set accounts i (learned (r.mark v) (acc stage)))
    learn_kept v lv stage at = by (nat_le 2 (r.mark v)) refl
      where
        by : (z : Bool) → nat_le 2 (r.mark v) ≡ z → InBalance g r
            (slice_set accounts i (if z then record (acc stage) { known = insert_key nat_cmp known (r.mark v - 2) } else acc stage))
        by true q = record {
          marks = marks_kept h r r accounts i (acc stage) (staged taken (insert_key nat_cmp known (r.mark v - 2)) stage) l at b.marks (λ u k. refl)
              (All-insert_key (IsRoot h r) known (r.mark v - 2) (roots_known stage at)
              (b.marks.roots v (r.mark v - 2) lv (let t = leb-true 2 (r.mark v) q in
              omega arith)))
              refl;
          masses = masses_kept g r accounts b r i (acc stage) (staged taken (insert_key nat_cmp known (r.mark v - 2)) stage) l at (λ u k. refl)
              (λ u k. refl)
              refl;
          passes = passes_changed accounts i (acc stage) (staged taken (insert_key nat_cmp known (r.mark v - 2)) stage) l at b.passes refl
              (held_more taken known (r.mark v - 2) stage (held_here stage at));
        }
        by false q = subst (InBalance g r) (sym (ap (slice_set accounts i) (sym at) ∙ set-get_or accounts i (blank false))) b

    module _ (r' : Readings) where
      -- what an event leads to where the pass has this account
      abbrev Kept : ClusterEvent → Stage → Type 0
      Kept x stage = Writes g r r' (word_of x (acc stage)) (write_of g x (acc stage) (read r (word_of x (acc stage)))) →
          InBalance g r' (slice_set accounts i (account_after g x (read r (word_of x (acc stage))) (acc stage)))

      stays_known : (v x : ℕ) (lv : v < n) (w : (u : ℕ) → u < n → r'.mark u ≡ (if nat_eq v u then x else r.mark u)) → r.mark v < 2 →
          All (IsRoot h r) known →
          All (IsRoot h r') known
      stays_known v x lv w vacant k j e p = root_stays h r r' v x lv w vacant (get_or known j e) (k j e p)

      -- Take of a vertex that nobody has
      take_kept : (v : ℕ) → v < n → is_free h v ≡ true → r.mark v ≡ 0 → Here Idle → Writes g r r' (Mark v) 1 →
          InBalance g r' (set accounts i (staged (insert_key nat_cmp taken v) known Idle))
      take_kept v lv free zero at w = record {
        marks = marks_written h r r' accounts i (acc Idle) (staged (insert_key nat_cmp taken v) known Idle) l at b.marks v 1 lv w.mark vacant
            (λ q e. absurd (omega arith))
            (stays_known v 1 lv w.mark vacant (roots_known Idle at))
            count
            (All-insert_key (λ u. u < n) taken v (taken_below Idle at) lv)
            (λ f. absurd (true≢false (sym free ∙ f)));
        masses = masses_taken g r accounts b r' i (acc Idle) (staged (insert_key nat_cmp taken v) known Idle) l at v 1 lv w.mark w.mass vacant refl refl;
        passes = passes_changed accounts i (acc Idle) (staged (insert_key nat_cmp taken v) known Idle) l at b.passes refl tt;
      }
        where
          vacant : r.mark v < 2
          vacant = omega arith

          count : (u : ℕ) → u < n → times u (insert_key nat_cmp taken v) + weight_if (r.mark u) 1 1 ≡ times u taken + weight_if (r'.mark u) 1 1
          count u lu =
              let t = times-insert_key taken v u (untaken accounts i (acc Idle) (staged (insert_key nat_cmp taken v) known Idle) l at h r b.marks v lv
              zero) in
              elim (cases_eq v u) [
                | inl s ↦
                    let x = weight_if-same v u 1 s in
                    let m = ap r.mark s in
                    let m' = ap r'.mark s in
                    let k = mark_here h r r' v 1 lv w.mark in
                    let y = weight_if-other (r.mark u) 1 1 (λ e. omega arith) in
                    let z = weight_if-same (r'.mark u) 1 1 (omega arith) in
                    omega arith
                | inr q ↦
                    let x = weight_if-other v u 1 q in
                    let y = ap (λ m. weight_if m 1 1) (mark_there h r r' v 1 lv w.mark u lu q) in
                    omega arith
              ]

      -- a vertex that the pass had taken is decided
      released : (v x : ℕ) (stage : Stage) → v < n → 0 < times v taken → 2 ≤ x → Here stage →
          ((u : ℕ) → u < n → r'.mark u ≡ (if nat_eq v u then x else r.mark u)) → (u : ℕ) → u < n → times u (remove_key (nat_eq v) taken) + weight_if
          (r.mark u)
          1 1 ≡ times u taken + weight_if (r'.mark u) 1 1
      released v x stage lv has big at w u lu =
          let t = times-remove_key taken v u has in
          let one = taken_mark accounts i (acc stage) (acc stage) l at h r b.marks v lv has in
          elim (cases_eq v u) [
            | inl s ↦
                let y = weight_if-same v u 1 s in
                let m = ap r.mark s in
                let m' = ap r'.mark s in
                let k = mark_here h r r' v x lv w in
                let z = weight_if-same (r.mark u) 1 1 (omega arith) in
                let z' = weight_if-other (r'.mark u) 1 1 (λ e. omega arith) in
                omega arith
            | inr q ↦
                let y = weight_if-other v u 1 q in
                let z = ap (λ m. weight_if m 1 1) (mark_there h r r' v x lv w u lu q) in
                omega arith
          ]

      root_kept : (v : ℕ) → v < n → 0 < times v taken → Here Idle → Writes g r r' (Mark v) (v + 2) →
          InBalance g r' (set accounts i (staged (remove_key (nat_eq v) taken) (insert_key nat_cmp known v) Idle))
      root_kept v lv has at w = record {
        marks = marks_written h r r' accounts i (acc Idle) (staged (remove_key (nat_eq v) taken) (insert_key nat_cmp known v) Idle) l at b.marks v (v + 2)
            lv
            w.mark vacant
            (λ q e. let s : v ≡ q = omega arith in subst (IsRoot h r') s own)
            (All-insert_key (IsRoot h r') known v (stays_known v (v + 2) lv w.mark vacant (roots_known Idle at)) own)
            (released v (v + 2) Idle lv has (omega arith) at w.mark)
            (All-remove_key (λ u. u < n) taken v (taken_below Idle at))
            (λ f. let z = b.marks.fixed v lv f in let e = one in absurd (omega arith));
        masses = masses_rooted g r accounts b r' i (acc Idle) (staged (remove_key (nat_eq v) taken) (insert_key nat_cmp known v) Idle) l at v (v + 2) lv
            w.mark
            w.mass vacant refl refl;
        passes = passes_changed accounts i (acc Idle) (staged (remove_key (nat_eq v) taken) (insert_key nat_cmp known v) Idle) l at b.passes refl tt;
      }
        where
          one : r.mark v ≡ 1
          one = taken_mark accounts i (acc Idle) (staged (remove_key (nat_eq v) taken) (insert_key nat_cmp known v) Idle) l at h r b.marks v lv has

          vacant : r.mark v < 2
          vacant = let e = one in omega arith

          own : IsRoot h r' v
          own = record { vertex = lv; mark = mark_here h r r' v (v + 2) lv w.mark }

      follow_kept : (v o : ℕ) → Here (Granted v o) → Writes g r r' (Mark v) (o + 2) →
          InBalance g r' (set accounts i (staged (remove_key (nat_eq v) taken) known Idle))
      follow_kept v o at w = record {
        marks = marks_written h r r' accounts i (acc (Granted v o)) (staged (remove_key (nat_eq v) taken) known Idle) l at b.marks v (o + 2) lv w.mark
            vacant
            (λ q e. let s : o ≡ q = omega arith in subst (IsRoot h r') s (root_stays h r r' v (o + 2) lv w.mark vacant o root))
            (stays_known v (o + 2) lv w.mark vacant (roots_known (Granted v o) at))
            (released v (o + 2) (Granted v o) lv has (omega arith) at w.mark)
            (All-remove_key (λ u. u < n) taken v (taken_below (Granted v o) at))
            (λ f. let z = b.marks.fixed v lv f in let e = one in absurd (omega arith));
        masses = masses_followed g r accounts b r' i (acc (Granted v o)) (staged (remove_key (nat_eq v) taken) known Idle) l at v (o + 2) lv w.mark w.mass
            vacant o refl root.mark refl refl;
        passes = passes_changed accounts i (acc (Granted v o)) (staged (remove_key (nat_eq v) taken) known Idle) l at b.passes refl tt;
      }
        where
          has : 0 < times v taken
          has = (held_here (Granted v o) at).0

          root : IsRoot h r o
          root = All_at_times (IsRoot h r) known o (roots_known (Granted v o) at) (held_here (Granted v o) at).1

          lv : v < n
          lv = All_at_times (λ u. u < n) taken v (taken_below (Granted v o) at) has

          one : r.mark v ≡ 1
          one = taken_mark accounts i (acc (Granted v o)) (staged (remove_key (nat_eq v) taken) known Idle) l at h r b.marks v lv has

          vacant : r.mark v < 2
          vacant = let e = one in omega arith

      granted_kept : (v o : ℕ) → 0 < times v taken → 0 < times o known → r.mass o + weight_of h v ≤ g.cap → Here Idle →
          Writes g r r' (Mass o) (r.mass o + weight_of h v) → InBalance g r' (set accounts i (acc (Granted v o)))
      granted_kept v o has knows room at w =
          let root = All_at_times (IsRoot h r) known o (roots_known Idle at) knows in
          record {
            marks = marks_kept h r r' accounts i (acc Idle) (acc (Granted v o)) l at b.marks w.mark (roots_known Idle at) refl;
            masses = masses_granted g r accounts b r' i (acc Idle) (acc (Granted v o)) l at w.mark v o (r.mass o + weight_of h v) root.vertex root.mark
                w.mass
                refl room refl refl;
            passes = passes_changed accounts i (acc Idle) (acc (Granted v o)) l at b.passes refl (has, knows);
          }

      refused_kept : (v o : ℕ) → 0 < times v taken → 0 < times o known → Here Idle → Writes g r r' (Mass o) (r.mass o + weight_of h v) →
          InBalance g r' (set accounts i (acc (Refused v o)))
      refused_kept v o has knows at w =
          let root = All_at_times (IsRoot h r) known o (roots_known Idle at) knows in
          record {
            marks = marks_kept h r r' accounts i (acc Idle) (acc (Refused v o)) l at b.marks w.mark (roots_known Idle at) refl;
            masses = masses_refused g r accounts b r' i (acc Idle) (acc (Refused v o)) l at w.mark v o (r.mass o + weight_of h v) root.vertex root.mark
                w.mass
                refl refl refl;
            passes = passes_changed accounts i (acc Idle) (acc (Refused v o)) l at b.passes refl (has, knows);
          }

      take_back_kept : (v o : ℕ) (stage : Stage) → Here stage → ((q : ℕ) → pending_weight h q stage ≡ weight_if o q (weight_of h v)) → 0 < times o known →
          Writes g r r' (Mass o) (r.mass o - weight_of h v) → InBalance g r' (set accounts i (acc Idle))
      take_back_kept v o stage at weighs knows w =
          let root = All_at_times (IsRoot h r) known o (roots_known stage at) knows in
          record {
            marks = marks_kept h r r' accounts i (acc stage) (acc Idle) l at b.marks w.mark (roots_known stage at) refl;
            masses = masses_taken_back g r accounts b r' i (acc stage) (acc Idle) l at w.mark v o (r.mass o - weight_of h v) root.vertex root.mark w.mass
                refl
                weighs refl;
            passes = passes_changed accounts i (acc stage) (acc Idle) l at b.passes refl tt;
          }

      take_law : (v : ℕ) (stage : Stage) → Here stage → may_step g (Take i v) (acc stage) ≡ true → Kept (Take i v) stage
      take_law v (Refused u o) at m w = no m
      take_law v (Granted u o) at m w = no m
      take_law v Idle at m w = by (nat_eq (r.mark v) 0) refl
        where
          parts : (nat_lt v n ≡ true) × (is_free h v ≡ true)
          parts = and_parts (nat_lt v n) (is_free h v) m

          lv : v < n
          lv = ltb-true v n parts.0

          by : (z : Bool) → nat_eq (r.mark v) 0 ≡ z → InBalance g r'
              (slice_set accounts i (if z then record (acc Idle) { taken = insert_key nat_cmp taken v } else learned (r.mark v) (acc Idle)))
          by true q = take_kept v lv parts.1 (eqb-true (r.mark v) 0 q) at (subst (Writes g r r' (Mark v)) (ap (λ z. if z then 1 else r.mark v) q) w)
          by false q =
              balance_same g r r' (slice_set accounts i (learned (r.mark v) (acc Idle)))
              (same_from_writes g r r' v (if nat_eq (r.mark v) 0 then 1 else r.mark v) w (ap (λ z. if z then 1 else r.mark v) q))
              (learn_kept v lv Idle at)

      root_law : (v : ℕ) (stage : Stage) → Here stage → may_step g (Root i v) (acc stage) ≡ true → Kept (Root i v) stage
      root_law v (Refused u o) at m w = no m
      root_law v (Granted u o) at m w = no m
      root_law v Idle at m w =
          let p = and_parts (nat_lt v n) (nat_lt 0 (times v taken)) m in
          root_kept v (ltb-true v n p.0) (ltb-true 0 (times v taken) p.1) at w

      add_law : (v o : ℕ) (stage : Stage) → Here stage → may_step g (Add i v o) (acc stage) ≡ true → Kept (Add i v o) stage
      add_law v o (Refused u p) at m w = no m
      add_law v o (Granted u p) at m w = no m
      add_law v o Idle at m w = by (nat_le (r.mass o + weight_of h v) g.cap) refl
        where
          both : (nat_lt 0 (times v taken) ≡ true) × (nat_lt 0 (times o known) ≡ true)
          both =
              let p = and_parts (nat_lt v n) (nat_lt o n && (nat_lt 0 (times v taken) && nat_lt 0 (times o known))) m in
              let q = and_parts (nat_lt o n) (nat_lt 0 (times v taken) && nat_lt 0 (times o known)) p.1 in
              and_parts (nat_lt 0 (times v taken)) (nat_lt 0 (times o known)) q.1

          by : (z : Bool) → nat_le (r.mass o + weight_of h v) g.cap ≡ z →
              InBalance g r' (slice_set accounts i (record (acc Idle) { stage = if z then Granted v o else Refused v o }))
          by true q = granted_kept v o (ltb-true 0 (times v taken) both.0) (ltb-true 0 (times o known) both.1)
              (leb-true (r.mass o + weight_of h v) g.cap q) at
              w
          by false q = refused_kept v o (ltb-true 0 (times v taken) both.0) (ltb-true 0 (times o known) both.1) at w

      take_back_law : (stage : Stage) → Here stage → may_step g (TakeBack i) (acc stage) ≡ true → Kept (TakeBack i) stage
      take_back_law Idle at m w = no m
      take_back_law (Refused v o) at m w = take_back_kept v o (Refused v o) at (λ q. refl) (held_here (Refused v o) at).1 w
      take_back_law (Granted v o) at m w = take_back_kept v o (Granted v o) at (λ q. refl) (held_here (Granted v o) at).1 w

      follow_law : (stage : Stage) → Here stage → may_step g (Follow i) (acc stage) ≡ true → Kept (Follow i) stage
      follow_law Idle at m w = no m
      follow_law (Refused v o) at m w = no m
      follow_law (Granted v o) at m w = follow_kept v o at w

      peek_law : (v : ℕ) (stage : Stage) → Here stage → may_step g (Peek i v) (acc stage) ≡ true → Kept (Peek i v) stage
      peek_law v stage at m w =
          balance_same g r r' (slice_set accounts i (learned (r.mark v) (acc stage)))
          (same_from_writes g r r' v (r.mark v) w refl)
          (learn_kept v (ltb-true v n m) stage at)

  -- Split
  All_push : (P : Account → Type 0) → All P accounts → P (blank true) → All P (accounts ++ blank true ∷ [])
  All_push P k p = All-append P accounts (blank true ∷ []) k (All-cons P (blank true) [] p (All-nil P))

  split_kept : length accounts < 64 → InBalance g r (accounts ++ blank true ∷ [])
  split_kept room = record {
    marks = record {
      roots = b.marks.roots;
      known = All_push (λ a. All (IsRoot h r) a.known) b.marks.known (All-nil (IsRoot h r));
      taken = λ v l. same (λ a. times v a.taken) refl ∙ b.marks.taken v l;
      range = All_push (λ a. All (λ v. v < n) a.taken) b.marks.range (All-nil (λ v. v < n));
      fixed = b.marks.fixed;
    };
    masses = record {
      root = λ q l e. let x = same (λ a. pending_weight h q a.stage) refl in let y = b.masses.root q l e in omega arith;
      other = b.masses.other;
      followed = λ q u l k e. let x = same (λ a. granted_weight h q a.stage) refl in let y = b.masses.followed q u l k e in omega arith;
      granted = λ q p. let x = same (λ a. granted_weight h q a.stage) refl in let z = same (λ a. grants q a.stage) refl in let y = b.masses.granted q
          (omega arith) in omega arith;
    };
    passes = record {
      held = All_push (λ a. IsHeld a.stage a) b.passes.held tt;
      ended = All_push (λ a. a.live ≡ false → a ≡ blank false) b.passes.ended (λ q. absurd (true≢false q));
      made = let x = length-append accounts (blank true ∷ []) in omega arith;
    };
  }
    where
      same : (f : Account → ℕ) → f (blank true) ≡ 0 → total f (accounts ++ blank true ∷ []) ≡ total f accounts
      same f z = let e = total_push f accounts (blank true) in omega arith

  -- Join
  module _ (i j : ℕ) (li : i < length accounts) (lj : j < length accounts) (apart : i ≢ j) (taken known taken' known' : List ℕ)
      (at : get_or accounts i (blank false) ≡ staged taken known Idle) (at' : get_or accounts j (blank false) ≡ staged taken' known' Idle) where
    abbrev one : Account
    one = staged taken known Idle

    abbrev two : Account
    two = staged taken' known' Idle

    abbrev both : Account
    both = joined_with one two

    abbrev joined : List Account
    joined = set (set accounts i both) j (blank false)

    same : (f : Account → ℕ) → f (blank false) ≡ 0 → f both ≡ f one + f two → total f joined ≡ total f accounts
    same f z e =
        let x = total-set f accounts i both (blank false) li in
        let y = total-set f (set accounts i both) j (blank false) (blank false) (omega (arith, length-set accounts i both)) in
        let o = ap f (get_or-set_other accounts i j both (blank false) (λ q. apart (sym q))) in
        let p = ap f at in
        let q = ap f at' in
        omega arith

    all_both : (P : Account → Type 0) → All P accounts → P both → P (blank false) → All P joined
    all_both P k p q = All-set P (set accounts i both) j (blank false) q (All-set P accounts i both p k)

    first : (P : Account → Type 0) → All P accounts → P one
    first P k = all_at accounts i one one li at P k

    second : (P : Account → Type 0) → All P accounts → P two
    second P k = all_at accounts j two two lj at' P k

    past : (xs : List ℕ) → All (λ v. v < n) xs → (u : ℕ) → n ≤ u → times u xs ≡ 0
    past xs k u m =
        elim (cases_lt 0 (times u xs)) [
          | inl p ↦ let x = All_at_times (λ v. v < n) xs u k p in absurd (omega arith)
          | inr q ↦ omega arith
        ]

    disjoint : (u : ℕ) → times u taken + times u taken' ≤ 1
    disjoint u =
        elim (cases_lt u n) [
          | inl k ↦
              let t = total_two (λ a. times u a.taken) accounts i j refl li lj (λ e. apart (sym e)) in
              let o = b.marks.taken u k in
              let x : times u (get_or accounts i (blank false)).taken ≡ times u taken = ap (λ (a : Account). times u a.taken) at in
              let y : times u (get_or accounts j (blank false)).taken ≡ times u taken' = ap (λ (a : Account). times u a.taken) at' in
              elim (pick (r.mark u) 1 1 0) [ inl p ↦ let q = p.1 in omega arith | inr p ↦ let q = p.1 in omega arith ]
          | inr k ↦
              let x = past taken (first (λ a. All (λ v. v < n) a.taken) b.marks.range) u k in
              let y = past taken' (second (λ a. All (λ v. v < n) a.taken) b.marks.range) u k in
              omega arith
        ]

    join_kept : InBalance g r joined
    join_kept = record {
      marks = record {
        roots = b.marks.roots;
        known = all_both (λ a. All (IsRoot h r) a.known) b.marks.known
            (All-all_inserted (IsRoot h r) known known' (first (λ a. All (IsRoot h r) a.known) b.marks.known)
            (second (λ a. All (IsRoot h r) a.known) b.marks.known))
            (All-nil (IsRoot h r));
        taken = λ v k. same (λ a. times v a.taken) refl (times-all_inserted taken taken' disjoint v) ∙ b.marks.taken v k;
        range = all_both (λ a. All (λ v. v < n) a.taken) b.marks.range
            (All-all_inserted (λ v. v < n) taken taken' (first (λ a. All (λ v. v < n) a.taken) b.marks.range)
            (second (λ a. All (λ v. v < n) a.taken) b.marks.range))
            (All-nil (λ v. v < n));
        fixed = b.marks.fixed;
      };
      masses = record {
        root = λ q l e. let x = same (λ a. pending_weight h q a.stage) refl refl in let y = b.masses.root q l e in omega arith;
        other = b.masses.other;
        followed = λ q u l k e. let x = same (λ a. granted_weight h q a.stage) refl refl in let y = b.masses.followed q u l k e in omega arith;
        granted = λ q p. let x = same (λ a. granted_weight h q a.stage) refl refl in let z = same (λ a. grants q a.stage) refl refl in
            let y = b.masses.granted q (omega arith) in omega arith;
      };
      passes = record {
        held = all_both (λ a. IsHeld a.stage a) b.passes.held tt tt;
        ended = all_both (λ a. a.live ≡ false → a ≡ blank false) b.passes.ended (λ q. absurd (true≢false q)) (λ q. refl);
        made = let x = length-set (set accounts i both) j (blank false) in let y = length-set accounts i both in let z = b.passes.made in omega arith;
      };
    }

  is_idle-Idle : (stage : Stage) → is_idle stage ≡ true → stage ≡ Idle
  is_idle-Idle Idle k = refl
  is_idle-Idle (Refused v o) k = no k
  is_idle-Idle (Granted v o) k = no k

  idle_at : (a : Account) → a.live ≡ true → is_idle a.stage ≡ true → a ≡ staged a.taken a.known Idle
  idle_at a on k = staged_at a on ∙ ap (staged a.taken a.known) (is_idle-Idle a.stage k)

  module _ (x : ClusterEvent) (k : is_enabled g accounts x ≡ true) where
    abbrev mine : Account
    mine = account accounts (pass_of x)

    pub on_at : mine.live ≡ true
    on_at = (and_parts mine.live (may_step g x mine && others_agree accounts x) k).0

    pub may_at : may_step g x mine ≡ true
    may_at = (and_parts (may_step g x mine) (others_agree accounts x) (and_parts mine.live (may_step g x mine && others_agree accounts x) k).1).0

    pub others_at : others_agree accounts x ≡ true
    others_at = (and_parts (may_step g x mine) (others_agree accounts x) (and_parts mine.live (may_step g x mine && others_agree accounts x) k).1).1

    pub below_at : pass_of x < length accounts
    below_at = live_below accounts (pass_of x) on_at

    -- an event of one pass, once the account is known to be that of a live pass
    one_pass : (r' : Readings) → ((taken known : List ℕ) (stage : Stage) → get_or accounts (pass_of x) (blank false) ≡ staged taken known stage →
        may_step g x (staged taken known stage) ≡ true → Writes g r r' (word_of x (staged taken known stage))
        (write_of g x (staged taken known stage) (read r (word_of x (staged taken known stage)))) →
        InBalance g r' (slice_set accounts (pass_of x) (account_after g x (read r (word_of x (staged taken known stage))) (staged taken known stage)))) →
        Writes g r r' (word_of x mine) (write_of g x mine (read r (word_of x mine))) →
        InBalance g r' (slice_set accounts (pass_of x) (account_after g x (read r (word_of x mine)) mine))
    one_pass r' law w =
        let e = staged_at mine on_at in
        subst (λ (z : Account). InBalance g r' (slice_set accounts (pass_of x) (account_after g x (read r (word_of x z)) z))) (sym e)
        (law mine.taken mine.known mine.stage e
        (subst (λ (z : Account). may_step g x z ≡ true) e may_at)
        (subst (λ (z : Account). Writes g r r' (word_of x z) (write_of g x z (read r (word_of x z)))) e w))

  -- from a balance, every enabled event leads to a balance
  pub event_keeps : (r' : Readings) (x : ClusterEvent) → is_enabled g accounts x ≡ true → Writes g r r' (word_of x (account accounts (pass_of x)))
      (write_of g x (account accounts (pass_of x)) (read r (word_of x (account accounts (pass_of x))))) →
      InBalance g r' (accounts_after g accounts x (read r (word_of x (account accounts (pass_of x)))))
  event_keeps r' (Take i v) k w = one_pass (Take i v) k r' (λ taken known stage at m. take_law i (below_at (Take i v) k) taken known r' v stage at m) w
  event_keeps r' (Root i v) k w = one_pass (Root i v) k r' (λ taken known stage at m. root_law i (below_at (Root i v) k) taken known r' v stage at m) w
  event_keeps r' (Add i v o) k w = one_pass (Add i v o) k r' (λ taken known stage at m. add_law i (below_at (Add i v o) k) taken known r' v o stage at m) w
  event_keeps r' (TakeBack i) k w = one_pass (TakeBack i) k r' (λ taken known stage at m. take_back_law i (below_at (TakeBack i) k) taken known r' stage at
      m) w
  event_keeps r' (Follow i) k w = one_pass (Follow i) k r' (λ taken known stage at m. follow_law i (below_at (Follow i) k) taken known r' stage at m) w
  event_keeps r' (Peek i v) k w = one_pass (Peek i v) k r' (λ taken known stage at m. peek_law i (below_at (Peek i v) k) taken known r' v stage at m) w
  event_keeps r' (Split i) k w = balance_same g r r' (accounts ++ blank true ∷ []) (same_from_writes g r r' 0 (r.mark 0) w refl)
      (split_kept (ltb-true (length accounts) 64 (others_at (Split i) k)))
  event_keeps r' (Join i j) k w =
      let may = and_parts (is_idle (account accounts i).stage) (not (nat_eq i j)) (may_at (Join i j) k) in
      let other = and_parts (account accounts j).live (is_idle (account accounts j).stage) (others_at (Join i j) k) in
      let apart : i ≢ j = eqb-false i j (not-true (nat_eq i j) may.1) in
      let mine = idle_at (account accounts i) (on_at (Join i j) k) may.0 in
      let theirs = idle_at (account accounts j) other.0 other.1 in
      balance_same g r r' (slice_set (slice_set accounts i (joined_with (account accounts i) (account accounts j))) j (blank false))
      (same_from_writes g r r' 0 (r.mark 0) w refl)
      (subst (λ (z : Account). InBalance g r (slice_set (slice_set accounts i (joined_with z (account accounts j))) j (blank false))) (sym mine)
      (subst (λ (z : Account). InBalance g r (slice_set
      (slice_set accounts i (joined_with (staged (account accounts i).taken (account accounts i).known Idle)
      z)) j (blank false))) (sym theirs)
      (join_kept i j (below_at (Join i j) k) (live_below accounts j other.0) apart (account accounts i).taken (account accounts i).known
      (account accounts j).taken (account accounts j).known mine theirs)))

  -- where the word of an event is a mark that isn't decided, or is left as it was
  module _ (r' : Readings) where
    kept_same : Same g r r' → KeepsDecided g r r'
    kept_same e v q l f = e.mark v l ∙ f

    kept_mass : (o x : ℕ) → Writes g r r' (Mass o) x → KeepsDecided g r r'
    kept_mass o x w v q l f = w.mark v l ∙ f

  one_mark : (i v : ℕ) → i < length accounts → v < n → 0 < times v (account accounts i).taken → r.mark v < 2
  one_mark i v l lv has = let e = taken_mark accounts i (account accounts i) (account accounts i) l refl h r b.marks v lv has in omega arith

  follow_open : (i : ℕ) → i < length accounts → (stage : Stage) → (account accounts i).stage ≡ stage →
      may_step g (Follow i) (record (account accounts i) { stage = stage }) ≡ true → (r' : Readings) →
      Writes g r r' (word_of (Follow i) (record (account accounts i) { stage = stage }))
      (write_of g (Follow i) (record (account accounts i) { stage = stage })
      0) → KeepsDecided g r r'
  follow_open i l Idle e m r' w = no m
  follow_open i l (Refused v o) e m r' w = no m
  follow_open i l (Granted v o) e m r' w =
      let a = account accounts i in
      let held = all_at accounts i a a l refl (λ z. IsHeld z.stage z) b.passes.held in
      let mine : IsHeld (Granted v o) a = subst (λ z. IsHeld z a) e held in
      let lv = All_at_times (λ u. u < n) a.taken v (all_at accounts i a a l refl (λ z. All (λ u. u < n) z.taken) b.marks.range) mine.0 in
      mark_stays h r r' v (o + 2) lv w.mark (one_mark i v l lv mine.0)

  pub event_stays : (r' : Readings) (x : ClusterEvent) → is_enabled g accounts x ≡ true → Writes g r r' (word_of x (account accounts (pass_of x)))
      (write_of g x (account accounts (pass_of x)) (read r (word_of x (account accounts (pass_of x))))) → KeepsDecided g r r'
  event_stays r' (Take i v) k w = by (nat_eq (r.mark v) 0) refl
    where
      lv : v < n
      lv = ltb-true v n (and_parts (nat_lt v n) (is_free h v) (and_parts (is_idle (account accounts i).stage) (nat_lt v n && is_free h v)
          (may_at (Take i v) k)).1).0

      by : (z : Bool) → nat_eq (r.mark v) 0 ≡ z → KeepsDecided g r r'
      by true q = mark_stays h r r' v (if nat_eq (r.mark v) 0 then 1 else r.mark v) lv w.mark (let e = eqb-true (r.mark v) 0 q in omega arith)
      by false q = kept_same r' (same_from_writes g r r' v (if nat_eq (r.mark v) 0 then 1 else r.mark v) w (ap (λ z. if z then 1 else r.mark v) q))
  event_stays r' (Root i v) k w =
      let p = and_parts (is_idle (account accounts i).stage) (nat_lt v n && has_taken (account accounts i) v) (may_at (Root i v) k) in
      let q = and_parts (nat_lt v n) (has_taken (account accounts i) v) p.1 in
      let lv = ltb-true v n q.0 in
      mark_stays h r r' v (v + 2) lv w.mark (one_mark i v (below_at (Root i v) k) lv (ltb-true 0 (times v (account accounts i).taken) q.1))
  event_stays r' (Add i v o) k w = kept_mass r' o (r.mass o + weight_of h v) w
  event_stays r' (TakeBack i) k w = kept_mass r' _ _ w
  event_stays r' (Follow i) k w = follow_open i (below_at (Follow i) k) (account accounts i).stage refl (may_at (Follow i) k) r' w
  event_stays r' (Peek i v) k w = kept_same r' (same_from_writes g r r' v (r.mark v) w refl)
  event_stays r' (Split i) k w = kept_same r' (same_from_writes g r r' 0 (r.mark 0) w refl)
  event_stays r' (Join i j) k w = kept_same r' (same_from_writes g r r' 0 (r.mark 0) w refl)
