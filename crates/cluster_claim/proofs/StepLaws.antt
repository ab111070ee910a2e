-- What each step asks of the table: whatever the table is, the step keeps its rule and is its event.
use Rattle.std.proofs.Common.{◌≡◌, ℕ, ◌+◌, ◌-◌, ◌*◌, ◌%◌, ◌^◌, ◌<◌, ◌≤◌, inl, inr, Bool, true, false, not, ◌&&◌, [], ◌∷◌, ◌++◌, length, length-append}
use Rattle.std.proofs.Common.{length-set, slice_index, slice_set, nat_eq, nat_lt, if◌then◌else◌, All, refl, sym, ap, ◌∙◌, subst, arith}
use Rattle.std.proofs.Math.Nat.{mod-eq_of_lt}
use Rattle.std.proofs.lemmas.Nat.{mod-mul-add}
use Rattle.std.proofs.lemmas.List.{map-set, map-append, length-map, set-get_or}
use Rattle.std.proofs.lemmas.Bool.{and_parts, and_from, ltb-true, lt-ltb, ne_eqb}
use mathlib.Core.Option.{some}
use lib.ListN.{get_elem?}
use Rattle.atomic_table.proofs.Lists.{set_else}
use prog.Atomic.{either}
use Rattle.atomic_table.specs.Seated.{TableId}
use Rattle.atomic_table.specs.Table.{State, Me, Allows, Splits, Joins, keeps}
use Rattle.hg_defs.specs.Hypergraph.{Hyper, vertex_count, weight_of, is_free}
use Rattle.hg_defs.proofs.SumLaws.{weight_if-same, total-set, total_push, total_at-le}
use Rattle.cluster_core.specs.declared.account.Account.{Account}
use Rattle.cluster_core.specs.declared.account.Stage.TheVariants.{Idle, Refused, Granted}
use Rattle.cluster_core.specs.declared.events.ClusterEvent.{ClusterEvent}
use Rattle.cluster_core.specs.declared.events.ClusterEvent.TheVariants as event
use Rattle.cluster_core.specs.declared.events.ClusterEvent.TheVariants.{Take, Root, Add, TakeBack, Follow, Peek, Split}
use Rattle.cluster_core.specs.State.{Setup, setup_of, Writes, Mark, Mass, blank, account}
use Rattle.cluster_core.specs.Events.{joined_with, is_idle, is_added, is_granted, root_at, vertex_at, may_step, is_enabled, has_taken, knows}
use Rattle.cluster_core.specs.Balance.{InBalance, IsRoot, IsHeld, pending_weight}
use Rattle.cluster_core.proofs.TimesLaws.{all_at, total_at, All_at_times, pick}
use Rattle.cluster_core.proofs.PassLaws.{untaken}
use Rattle.cluster_core.proofs.StateFacts.{mass_small}
use Rattle.cluster_core.proofs.Law.{event_keeps}
use Rattle.cluster_claim.specs.declared.board.Key.{Key}
use Rattle.cluster_claim.specs.declared.board.View.{View}
use Rattle.cluster_claim.specs.declared.pass.Pass.{Pass}
use Rattle.cluster_claim.specs.Board.{IsKept, IsBoard, setup_at, readings_of, accounts_of, view}
use Rattle.cluster_claim.specs.Steps.{done, IsDone, IsPass, CanMake}
use Rattle.cluster_claim.proofs.SeatLaws.{at_get, at_below, seat_below, account_below, account_here, writes_mark, writes_mass, event_kept}

either_if : (b : Bool) (x y : ℕ) → either b x y ≡ (if b then x else y)
either_if true x y = refl
either_if false x y = refl

module _ (g : Setup) (workers slots id : ℕ) (me : Me (Unit {0}) View) (live : me.0.account.live ≡ true) where
  abbrev n : ℕ
  n = vertex_count g.graph

  abbrev mine : Account
  mine = me.0.account

  -- a mark that was found tells a root
  told_root : (s : State (Unit {0}) View) → IsKept g workers s → (u : ℕ) → u < n → 2 ≤ slice_index s.words u → slice_index s.words u - 2 < n
  told_root s k u l t = (k.balance.marks.roots u (slice_index s.words u - 2) l (omega arith)).vertex

  pub take_allowed : (u : ℕ) → may_step g (Take id u) mine ≡ true → Allows (IsKept g workers) slots id me u (λ m. either (nat_eq m 0) 1 m)
      (IsDone g (Take id u) me)
  take_allowed u may s k homes at fits =
      let l = vertex in (
        done g (Take id u) (slice_index s.words u) me.0,
        keeps,
        tt,
        event_kept g workers s k id me.0 at (Take id u) refl (λ f. refl) refl live may u
            (either (nat_eq (slice_index s.words u) 0) 1 (slice_index s.words u))
            (slice_index s.words u) refl
            (writes_mark g s.words k.wide u (either (nat_eq (slice_index s.words u) 0) 1 (slice_index s.words u)) l)
            (either_if (nat_eq (slice_index s.words u) 0) 1 (slice_index s.words u)),
        (
          refl,
          (
            told_root s k u l,
            λ z. untaken (accounts_of s.views) id mine mine (account_below g workers s k id me.0 at)
                (account_here g workers s k id me.0 at) g.graph (readings_of n s.words) k.balance.marks u l z,
          ),
        ),
      )
    where
      vertex : u < n
      vertex = ltb-true u n (and_parts (nat_lt u n) (is_free g.graph u) (and_parts (is_idle mine.stage) (nat_lt u n && is_free g.graph u) may).1).0

  pub peek_allowed : (u : ℕ) → may_step g (Peek id u) mine ≡ true → Allows (IsKept g workers) slots id me u (λ m. m) (IsDone g (Peek id u) me)
  peek_allowed u may s k homes at fits =
      let l = ltb-true u n may in (
        done g (Peek id u) (slice_index s.words u) me.0,
        keeps,
        tt,
        event_kept g workers s k id me.0 at (Peek id u) refl (λ f. refl) refl live may u (slice_index s.words u) (slice_index s.words u) refl
            (writes_mark g s.words k.wide u (slice_index s.words u) l)
            refl,
        (refl, told_root s k u l),
      )

  pub root_allowed : (u : ℕ) → may_step g (Root id u) mine ≡ true → Allows (IsKept g workers) slots id me u (λ _. u + 2)
      (λ _. IsDone g (Root id u) me (u + 2))
  root_allowed u may s k homes at fits =
      let l = ltb-true u n (and_parts (nat_lt u n) (has_taken mine u) (and_parts (is_idle mine.stage) (nat_lt u n && has_taken mine u) may).1).0 in (
        done g (Root id u) (slice_index s.words u) me.0,
        keeps,
        tt,
        event_kept g workers s k id me.0 at (Root id u) refl (λ f. refl) refl live may u (u + 2) (slice_index s.words u) refl
            (writes_mark g s.words k.wide u (u + 2) l)
            refl,
        (refl, tt),
      )

  pub add_allowed : (u q w : ℕ) → may_step g (Add id u q) mine ≡ true → w ≡ weight_of g.graph u → w < 2 ^ 54 → Allows (IsKept g workers) slots id me (n + q)
      (λ m. (m + w) % 2 ^ 64) (IsDone g (Add id u q) me)
  add_allowed u q w may e small s k homes at fits =
      let l = root in
      let m : ℕ = slice_index s.words (n + q) in
      let bound : m ≤ 66 * 2 ^ 54 = mass_small g (readings_of n s.words) (accounts_of s.views) k.bounds k.balance q l in
      let fit : m + w < 2 ^ 64 = omega arith in (
        done g (Add id u q) m me.0,
        keeps,
        tt,
        event_kept g workers s k id me.0 at (Add id u q) refl (λ f. refl) refl live may (n + q) ((m + w) % 2 ^ 64) m refl
            (writes_mass g s.words k.wide q ((m + w) % 2 ^ 64) l)
            (mod-eq_of_lt fit ∙ ap (λ z. m + z) e),
        (refl, subst (λ z. m + z < 2 ^ 64) e fit),
      )
    where
      root : q < n
      root =
          let p = and_parts (is_idle mine.stage) (nat_lt u n && (nat_lt q n && (has_taken mine u && knows mine q))) may in
          let t = and_parts (nat_lt u n) (nat_lt q n && (has_taken mine u && knows mine q)) p.1 in
          ltb-true q n (and_parts (nat_lt q n) (has_taken mine u && knows mine q) t.1).0

  -- the weight that stands at a stage is within the mass of its root
  stands : (s : State (Unit {0}) View) (k : IsKept g workers s) (at : get_elem? s.views id ≡ some me.0) (u q : ℕ) → mine.stage ≡ Refused u q →
      weight_of g.graph u ≤ slice_index s.words (n + q)
  stands s k at u q e =
      let accounts = accounts_of s.views in
      let l = account_below g workers s k id me.0 at in
      let here = account_here g workers s k id me.0 at in
      let held : IsHeld (Refused u q) mine = subst (λ z. IsHeld z mine) e (all_at accounts id mine mine l here (λ z. IsHeld z.stage z)
      k.balance.passes.held) in
      let known = all_at accounts id mine mine l here (λ z. All (IsRoot g.graph (readings_of n s.words)) z.known) k.balance.marks.known in
      let root = All_at_times (IsRoot g.graph (readings_of n s.words)) mine.known q known held.1 in
      let t = total_at accounts id mine mine l here (λ z. pending_weight g.graph q z.stage) in
      let p = ap (pending_weight g.graph q) e in
      let o = weight_if-same q q (weight_of g.graph u) refl in
      let m = k.balance.masses.root q root.vertex root.mark in
      omega arith

  pub take_back_allowed : (u q w : ℕ) → mine.stage ≡ Refused u q → q < n → w ≡ weight_of g.graph u → w < 2 ^ 54 → Allows (IsKept g workers) slots id me
      (n + q)
      (λ m. (m + (2 ^ 64 - w)) % 2 ^ 64) (IsDone g (TakeBack id) me)
  take_back_allowed u q w stage l e small s k homes at fits =
      let m : ℕ = slice_index s.words (n + q) in
      let within = stands s k at u q stage in
      let y : ℕ = (m + (2 ^ 64 - w)) % 2 ^ 64 in
      let around : m + (2 ^ 64 - w) ≡ 1 * 2 ^ 64 + (m - w) = omega arith in
      let less : y ≡ m - w = ap (λ z. z % 2 ^ 64) around ∙ mod-mul-add 1 (2 ^ 64) (m - w) (omega arith) in (
        done g (TakeBack id) m me.0,
        keeps,
        tt,
        event_kept g workers s k id me.0 at (TakeBack id) refl (λ f. refl) refl live (ap is_added stage) (n + q) y m
            (ap (λ z. slice_index s.words (n + z)) (sym (ap root_at stage)))
            (subst (λ z. Writes g (readings_of n s.words) (readings_of n (slice_set s.words (n + q) y)) (Mass z) y) (sym (ap root_at stage))
            (writes_mass g s.words k.wide q y l))
            (less ∙ ap (λ z. m - z) (e ∙ ap (weight_of g.graph) (sym (ap vertex_at stage)))),
        (refl, tt),
      )

  pub follow_allowed : (u q : ℕ) → mine.stage ≡ Granted u q → u < n → Allows (IsKept g workers) slots id me u (λ _. q + 2)
      (λ _. IsDone g (Follow id) me (q + 2))
  follow_allowed u q stage l s k homes at fits = (
    done g (Follow id) (slice_index s.words u) me.0,
    keeps,
    tt,
    event_kept g workers s k id me.0 at (Follow id) refl (λ f. refl) refl live (ap is_granted stage) u (q + 2) (slice_index s.words u)
        (ap (slice_index s.words) (sym (ap vertex_at stage)))
        (subst (λ z. Writes g (readings_of n s.words) (readings_of n (slice_set s.words u (q + 2))) (Mark z) (q + 2)) (sym (ap vertex_at stage))
        (writes_mark g s.words k.wide u (q + 2) l))
        (ap (λ z. z + 2) (sym (ap root_at stage))),
    (refl, tt),
  )

-- another pass is made
pub split_allowed : (g : Setup) (workers id : ℕ) (v : View) → v.account.live ≡ true → v.account.stage ≡ Idle → 0 < v.spare → Splits (IsKept g workers) id v
    (view (v.spare - 1) v.account) (view 0 (blank true))
split_allowed g workers id v live idle spare s k at = record {
  wide = k.wide;
  some = k.some;
  bounds = k.bounds;
  balance = subst (InBalance g (readings_of (vertex_count g.graph) s.words)) (sym longer) after;
  made =
      let t = total-set (λ (z : View). z.spare) s.views id (view (v.spare - 1) v.account) v (seat_below g workers s k id v at) in
      let o = ap (λ (z : View). z.spare) (at_get s.views id v v at) in
      let p = total_push (λ (z : View). z.spare) (slice_set s.views id (view (v.spare - 1) v.account)) (view 0 (blank true)) in
      let m = k.made in
      let c = length-append (slice_set s.views id (view (v.spare - 1) v.account)) (view 0 (blank true) ∷ []) in
      let d = length-set s.views id (view (v.spare - 1) v.account) in
      omega arith;
  few = k.few;
}
  where
    here : account (accounts_of s.views) id ≡ v.account
    here = account_here g workers s k id v at

    -- the account of the seat is as it was, and one of nothing comes behind
    longer : accounts_of (slice_set s.views id (view (v.spare - 1) v.account) ++ view 0 (blank true) ∷ []) ≡ accounts_of s.views ++ blank true ∷ []
    longer =
        map-append (λ (z : View). z.account) (slice_set s.views id (view (v.spare - 1) v.account)) (view 0 (blank true) ∷ [])
        ∙ ap (λ xs. xs ++ blank true ∷ [])
        (map-set (λ (z : View). z.account) s.views id (view (v.spare - 1) v.account)
        ∙ ap (slice_set (accounts_of s.views) id) (sym here)
        ∙ set-get_or (accounts_of s.views) id (blank false))

    room : length (accounts_of s.views) < 64
    room =
        let o = ap (λ (z : View). z.spare) (at_get s.views id v v at) in
        let t = total_at-le (λ (z : View). z.spare) s.views id v (seat_below g workers s k id v at) in
        let l = length-map s.views (λ (z : View). z.account) in
        let m = k.made in
        let f = k.few in
        omega arith

    enabled : is_enabled g (accounts_of s.views) (Split id) ≡ true
    enabled =
        and_from (account (accounts_of s.views) id).live (is_idle (account (accounts_of s.views) id).stage && nat_lt (length (accounts_of s.views)) 64)
        (ap (λ (a : Account). a.live) here ∙ live)
        (and_from (is_idle (account (accounts_of s.views) id).stage) (nat_lt (length (accounts_of s.views)) 64)
        (ap (λ (a : Account). is_idle a.stage) here ∙ ap is_idle idle)
        (lt-ltb (length (accounts_of s.views)) 64 room))

    unwritten : Writes g (readings_of (vertex_count g.graph) s.words) (readings_of (vertex_count g.graph) s.words) (Mark 0) (slice_index s.words 0)
    unwritten = record {
      mark = λ u l. elim (pick 0 u (slice_index s.words 0) (slice_index s.words u)) [ inl p ↦ sym (p.1 ∙ ap (slice_index s.words) p.0) | inr p ↦ sym p.1 ];
      mass = λ u l. refl;
    }

    after : InBalance g (readings_of (vertex_count g.graph) s.words) (accounts_of s.views ++ blank true ∷ [])
    after = event_keeps g (readings_of (vertex_count g.graph) s.words) (accounts_of s.views) k.balance (readings_of (vertex_count g.graph) s.words)
        (Split id)
        enabled unwritten

-- what each step asks, over the table of a hypergraph and a cap
module _ (key : Key) (tid : TableId) (h : Hyper) (cap : ℕ) (b : IsBoard key tid h cap) (d : Setup) (x : ClusterEvent) (same : d ≡ setup_of h cap) where
  abbrev here : Setup
  here = setup_of h cap

  key_setup : setup_at key ≡ here
  key_setup = ap (λ z. setup_of z key.cap) b.same_graph ∙ ap (setup_of h) b.same_cap

  carry : (id place : ℕ) (me : Me (Unit {0}) View) (f : ℕ → ℕ) (T : Setup → ClusterEvent → ℕ → Me (Unit {0}) View → Type 0) (y : ClusterEvent) → x ≡ y →
      Allows (IsKept here key.workers) tid.slots id me place f (T here y) → Allows (IsKept (setup_at key) key.workers) tid.slots id me place f (T d x)
  carry id place me f T y e a =
      subst (λ z. Allows (IsKept z key.workers) tid.slots id me place f (T d x)) (sym key_setup)
      (subst (λ z. Allows (IsKept here key.workers) tid.slots id me place f (T z x)) (sym same)
      (subst (λ z. Allows (IsKept here key.workers) tid.slots id me place f (T here z)) (sym e) a))

  module _ (p : Pass) where
    abbrev me : Me (Unit {0}) View
    me = p.seat.me

    abbrev id : ℕ
    id = p.seat.id

    -- a step on a word
    abbrev Asks : ℕ → (ℕ → ℕ) → (ℕ → Me (Unit {0}) View → Type 0) → Type 0
    Asks place f T = (p.seat.table_id ≡ tid) × (place < tid.words) × Allows (IsKept (setup_at key) key.workers) tid.slots id me place f T

    pub take_asks : (u : ℕ) → x ≡ Take id u → CanMake here tid (Take id u) p → u < vertex_count h → Asks u (λ m. either (nat_eq m 0) 1 m) (IsDone d x me)
    take_asks u e c l = (
      c.table,
      (let w = b.words in omega arith),
      carry id u me (λ m. either (nat_eq m 0) 1 m) (λ z y. IsDone z y me) (Take id u) e
          (take_allowed here key.workers tid.slots id me c.live u c.may),
    )

    pub peek_asks : (u : ℕ) → x ≡ Peek id u → CanMake here tid (Peek id u) p → u < vertex_count h → Asks u (λ m. m) (IsDone d x me)
    peek_asks u e c l = (
      c.table,
      (let w = b.words in omega arith),
      carry id u me (λ m. m) (λ z y. IsDone z y me) (Peek id u) e
          (peek_allowed here key.workers tid.slots id me c.live u c.may),
    )

    pub root_asks : (u o : ℕ) → o ≡ u → x ≡ Root id u → CanMake here tid (Root id u) p → u < vertex_count h →
        Asks u (λ _. o + 2) (λ _. IsDone d x me (o + 2))
    root_asks u o w e c l = subst (λ z. Asks u (λ _. z + 2) (λ _. IsDone d x me (z + 2))) (sym w) (
      c.table,
      (let w = b.words in omega arith),
      carry id u me (λ _. u + 2) (λ z y _. IsDone z y me (u + 2)) (Root id u) e (root_allowed here key.workers tid.slots id me c.live u c.may),
    )

    pub add_asks : (u q w place : ℕ) → x ≡ Add id u q → CanMake here tid (Add id u q) p → q < vertex_count h → w ≡ weight_of h u → w < 2 ^ 54 →
        place ≡ vertex_count h + q → Asks place (λ m. (m + w) % 2 ^ 64) (IsDone d x me)
    add_asks u q w place e c l ew small at = (
      c.table,
      (let z = b.words in omega arith),
      subst (λ z. Allows (IsKept (setup_at key) key.workers) tid.slots id me z (λ m. (m + w) % 2 ^ 64) (IsDone d x me)) (sym at)
          (carry id (vertex_count h + q) me (λ m. (m + w) % 2 ^ 64) (λ z y. IsDone z y me) (Add id u q) e
          (add_allowed here key.workers tid.slots id me c.live
          u q w c.may ew small)),
    )

    pub take_back_asks : (u q w place : ℕ) → x ≡ TakeBack id → IsPass tid (Refused u q) p → q < vertex_count h → w ≡ weight_of h u → w < 2 ^ 54 →
        place ≡ vertex_count h + q → Asks place (λ m. (m + (2 ^ 64 - w)) % 2 ^ 64) (IsDone d x me)
    take_back_asks u q w place e c l ew small at = (
      c.table,
      (let z = b.words in omega arith),
      subst (λ z. Allows (IsKept (setup_at key) key.workers) tid.slots id me z (λ m. (m + (2 ^ 64 - w)) % 2 ^ 64) (IsDone d x me)) (sym at)
          (carry id (vertex_count h + q) me (λ m. (m + (2 ^ 64 - w)) % 2 ^ 64) (λ z y. IsDone z y me) (TakeBack id) e
          (take_back_allowed here key.workers tid.slots id me c.live u q w c.stands l ew small)),
    )

    pub follow_asks : (u q o : ℕ) → o ≡ q → x ≡ Follow id → IsPass tid (Granted u q) p → u < vertex_count h →
        Asks u (λ _. o + 2) (λ _. IsDone d x me (o + 2))
    follow_asks u q o w e c l = subst (λ z. Asks u (λ _. z + 2) (λ _. IsDone d x me (z + 2))) (sym w) (
      c.table,
      (let w = b.words in omega arith),
      carry id u me (λ _. q + 2) (λ z y _. IsDone z y me (q + 2)) (Follow id) e (follow_allowed here key.workers tid.slots id me c.live u q c.stands l),
    )

-- what the vertex and the root of an event have to be
pub take_vertex : (g : Setup) (i u : ℕ) (a : Account) → may_step g (Take i u) a ≡ true → u < vertex_count g.graph
take_vertex g i u a may = ltb-true u (vertex_count g.graph) (and_parts (nat_lt u (vertex_count g.graph)) (is_free g.graph u)
    (and_parts (is_idle a.stage) (nat_lt u (vertex_count g.graph) && is_free g.graph u) may).1).0

pub root_vertex : (g : Setup) (i u : ℕ) (a : Account) → may_step g (Root i u) a ≡ true → u < vertex_count g.graph
root_vertex g i u a may = ltb-true u (vertex_count g.graph) (and_parts (nat_lt u (vertex_count g.graph)) (has_taken a u)
    (and_parts (is_idle a.stage) (nat_lt u (vertex_count g.graph) && has_taken a u) may).1).0

pub add_parts : (g : Setup) (i u q : ℕ) (a : Account) → may_step g (Add i u q) a ≡ true → (u < vertex_count g.graph) × (q < vertex_count g.graph)
add_parts g i u q a may =
    let n = vertex_count g.graph in
    let p = and_parts (is_idle a.stage) (nat_lt u n && (nat_lt q n && (has_taken a u && knows a q))) may in
    let t = and_parts (nat_lt u n) (nat_lt q n && (has_taken a u && knows a q)) p.1 in
    (ltb-true u n t.0, ltb-true q n (and_parts (nat_lt q n) (has_taken a u && knows a q) t.1).0)

pub split_asks : (key : Key) (tid : TableId) (h : Hyper) (cap : ℕ) (b : IsBoard key tid h cap) (p : Pass) → IsPass tid Idle p → 0 < p.seat.me.0.spare →
    (p.seat.table_id ≡ tid) × (0 < tid.words) × Splits (IsKept (setup_at key) key.workers) p.seat.id p.seat.me.0
    (view (p.seat.me.0.spare - 1) p.seat.me.0.account) (view 0 (blank true))
split_asks key tid h cap b p c spare = (
  c.table,
  (let w = b.words in let s = b.some in omega arith),
  split_allowed (setup_at key) key.workers p.seat.id
      p.seat.me.0 c.live c.stands spare,
)

-- a pass takes over what another one has
pub join_allowed : (g : Setup) (workers id other : ℕ) (v w : View) → v.account.live ≡ true → v.account.stage ≡ Idle → w.account.live ≡ true →
    w.account.stage ≡ Idle → Joins (IsKept g workers) id v other w (view (v.spare + w.spare) (joined_with v.account w.account)) (view 0 (blank false))
join_allowed g workers id other v w live idle live' idle' s k at apart at' = record {
  wide = k.wide;
  some = k.some;
  bounds = k.bounds;
  balance = subst (InBalance g (readings_of (vertex_count g.graph) s.words)) (sym same) after;
  made =
      let t = total-set (λ (z : View). z.spare) s.views id (view (v.spare + w.spare) (joined_with v.account w.account)) v
      (seat_below g workers s k id v at) in
      let o = ap (λ (z : View). z.spare) (at_get s.views id v v at) in
      let t' = total-set (λ (z : View). z.spare) (slice_set s.views id (view (v.spare + w.spare) (joined_with v.account w.account))) other
      (view 0 (blank false)) w (at_below (slice_set s.views id (view (v.spare + w.spare) (joined_with v.account w.account))) other w at') in
      let o' = ap (λ (z : View). z.spare) (at_get (slice_set s.views id (view (v.spare + w.spare) (joined_with v.account w.account))) other w w at') in
      let c = length-set s.views id (view (v.spare + w.spare) (joined_with v.account w.account)) in
      let d = length-set (slice_set s.views id (view (v.spare + w.spare) (joined_with v.account w.account))) other (view 0 (blank false)) in
      let m = k.made in
      omega arith;
  few = k.few;
}
  where
    here : account (accounts_of s.views) id ≡ v.account
    here = account_here g workers s k id v at

    there : account (accounts_of s.views) other ≡ w.account
    there = account_here g workers s k other w (sym (set_else s.views id other (view (v.spare + w.spare) (joined_with v.account w.account)) apart) ∙ at')

    -- the accounts after a Join
    same : accounts_of (slice_set (slice_set s.views id (view (v.spare + w.spare) (joined_with v.account w.account))) other (view 0 (blank false))) ≡
        slice_set
        (slice_set (accounts_of s.views) id (joined_with (account (accounts_of s.views) id) (account (accounts_of s.views) other))) other (blank false)
    same =
        map-set (λ (z : View). z.account) (slice_set s.views id (view (v.spare + w.spare) (joined_with v.account w.account))) other (view 0 (blank false))
        ∙ ap (λ xs. slice_set xs other (blank false)) (map-set (λ (z : View). z.account) s.views id
        (view (v.spare + w.spare) (joined_with v.account w.account)))
        ∙ ap (λ a. slice_set (slice_set (accounts_of s.views) id a) other (blank false))
        (ap (λ a. joined_with a w.account) (sym here) ∙ ap (joined_with (account (accounts_of s.views) id)) (sym there))

    unlike : nat_eq id other ≡ false
    unlike = ne_eqb id other (λ e. apart (sym e))

    enabled : is_enabled g (accounts_of s.views) (event.Join id other) ≡ true
    enabled =
        and_from (account (accounts_of s.views) id).live ((is_idle (account (accounts_of s.views) id).stage && not (nat_eq id other)) &&
        ((account (accounts_of s.views) other).live && is_idle (account (accounts_of s.views) other).stage))
        (ap (λ (a : Account). a.live) here ∙ live)
        (and_from (is_idle (account (accounts_of s.views) id).stage && not (nat_eq id other)) ((account (accounts_of s.views) other).live &&
        is_idle (account (accounts_of s.views) other).stage)
        (and_from (is_idle (account (accounts_of s.views) id).stage) (not (nat_eq id other)) (ap (λ (a : Account). is_idle a.stage) here ∙ ap is_idle idle)
        (ap not unlike))
        (and_from (account (accounts_of s.views) other).live (is_idle (account (accounts_of s.views) other).stage) (ap (λ (a : Account). a.live) there ∙
        live')
        (ap (λ (a : Account). is_idle a.stage) there ∙ ap is_idle idle')))

    unwritten : Writes g (readings_of (vertex_count g.graph) s.words) (readings_of (vertex_count g.graph) s.words) (Mark 0) (slice_index s.words 0)
    unwritten = record {
      mark = λ u l. elim (pick 0 u (slice_index s.words 0) (slice_index s.words u)) [ inl p ↦ sym (p.1 ∙ ap (slice_index s.words) p.0) | inr p ↦ sym p.1 ];
      mass = λ u l. refl;
    }

    after : InBalance g (readings_of (vertex_count g.graph) s.words)
        (slice_set (slice_set (accounts_of s.views) id (joined_with (account (accounts_of s.views) id) (account (accounts_of s.views) other))) other
        (blank false))
    after = event_keeps g (readings_of (vertex_count g.graph) s.words) (accounts_of s.views) k.balance (readings_of (vertex_count g.graph) s.words)
        (event.Join id other) enabled unwritten

pub join_asks : (key : Key) (tid : TableId) (h : Hyper) (cap : ℕ) (b : IsBoard key tid h cap) (p q : Pass) → IsPass tid Idle p → IsPass tid Idle q →
    (p.seat.table_id ≡ tid) × (q.seat.table_id ≡ tid) × (q.seat.me.1 ≡ []) × (0 < tid.words) × Joins (IsKept (setup_at key) key.workers) p.seat.id
    p.seat.me.0
    q.seat.id q.seat.me.0 (view (p.seat.me.0.spare + q.seat.me.0.spare) (joined_with p.seat.me.0.account q.seat.me.0.account)) (view 0 (blank false))
join_asks key tid h cap b p q c d = (
  c.table,
  d.table,
  d.slots,
  (let w = b.words in let s = b.some in omega arith),
  join_allowed (setup_at key) key.workers
      p.seat.id q.seat.id p.seat.me.0 q.seat.me.0 c.live c.stands d.live d.stands,
)
