-- Every enabled event keeps the books in balance, and its word exists.
use Rattle.std.proofs.Common.{◌≡◌, ℕ, ◌+◌, ◌-◌, ◌^◌, ◌<◌, ◌≤◌, ◌≢◌, inl, inr, Bool, true, false, not, ◌&&◌, List, [], ◌∷◌, ◌++◌, map, length, get_or}
use Rattle.std.proofs.Common.{slice_index, slice_set, nat_eq, nat_lt, nat_le, if◌then◌else◌, ℤ, refl, sym, ap, ◌∙◌, subst, arith, nat_cmp}
use Rattle.std.proofs.lemmas.Bool.{eqb-true, eqb-false, ltb-true, leb-true, lt-ltb, not-true, and_parts, and_from, cases_lt}
use Rattle.std.proofs.lemmas.List.{get_or_past, set-get_or}
use Rattle.std.specs.BTreeSet.{insert_key}
use Rattle.hg_defs.specs.declared.moves.Move.{Move}
use Rattle.hg_defs.specs.Hypergraph.{vertex_count, net_count, weight_of, is_free}
use Rattle.hg_defs.specs.Partition.{block_of}
use Rattle.hg_defs.specs.Incidence.{nets_of}
use Rattle.hg_defs.specs.Sums.{total}
use Rattle.hg_defs.proofs.SumLaws.{weight_if, weight_if-same}
use Rattle.move_core.specs.declared.account.Account.{Account}
use Rattle.move_core.specs.declared.account.Owed.{Owed}
use Rattle.move_core.specs.declared.account.Owed.TheVariants.{Nothing, Up, Down}
use Rattle.move_core.specs.declared.account.Stage.{Stage}
use Rattle.move_core.specs.declared.account.Stage.TheVariants.{Idle, Refused, Granted, Moving}
use Rattle.move_core.specs.declared.events.Event.{Event}
use Rattle.move_core.specs.declared.events.Event.TheVariants.{Claim, Unclaim, Reserve, TakeBack, Draw, Name, Raise, Widen, Lower}
use Rattle.move_core.specs.declared.events.Event.TheVariants.{Narrow, GiveBack, Seed, Peek, Split, Join}
use Rattle.move_core.specs.declared.events.Word.{Word}
use Rattle.move_core.specs.declared.events.Word.TheVariants as word
use Rattle.move_core.specs.State.{Setup, Readings, read, account_in, blank, times}
use Rattle.move_core.specs.Events.{pass_of, word_of, write_of, account_after, may_step, others_agree_for, is_enabled_for, word_for, found_for, write_for}
use Rattle.move_core.specs.Events.{removed_by, removed_for, accounts_after_for, WritesWord, is_word, first_word, joined_with, widen_gain, narrow_gain}
use Rattle.move_core.specs.Stages.{vertex_at, is_idle, owes_nothing, owes_up, owes_down}
use Rattle.move_core.specs.Balance.{InBalance, IsSetup, IsStageMove, IsInStep, IsOwing, stage_vertices, reserved_weight}
use Rattle.move_core.proofs.Words.{WordsAfter, words_after}
use Rattle.move_core.proofs.StageCases.{no, on_idle, on_reserved, on_granted, on_moving, on_nothing, on_up, on_down}
use Rattle.move_core.proofs.TimesLaws.{all_at}
use Rattle.move_core.proofs.NetLaws.{net_at-below}
use Rattle.move_core.proofs.LoadLaws.{load_reserved, load_leaving}
use Rattle.move_core.proofs.SpreadLaws.{spread_positive}
use Rattle.move_core.proofs.KeptLaws.{same_from_write, balance_same, stage_carried}
use Rattle.move_core.proofs.StageEvents.{staged, reserve_granted, reserve_refused, take_back_refused, take_back_granted, draw_kept, name_kept}
use Rattle.move_core.proofs.CountEvents.{raise_kept, lower_kept, lower_found}
use Rattle.move_core.proofs.SpreadEvents.{widen_kept, narrow_kept}
use Rattle.move_core.proofs.MoveEvents.{give_back_kept}
use Rattle.move_core.proofs.ClaimEvents.{claim_taken, claim_left, unclaim_kept, seed_kept}
use Rattle.move_core.proofs.PassEvents.{split_kept, join_kept}

-- an account is one of a live pass at a stage
pub staged_at : (a : Account) → a.live ≡ true → a ≡ staged a.held a.moves a.numbers a.seeds a.gain a.stage
staged_at a on = ap (λ z. record { live = z; held = a.held; stage = a.stage; moves = a.moves; numbers = a.numbers; seeds = a.seeds; gain = a.gain }) on

-- a pass that lives has a place among the accounts
pub live_below : (accounts : List Account) (i : ℕ) → (account_in accounts i).live ≡ true → i < length accounts
live_below accounts i on =
    elim (cases_lt i (length accounts)) [
      | inl l ↦ l
      | inr m ↦ no (sym (ap (λ (a : Account). a.live) (get_or_past accounts i (blank false) m)) ∙ on)
    ]

-- what an enabled event tells of its pass and of the others
pub record IsAllowed (g : Setup) (accounts : List Account) (x : Event) : Type 0 where
  pub live : (account_in accounts (pass_of x)).live ≡ true
  pub place : pass_of x < length accounts
  pub step : may_step g x (account_in accounts (pass_of x)) ≡ true
  pub others : others_agree_for accounts x ≡ true

pub allowed : (g : Setup) (accounts : List Account) (x : Event) → is_enabled_for g accounts x ≡ true → IsAllowed g accounts x
allowed g accounts x h =
    let a = account_in accounts (pass_of x) in
    let p = and_parts a.live (may_step g x a && others_agree_for accounts x) h in
    let q = and_parts (may_step g x a) (others_agree_for accounts x) p.1 in
    record { live = p.0; place = live_below accounts (pass_of x) p.0; step = q.0; others = q.1 }

first_word-is_word : (g : Setup) → is_word g (first_word g) ≡ true
first_word-is_word g = by (nat_lt 0 (vertex_count g.graph)) refl
  where
    by : (z : Bool) → nat_lt 0 (vertex_count g.graph) ≡ z → is_word g (if z then word.Claim 0 else word.Next) ≡ true
    by true q = q
    by false q = refl

idle_at : (a : Account) → a.live ≡ true → is_idle a.stage ≡ true → a ≡ staged a.held a.moves a.numbers a.seeds a.gain Idle
idle_at a on h = staged_at a on ∙ ap (staged a.held a.moves a.numbers a.seeds a.gain) (on_idle (λ stage. stage ≡ Idle) refl a.stage h)

module _ (g : Setup) (ok : IsSetup g) (r : Readings) (accounts : List Account) (b : InBalance g r accounts) where
  -- what an event of a pass with this account owes: its word exists, it takes no more from it than it finds, and the
  -- books are in balance afterwards
  abbrev Kept : Event → Account → Type 0
  Kept x a = (is_word g (word_of g x a) ≡ true) × (removed_by g x a ≤ read r (word_of g x a))
      × ((r' : Readings) → WordsAfter g r r' (word_of g x a) (write_of g x a (read r (word_of g x a)))
      → InBalance g r' (slice_set accounts (pass_of x) (account_after g x (read r (word_of g x a)) a)))

  -- the law of an event, where the pass is at a stage
  abbrev LawAt : Event → List ℕ → List Move → List ℕ → ℕ → ℤ → Stage → Type 0
  LawAt x held moves numbers seeds gain stage = get_or accounts (pass_of x) (blank false) ≡ staged held moves numbers seeds gain stage
      → Kept x (staged held moves numbers seeds gain stage)

  abbrev LawOf : Event → Type 0
  LawOf x = pass_of x < length accounts → (held : List ℕ) (moves : List Move) (numbers : List ℕ) (seeds : ℕ) (gain : ℤ) (stage : Stage)
      → may_step g x (staged held moves numbers seeds gain stage) ≡ true → LawAt x held moves numbers seeds gain stage

  module _ (i : ℕ) (l : i < length accounts) (a : Account) (at : get_or accounts i (blank false) ≡ a) where
    move_here : IsStageMove g a.stage
    move_here = all_at accounts i a a l at (λ x. IsStageMove g x.stage) b.moves.stages

    step_here : IsInStep g.graph a.stage
    step_here = all_at accounts i a a l at (λ x. IsInStep g.graph x.stage) b.counts.steps

    owing_here : IsOwing a.stage
    owing_here = all_at accounts i a a l at (λ x. IsOwing x.stage) b.spreads.owed

    -- the weight at a stage stands in the load, and so does that of a vertex that has still to leave
    reserved_least : (v to : ℕ) → vertex_at a.stage ≡ v → reserved_weight g.graph to a.stage ≡ weight_if to to (weight_of g.graph v) → to < g.blocks
        → weight_of g.graph v ≤ r.load to
    reserved_least v to e f k =
        let x = load_reserved g r accounts b.claims b.moves b.loads (let n = ok.opening.vertices in omega arith) i a l at to k in
        let y = weight_if-same to to (weight_of g.graph v) refl in
        omega arith

    leaving_least : (v from : ℕ) → stage_vertices a.stage ≡ v ∷ [] → from ≡ block_of g.opening v → v < vertex_count g.graph → weight_of g.graph v ≤ r.load
        from
    leaving_least v from e o k =
        let x = load_leaving g r accounts b.claims b.moves b.loads (let n = ok.opening.vertices in omega arith) i a l at from
        (subst (λ z. z < g.blocks) (sym o) (ok.opening.blocks v 0 (let n = ok.opening.vertices in omega arith))) in
        let y = ap (total (λ u. weight_if (block_of g.opening u) from (weight_of g.graph u))) e in
        let z = weight_if-same (block_of g.opening v) from (weight_of g.graph v) (sym o) in
        omega arith

  -- a block at the opening is one
  opening_block : (v c : ℕ) → v < vertex_count g.graph → c ≡ block_of g.opening v → nat_lt c g.blocks ≡ true
  opening_block v c l e = lt-ltb c g.blocks (subst (λ x. x < g.blocks) (sym e) (ok.opening.blocks v 0 (let n = ok.opening.vertices in omega arith)))

  count-is_word : (v j c : ℕ) → j < length (nets_of g.graph v) → nat_lt c g.blocks ≡ true → is_word g (word.Count (slice_index (nets_of g.graph v) j) c) ≡
      true
  count-is_word v j c l h = and_from (nat_lt (slice_index (nets_of g.graph v) j) (net_count g.graph)) (nat_lt c g.blocks)
      (lt-ltb (slice_index (nets_of g.graph v) j) (net_count g.graph) (net_at-below g.graph v j l)) h

  spread-is_word : (v j : ℕ) → j < length (nets_of g.graph v) → is_word g (word.Spread (slice_index (nets_of g.graph v) j)) ≡ true
  spread-is_word v j l = lt-ltb (slice_index (nets_of g.graph v) j) (net_count g.graph) (net_at-below g.graph v j l)

  claim_law : (i v : ℕ) → LawOf (Claim i v)
  claim_law i v l held moves numbers seeds gain stage h =
      let p = and_parts (is_idle stage) (nat_lt v (vertex_count g.graph) && is_free g.graph v) h in
      let q = and_parts (nat_lt v (vertex_count g.graph)) (is_free g.graph v) p.1 in
      on_idle (LawAt (Claim i v) held moves numbers seeds gain) (λ at. (q.0, omega arith, λ r' w. go at q.0 q.1 r' w (nat_eq (r.claim v) 0) refl)) stage p.0
    where
      go : get_or accounts i (blank false) ≡ staged held moves numbers seeds gain Idle → nat_lt v (vertex_count g.graph) ≡ true → is_free g.graph v ≡ true
          → (r' : Readings) → WordsAfter g r r' (word.Claim v) 1 → (z : Bool) → nat_eq (r.claim v) 0 ≡ z
          → InBalance g r' (slice_set accounts i (if z then staged (insert_key nat_cmp held v)
          moves numbers seeds gain Idle else staged held moves numbers seeds gain Idle))
      go at vertex free r' w true q = claim_taken g ok r r' accounts i l b held moves numbers seeds gain at v (ltb-true v (vertex_count g.graph) vertex)
          free
          (eqb-true (r.claim v) 0 q) w
      go at vertex free r' w false q = claim_left g ok r r' accounts i l b held moves numbers seeds gain at v (ltb-true v (vertex_count g.graph) vertex)
          (eqb-false (r.claim v) 0 q) w

  unclaim_law : (i v : ℕ) → LawOf (Unclaim i v)
  unclaim_law i v l held moves numbers seeds gain stage h =
      let done = map (λ (m : Move). m.vertex) moves in
      let p = and_parts (is_idle stage) (nat_lt v (vertex_count g.graph) && (nat_lt 0 (times v held) && nat_eq (times v done) 0)) h in
      let q = and_parts (nat_lt v (vertex_count g.graph)) (nat_lt 0 (times v held) && nat_eq (times v done) 0) p.1 in
      let t = and_parts (nat_lt 0 (times v held)) (nat_eq (times v done) 0) q.1 in
      on_idle (LawAt (Unclaim i v) held moves numbers seeds gain)
      (λ at. (
        q.0,
        omega arith,
        λ r' w. unclaim_kept g ok r r' accounts i l b held moves numbers seeds gain at v (ltb-true v (vertex_count g.graph) q.0)
            (ltb-true 0 (times v held) t.0) (eqb-true (times v done) 0 t.1) w,
      ))
      stage p.0

  reserve_law : (i v to : ℕ) → LawOf (Reserve i v to)
  reserve_law i v to l held moves numbers seeds gain stage h =
      let done = map (λ (m : Move). m.vertex) moves in
      let unmoved = nat_lt 0 (times v held) && nat_eq (times v done) 0 in
      let other = nat_lt to g.blocks && not (nat_eq to (block_of g.opening v)) in
      let p = and_parts (is_idle stage) (nat_lt v (vertex_count g.graph) && (unmoved && other)) h in
      let q = and_parts (nat_lt v (vertex_count g.graph)) (unmoved && other) p.1 in
      let t = and_parts unmoved other q.1 in
      let u = and_parts (nat_lt 0 (times v held)) (nat_eq (times v done) 0) t.0 in
      let o = and_parts (nat_lt to g.blocks) (not (nat_eq to (block_of g.opening v))) t.1 in
      on_idle (LawAt (Reserve i v to) held moves numbers seeds gain)
      (λ at. (
        o.0,
        omega arith,
        λ r' w. go at (ltb-true 0 (times v held) u.0) (eqb-true (times v done) 0 u.1) (ltb-true to g.blocks o.0)
            (eqb-false to (block_of g.opening v) (not-true (nat_eq to (block_of g.opening v)) o.1)) r' w
            (nat_le (r.load to + weight_of g.graph v) g.limit) refl,
      ))
      stage p.0
    where
      go : get_or accounts i (blank false) ≡ staged held moves numbers seeds gain Idle → 0 < times v held → times v (map (λ (m : Move). m.vertex) moves) ≡ 0
          → to < g.blocks → to ≢ block_of g.opening v → (r' : Readings) → WordsAfter g r r' (word.Load to) (r.load to + weight_of g.graph v) → (z : Bool)
          → nat_le (r.load to + weight_of g.graph v) g.limit ≡ z → InBalance g r'
          (slice_set accounts i (staged held moves numbers seeds gain (if z then Granted v (block_of g.opening v) to (r.load to) else Refused v to
          (r.load to))))
      go at has unmoved block other r' w true q = reserve_granted g ok r r' accounts i l b held moves numbers seeds gain at v to has unmoved block other
          (leb-true (r.load to + weight_of g.graph v) g.limit q) w
      go at has unmoved block other r' w false q = reserve_refused g ok r r' accounts i l b held moves numbers seeds gain at v to has unmoved block other w

  take_back_law : (i : ℕ) → LawOf (TakeBack i)
  take_back_law i l held moves numbers seeds gain =
      on_reserved (LawAt (TakeBack i) held moves numbers seeds gain)
      (λ v to seen at. (
        lt-ltb to g.blocks (move_here i l (staged held moves numbers seeds gain (Refused v to seen)) at).block,
        reserved_least i l
            (staged held moves numbers seeds gain (Refused v to seen)) at v to refl refl
            (move_here i l (staged held moves numbers seeds gain (Refused v to seen)) at).block,
        λ r' w.
            take_back_refused g ok r r' accounts i l b held moves numbers seeds gain v to seen at w,
      ))
      (λ v from to seen at. (
        lt-ltb to g.blocks (move_here i l (staged held moves numbers seeds gain (Granted v from to seen)) at).block,
        reserved_least i l
            (staged held moves numbers seeds gain (Granted v from to seen)) at v to refl refl
            (move_here i l (staged held moves numbers seeds gain (Granted v from to seen)) at).block,
        λ r' w.
            take_back_granted g ok r r' accounts i l b held moves numbers seeds gain v from to seen at w,
      ))

  draw_law : (i : ℕ) → LawOf (Draw i)
  draw_law i l held moves numbers seeds gain =
      on_granted (LawAt (Draw i) held moves numbers seeds gain)
      (λ v from to seen at. (refl, omega arith, λ r' w. draw_kept g ok r r' accounts i l b held moves numbers seeds gain v from to seen at w))

  -- the vertex of a move exists
  vertex_law : (i : ℕ) → i < length accounts → (held : List ℕ) (moves : List Move) (numbers : List ℕ) (seeds : ℕ) (gain : ℤ) (v from to number : ℕ)
      (named : Bool) (raised lowered : ℕ) (owed : Owed) (booked : ℤ) → get_or accounts i (blank false)
      ≡ staged held moves numbers seeds gain (Moving v from to number named raised lowered owed booked) → v < vertex_count g.graph
  vertex_law i l held moves numbers seeds gain v from to number named raised lowered owed booked at =
      (stage_carried g r accounts i (staged held moves numbers seeds gain (Moving v from to number named raised lowered owed booked)) l at b v refl).vertex

  name_law : (i : ℕ) → LawOf (Name i)
  name_law i l held moves numbers seeds gain =
      on_moving (λ named raised lowered owed. not named) (LawAt (Name i) held moves numbers seeds gain)
      (λ v from to number named raised lowered owed booked h. by v from to number named raised lowered owed booked (not-true named h))
    where
      by : (v from to number : ℕ) (named : Bool) (raised lowered : ℕ) (owed : Owed) (booked : ℤ) → named ≡ false
          → LawAt (Name i) held moves numbers seeds gain (Moving v from to number named raised lowered owed booked)
      by v from to number true raised lowered owed booked h at = no (sym h)
      by v from to number false raised lowered owed booked h at = (
        lt-ltb v (vertex_count g.graph) (vertex_law i l held moves numbers seeds gain v from to number false raised lowered owed booked at),
        omega arith,
        λ r' w. name_kept g ok r r' accounts i l b held moves numbers seeds gain v from to number raised lowered owed booked at w,
      )

  raise_law : (i : ℕ) → LawOf (Raise i)
  raise_law i l held moves numbers seeds gain Idle h = no h
  raise_law i l held moves numbers seeds gain (Refused v to seen) h = no h
  raise_law i l held moves numbers seeds gain (Granted v from to seen) h = no h
  raise_law i l held moves numbers seeds gain (Moving v from to number false raised lowered owed booked) h = no h
  raise_law i l held moves numbers seeds gain (Moving v from to number true raised lowered owed booked) h =
      let p = and_parts (owes_nothing owed) (nat_eq raised lowered && nat_lt raised (length (nets_of g.graph v))) h in
      let q = and_parts (nat_eq raised lowered) (nat_lt raised (length (nets_of g.graph v))) p.1 in
      let place = ltb-true raised (length (nets_of g.graph v)) q.1 in
      on_nothing (λ z. LawAt (Raise i) held moves numbers seeds gain (Moving v from to number true raised lowered z booked))
      (λ at. (
        count-is_word v raised to place (lt-ltb to g.blocks (move_here i l
            (staged held moves numbers seeds gain (Moving v from to number true raised lowered Nothing booked)) at).block),
        omega arith,
        λ r' w. raise_kept g ok r r' accounts i l b held moves numbers seeds gain v from to number raised lowered booked at (eqb-true raised lowered q.0)
            place w,
      ))
      owed p.0

  widen_law : (i : ℕ) → LawOf (Widen i)
  widen_law i l held moves numbers seeds gain =
      on_moving (λ named raised lowered owed. owes_up owed) (LawAt (Widen i) held moves numbers seeds gain)
      (λ v from to number named raised lowered owed booked.
      on_up (λ z. LawAt (Widen i) held moves numbers seeds gain (Moving v from to number named raised lowered z booked))
      (λ at.
      let a = staged held moves numbers seeds gain (Moving v from to number named raised lowered Up booked) in
      let odd : raised ≡ lowered + 1 = owing_here i l a at in
      let most = (step_here i l a at).2 in (
        spread-is_word v (raised - 1) (omega arith),
        omega arith,
        λ r' w. widen_kept g ok r r' accounts i l b held moves numbers seeds gain v from to number raised lowered named booked at
            (widen_gain g.graph (slice_index (nets_of g.graph v) (raised - 1)) (r.spread (slice_index (nets_of g.graph v) (raised - 1)))) refl w,
      ))
      owed)

  narrow_law : (i : ℕ) → LawOf (Narrow i)
  narrow_law i l held moves numbers seeds gain =
      on_moving (λ named raised lowered owed. owes_down owed) (LawAt (Narrow i) held moves numbers seeds gain)
      (λ v from to number named raised lowered owed booked.
      on_down (λ z. LawAt (Narrow i) held moves numbers seeds gain (Moving v from to number named raised lowered z booked))
      (λ at.
      let a = staged held moves numbers seeds gain (Moving v from to number named raised lowered Down booked) in
      let even = owing_here i l a at in
      let even0 : raised ≡ lowered = even.0 in
      let even1 : 1 ≤ lowered = even.1 in
      let most = (step_here i l a at).2 in (
        spread-is_word v (lowered - 1) (omega arith),
        spread_positive g r r accounts i a a l at b.spreads (slice_index (nets_of g.graph v) (lowered - 1))
            (net_at-below g.graph v (lowered - 1) (omega arith)) b.rest.made
            (let o = weight_if-same (slice_index (nets_of g.graph v) (lowered - 1)) (slice_index (nets_of g.graph v) (lowered - 1)) 1 refl in omega arith),
        λ r' w. narrow_kept g ok r r' accounts i l b held moves numbers seeds gain v from to number raised lowered named booked at
            (narrow_gain g.graph (slice_index (nets_of g.graph v) (lowered - 1)) (r.spread (slice_index (nets_of g.graph v) (lowered - 1)))) refl w,
      ))
      owed)

  lower_law : (i : ℕ) → LawOf (Lower i)
  lower_law i l held moves numbers seeds gain =
      on_moving (λ named raised lowered owed. owes_nothing owed && nat_eq raised (lowered + 1)) (LawAt (Lower i) held moves numbers seeds gain)
      (λ v from to number named raised lowered owed booked h.
      let p = and_parts (owes_nothing owed) (nat_eq raised (lowered + 1)) h in
      on_nothing (λ z. LawAt (Lower i) held moves numbers seeds gain (Moving v from to number named raised lowered z booked))
      (by v from to number named raised lowered booked (eqb-true raised (lowered + 1) p.1)) owed p.0)
    where
      by : (v from to number : ℕ) (named : Bool) (raised lowered : ℕ) (booked : ℤ) → raised ≡ lowered + 1
          → LawAt (Lower i) held moves numbers seeds gain (Moving v from to number named raised lowered Nothing booked)
      by v from to number false raised lowered booked odd at = let none =
          (step_here i l (staged held moves numbers seeds gain (Moving v from to number false raised lowered Nothing booked)) at).3 refl in
          absurd (omega arith)
      by v from to number true raised lowered booked odd at =
          let a = staged held moves numbers seeds gain (Moving v from to number true raised lowered Nothing booked) in
          let most = (step_here i l a at).2 in
          let place : lowered < length (nets_of g.graph v) = omega arith in (
            count-is_word v lowered from place (opening_block v from (vertex_law i l held moves numbers seeds gain v from to number true raised lowered
                Nothing
                booked at) (move_here i l a at).origin),
            lower_found g ok r r accounts i l b held moves numbers seeds gain v from to number raised lowered booked at place,
            λ r' w. lower_kept g ok r r' accounts i l b held moves numbers seeds gain v from to number raised lowered booked at odd place w,
          )

  give_back_law : (i : ℕ) → LawOf (GiveBack i)
  give_back_law i l held moves numbers seeds gain Idle h = no h
  give_back_law i l held moves numbers seeds gain (Refused v to seen) h = no h
  give_back_law i l held moves numbers seeds gain (Granted v from to seen) h = no h
  give_back_law i l held moves numbers seeds gain (Moving v from to number false raised lowered owed booked) h = no h
  give_back_law i l held moves numbers seeds gain (Moving v from to number true raised lowered owed booked) h =
      let p = and_parts (owes_nothing owed) (nat_eq lowered (length (nets_of g.graph v))) h in
      on_nothing (λ z. LawAt (GiveBack i) held moves numbers seeds gain (Moving v from to number true raised lowered z booked))
      (λ at. (
        opening_block v from (vertex_law i l held moves numbers seeds gain v from to number true raised lowered Nothing booked at)
            (move_here i l (staged held moves numbers seeds gain (Moving v from to number true raised lowered Nothing booked)) at).origin,
        leaving_least i l (staged held moves numbers seeds gain (Moving v from to number true raised lowered Nothing booked)) at v from refl
            (move_here i l (staged held moves numbers seeds gain (Moving v from to number true raised lowered Nothing booked)) at).origin
            (vertex_law i l held moves numbers seeds gain v from to number true raised lowered Nothing booked at),
        λ r' w. give_back_kept g ok r r' accounts i l b held moves numbers seeds gain v from to number raised lowered booked at
            (eqb-true lowered (length (nets_of g.graph v)) p.1) w,
      ))
      owed p.0

  seed_law : (i : ℕ) → LawOf (Seed i)
  seed_law i l held moves numbers seeds gain stage h at = (
    refl,
    omega arith,
    λ r' w.
        seed_kept g ok r r' accounts i l b held moves numbers seeds gain stage at (ltb-true seeds (2 ^ 32) h) w,
  )

  -- what an enabled event owes
  abbrev KeptBy : Event → Type 0
  KeptBy x = (is_word g (word_for g accounts x) ≡ true) × (removed_for g accounts x ≤ found_for g r accounts x)
      × ((r' : Readings) → WritesWord g (word_for g accounts x) (write_for g accounts x (found_for g r accounts x)) r r'
      → InBalance g r' (accounts_after_for g accounts x (found_for g r accounts x)))

  -- an event of one pass, by the law where its account is that of a live pass
  abbrev KeptOwn : Event → Account → Type 0
  KeptOwn x a = (is_word g (word_of g x a) ≡ true) × (removed_by g x a ≤ read r (word_of g x a))
      × ((r' : Readings) → WritesWord g (word_of g x a) (write_of g x a (read r (word_of g x a))) r r'
      → InBalance g r' (slice_set accounts (pass_of x) (account_after g x (read r (word_of g x a)) a)))

  one_pass : (x : Event) → is_enabled_for g accounts x ≡ true → LawOf x → KeptOwn x (account_in accounts (pass_of x))
  one_pass x h law =
      let a = account_in accounts (pass_of x) in
      let p = allowed g accounts x h in
      let e = staged_at a p.live in
      let k = subst (Kept x) (sym e) (law p.place a.held a.moves a.numbers a.seeds a.gain a.stage (subst (λ (z : Account). may_step g x z ≡ true) e p.step)
      e)
      in
      (k.0, k.1, λ r' w. k.2 r' (words_after g (word_of g x a) (write_of g x a (read r (word_of g x a))) r r' w))

  -- a word that is read
  read_kept : (w : Word) (r' : Readings) (after : List Account) → WritesWord g w (read r w) r r' → InBalance g r after → InBalance g r' after
  read_kept w r' after q k = balance_same g r r' after (same_from_write g w r r' q) k

  join_law : (i j : ℕ) → is_enabled_for g accounts (Join i j) ≡ true → InBalance g r (accounts_after_for g accounts (Join i j) 0)
  join_law i j h =
      let a = account_in accounts i in
      let c = account_in accounts j in
      let p = allowed g accounts (Join i j) h in
      let may = and_parts (is_idle a.stage) (not (nat_eq i j)) p.step in
      let other = and_parts c.live (is_idle c.stage) p.others in
      let mine = idle_at a p.live may.0 in
      let theirs = idle_at c other.0 other.1 in
      subst (λ (z : Account). InBalance g r (slice_set (slice_set accounts i (joined_with z c)) j (blank false))) (sym mine)
      (subst (λ (z : Account). InBalance g r (slice_set (slice_set accounts i (joined_with (staged a.held a.moves a.numbers a.seeds a.gain Idle) z)) j
      (blank false))) (sym theirs)
      (join_kept g r accounts i j p.place (live_below accounts j other.0) (eqb-false i j (not-true (nat_eq i j) may.1))
      b a.held c.held a.moves c.moves a.numbers c.numbers a.seeds c.seeds a.gain c.gain mine theirs))

  event_kept : (x : Event) → is_enabled_for g accounts x ≡ true → KeptBy x
  event_kept (Claim i v) h = one_pass (Claim i v) h (claim_law i v)
  event_kept (Unclaim i v) h = one_pass (Unclaim i v) h (unclaim_law i v)
  event_kept (Reserve i v to) h = one_pass (Reserve i v to) h (reserve_law i v to)
  event_kept (TakeBack i) h = one_pass (TakeBack i) h (take_back_law i)
  event_kept (Draw i) h = one_pass (Draw i) h (draw_law i)
  event_kept (Name i) h = one_pass (Name i) h (name_law i)
  event_kept (Raise i) h = one_pass (Raise i) h (raise_law i)
  event_kept (Widen i) h = one_pass (Widen i) h (widen_law i)
  event_kept (Lower i) h = one_pass (Lower i) h (lower_law i)
  event_kept (Narrow i) h = one_pass (Narrow i) h (narrow_law i)
  event_kept (GiveBack i) h = one_pass (GiveBack i) h (give_back_law i)
  event_kept (Seed i) h = one_pass (Seed i) h (seed_law i)
  event_kept (Peek i w) h = (
    (allowed g accounts (Peek i w) h).step,
    omega arith,
    λ r' q. read_kept w r' (slice_set accounts i (account_in accounts i)) q (subst (InBalance g r) (sym (set-get_or accounts i (blank false))) b),
  )
  event_kept (Split i) h = (
    first_word-is_word g,
    omega arith,
    λ r' q. read_kept (first_word g) r' (accounts ++ blank true ∷ []) q (split_kept g r accounts b
        (ltb-true (length accounts) 64 (allowed g accounts (Split i) h).others)),
  )
  event_kept (Join i j) h = (
    first_word-is_word g,
    omega arith,
    λ r' q. read_kept (first_word g) r' (accounts_after_for g accounts (Join i j) 0) q
        (join_law i j h),
  )

  -- the word of an enabled event exists
  pub event_word : (x : Event) → is_enabled_for g accounts x ≡ true → is_word g (word_for g accounts x) ≡ true
  event_word x h = (event_kept x h).0

  -- it takes no more from it than it finds there
  pub event_least : (x : Event) → is_enabled_for g accounts x ≡ true → removed_for g accounts x ≤ found_for g r accounts x
  event_least x h = (event_kept x h).1

  -- the books are in balance after it
  pub event_balance : (r' : Readings) (x : Event) → is_enabled_for g accounts x ≡ true
      → WritesWord g (word_for g accounts x) (write_for g accounts x (found_for g r accounts x)) r r'
      → InBalance g r' (accounts_after_for g accounts x (found_for g r accounts x))
  event_balance r' x h w = (event_kept x h).2 r' w
