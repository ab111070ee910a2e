-- What a pass reads back of what it did, and that every word is far from 2^64.
use Rattle.std.proofs.Common.{◌≡◌, ℕ, ◌*◌, ◌^◌, ◌<◌, ◌≤◌, inl, inr, Bool, true, false, pos, List, [], length, get_or}
use Rattle.std.proofs.Common.{nat_eq, nat_lt, if◌then◌else◌, All, refl, sym, ap, ◌∙◌, subst, arith}
use Rattle.std.proofs.lemmas.Bool.{ltb-true, and_parts, cases_lt, cases_eq}
use Rattle.std.proofs.lemmas.List.{get_or_past}
use Rattle.std.proofs.lemmas.List.Elements.{All-nil}
use Rattle.hg_defs.specs.declared.moves.Move.{Move}
use Rattle.hg_defs.specs.Sums.{total}
use Rattle.hg_defs.specs.Hypergraph.{Net, vertex_count, net_count, net_of, weight_of}
use Rattle.hg_defs.specs.Partition.{block_of}
use Rattle.hg_defs.proofs.SumLaws.{weight_if, weight_if-other, total-append, total-map, total-swap, total-same_each, total-le, total_at-le}
use Rattle.move_core.specs.declared.account.Account.{Account}
use Rattle.move_core.specs.declared.account.Stage.{Stage}
use Rattle.move_core.specs.declared.account.Stage.TheVariants.{Idle, Refused, Granted, Moving}
use Rattle.move_core.specs.declared.events.Event.{Event}
use Rattle.move_core.specs.declared.events.Event.TheVariants.{Claim, Unclaim, Reserve, TakeBack, Draw, Name, Raise, Widen, Lower}
use Rattle.move_core.specs.declared.events.Event.TheVariants.{Narrow, GiveBack, Seed, Peek, Split, Join}
use Rattle.move_core.specs.declared.events.Word.{Word}
use Rattle.move_core.specs.declared.events.Word.TheVariants as word
use Rattle.move_core.specs.State.{Setup, Readings, account_in, blank, times, read}
use Rattle.move_core.specs.Stages.{to_at}
use Rattle.move_core.specs.Events.{is_word, is_holding, is_enabled_for, word_for, found_for, write_for, moved_vertices}
use Rattle.move_core.specs.Balance.{InBalance, IsSetup, IsStageMove, IsNamed, renamed, named_at, stage_vertices, raises, arrived, pins_carried}
use Rattle.move_core.proofs.TimesLaws.{total-weight_if, All_at_times}
use Rattle.move_core.proofs.BoundLaws.{load_small, next_small, spread_small, cursor_small}
use Rattle.move_core.proofs.CountLaws.{count_within, raises_within}
use Rattle.move_core.proofs.LoadLaws.{load_reserved, total-le_at}
use Rattle.move_core.proofs.HeldLaws.{held_once}
use Rattle.move_core.proofs.NameLaws.{times-named_at}
use Rattle.move_core.proofs.OrderLaws.{some_at}
use Rattle.move_core.proofs.EventLaw.{event_word}

-- the block of a stage's move, 0 where there is none
to_below : (g : Setup) (stage : Stage) → IsStageMove g stage → to_at stage ≤ g.blocks
to_below g Idle m = omega arith
to_below g (Refused v to seen) m = let b = m.block in omega arith
to_below g (Granted v from to seen) m = let b = m.block in omega arith
to_below g (Moving v from to number named raised lowered owed booked) m = let b = m.block in omega arith

-- the name that a stage has written
name_at : (g : Setup) (name : ℕ → ℕ) (v : ℕ) (stage : Stage) → IsStageMove g stage → IsNamed name stage → 0 < times v (named_at stage) → name v < g.blocks
name_at g name v Idle m n h = absurd (omega arith)
name_at g name v (Refused u to seen) m n h = absurd (omega arith)
name_at g name v (Granted u from to seen) m n h = absurd (omega arith)
name_at g name v (Moving u from to number false raised lowered owed booked) m n h = absurd (omega arith)
name_at g name v (Moving u from to number true raised lowered owed booked) m n h =
    elim (cases_eq u v) [
      | inl e ↦ let b = m.block in let x = n refl in let y = ap name e in omega arith
      | inr q ↦ let w = weight_if-other u v 1 q in absurd (omega arith)
    ]

weight-le : (ws : List ℕ) (v : ℕ) → get_or ws v 0 ≤ total (λ w. w) ws
weight-le ws v =
    elim (cases_lt v (length ws)) [
      | inl l ↦ total_at-le (λ w. w) ws v 0 l
      | inr q ↦ let e = get_or_past ws v 0 q in omega arith
    ]

module _ (g : Setup) (r : Readings) (accounts : List Account) (b : InBalance g r accounts) where
  -- the account of a number that no pass has is blank
  at_account : (P : Account → Type 0) → All P accounts → P (blank false) → (i : ℕ) → P (account_in accounts i)
  at_account P h p i =
      elim (cases_lt i (length accounts)) [
        | inl l ↦ h i (blank false) l
        | inr q ↦ subst P (sym (get_or_past accounts i (blank false) q)) p
      ]

  within : (f : Account → ℕ) → f (blank false) ≡ 0 → (i : ℕ) → f (account_in accounts i) ≤ total f accounts
  within f z i =
      elim (cases_lt i (length accounts)) [
        | inl l ↦ total_at-le f accounts i (blank false) l
        | inr q ↦ let e = ap f (get_or_past accounts i (blank false) q) in omega arith
      ]

  pub names_back : (i : ℕ) → All (λ m. r.name m.vertex ≡ m.to) (account_in accounts i).moves
  names_back = at_account (λ a. All (λ m. r.name m.vertex ≡ m.to) a.moves) b.names.done (All-nil (λ (m : Move). r.name m.vertex ≡ m.to))

  -- a vertex that is held
  held_below : (i v : ℕ) → is_holding (account_in accounts i) v ≡ true → v < vertex_count g.graph
  held_below i v h = at_account (λ a. 0 < times v a.held → v < vertex_count g.graph)
      (λ k d l. All_at_times (λ u. u < vertex_count g.graph) (get_or accounts k d).held v (b.claims.range k d l)) (λ q. absurd (omega arith)) i
      (ltb-true 0 (times v (account_in accounts i).held) h)

  pub claims_back : (i v : ℕ) → is_holding (account_in accounts i) v ≡ true → r.claim v ≡ 1
  claims_back i v h =
      let p = ltb-true 0 (times v (account_in accounts i).held) h in
      let l = held_below i v h in
      let w = b.claims.word v l in
      let o = b.claims.once v l in
      let x = within (λ a. times v a.held) refl i in
      omega arith

  pub cursor_back : (i : ℕ) → (account_in accounts i).seeds ≤ r.cursor
  cursor_back i = let c = b.rest.cursor in let x = within (λ a. a.seeds) refl i in omega arith

  -- what another pass holds no pass carries
  renamed_once : (i v : ℕ) → is_holding (account_in accounts i) v ≡ true → times v (renamed (account_in accounts i)) ≡ 0
      → total (λ a. times v (renamed a)) accounts ≡ 0
  renamed_once i v h z =
      let p = ltb-true 0 (times v (account_in accounts i).held) h in
      let o = held_once g r accounts b.claims b.moves v (held_below i v h) in
      let i-below : i < length accounts = elim (cases_lt i (length accounts))
      [ inl l ↦ l | inr q ↦ let e = ap (λ (a : Account). times v a.held) (get_or_past accounts i (blank false) q) in absurd (omega arith) ] in
      let t = total-le_at (λ a. times v (renamed a)) (λ a. times v a.held) accounts i (blank false) i-below
      (λ k d l.
      let a = get_or accounts k d in
      let x = b.moves.held k d l v in
      let y = total-append (λ u. weight_if u v 1) (moved_vertices a) (stage_vertices a.stage) in
      let w = total-append (λ u. weight_if u v 1) (moved_vertices a) (named_at a.stage) in
      let n = times-named_at v a.stage in
      omega arith) in
      omega arith

  pub unmoved_back : (i v : ℕ) → is_holding (account_in accounts i) v ≡ true → times v (renamed (account_in accounts i)) ≡ 0 →
      r.name v ≡ block_of g.opening v
  unmoved_back i v h z = b.names.others v (held_below i v h) (renamed_once i v h z)

  module _ (ok : IsSetup g) where
    pub name_below : (v : ℕ) → v < vertex_count g.graph → r.name v < g.blocks
    name_below v l =
        elim (cases_lt 0 (total (λ a. times v (renamed a)) accounts)) [
          | inl q ↦ let s = some_at (λ (a : Account). times v (renamed a)) accounts (blank false) q in named s.0 s.1 s.2
          | inr q ↦ let e = b.names.others v l (omega arith) in let o = ok.opening.blocks v 0 (let n = ok.opening.vertices in omega arith) in omega arith
        ]
      where
        named : (k : ℕ) → k < length accounts → 0 < times v (renamed (get_or accounts k (blank false))) → r.name v < g.blocks
        named k o q =
            let a = get_or accounts k (blank false) in
            let p = total-append (λ u. weight_if u v 1) (moved_vertices a) (named_at a.stage) in
            elim (cases_lt 0 (times v (named_at a.stage))) [
              | inl x ↦ name_at g r.name v a.stage (b.moves.stages k (blank false) o) (b.names.stages k (blank false) o) x
              | inr x ↦
                  let f : Move → ℕ = λ m. weight_if m.vertex v 1 in
                  let n = total-map (λ u. weight_if u v 1) (λ (m : Move). m.vertex) a.moves in
                  let none : Move = record { vertex = 0; from = 0; to = 0; worker = 0; booked = pos 0 } in
                  let s = some_at f a.moves none (omega arith) in
                  done k o s.0 none s.1 s.2
            ]
          where
            done : (k : ℕ) → k < length accounts → (j : ℕ) (m : Move) → j < length (get_or accounts k (blank false)).moves
                → 0 < weight_if (get_or (get_or accounts k (blank false)).moves j m).vertex v 1 → r.name v < g.blocks
            done k o j m q x =
                let z = get_or (get_or accounts k (blank false)).moves j m in
                elim (cases_eq z.vertex v) [
                  | inl e ↦ let y = b.names.done k (blank false) o j m q in let t = (b.moves.done k (blank false) o j m q).block in let u = ap r.name e in
                      omega arith
                  | inr e ↦ let w = weight_if-other z.vertex v 1 e in absurd (omega arith)
                ]

    pub loads_back : (i c : ℕ) → c < g.blocks → arrived g.graph c (account_in accounts i).moves ≤ r.load c
    loads_back i c l =
        elim (cases_lt i (length accounts)) [
          | inl q ↦ let x = load_reserved g r accounts b.claims b.moves b.loads (let n = ok.opening.vertices in omega arith) i (account_in accounts i)
              q refl c l in omega arith
          | inr q ↦ let e = ap (λ (a : Account). arrived g.graph c a.moves) (get_or_past accounts i (blank false) q) in omega arith
        ]

    pub counts_back : (i e c : ℕ) → e < net_count g.graph → c < g.blocks → pins_carried g.graph e c (account_in accounts i) ≤ r.count e c
    counts_back i e c le lc =
        let a = account_in accounts i in
        let pins = (net_of g.graph e).pins in
        let x = raises_within g r accounts ok.graph b.claims b.moves b.counts e c le lc in
        let y = total-le (λ u. total (λ m. weight_if m.vertex u (weight_if m.to c 1)) a.moves) (λ u. total (raises g.graph u e c) accounts) pins
        (λ k d l. let u = get_or pins k d in let w = within (raises g.graph u e c) refl i in omega arith) in
        let z = total-swap (λ u (m : Move). weight_if m.vertex u (weight_if m.to c 1)) pins a.moves in
        let t = total-same_each (λ (m : Move). total (λ u. weight_if m.vertex u (weight_if m.to c 1)) pins)
        (λ m. if nat_eq m.to c then times m.vertex pins else 0)
        (λ m. total-weight_if m.vertex (weight_if m.to c 1) pins ∙ scaled (nat_eq m.to c) (times m.vertex pins)) a.moves in
        omega arith
      where
        scaled : (q : Bool) (n : ℕ) → n * (if q then 1 else 0) ≡ (if q then n else 0)
        scaled true n = omega arith
        scaled false n = omega arith

    -- no word is near 2^64
    word_small : (w : Word) → is_word g w ≡ true → read r w < 2 ^ 60
    word_small (word.Claim v) h = let o = b.claims.once v (ltb-true v (vertex_count g.graph) h) in omega arith
    word_small (word.Name v) h = let o = name_below v (ltb-true v (vertex_count g.graph) h) in let k = ok.blocks in omega arith
    word_small (word.Load c) h = let o = load_small g r accounts b c (ltb-true c g.blocks h) in let k = ok.bounds.weight in omega arith
    word_small (word.Count e c) h =
        let p = and_parts (nat_lt e (net_count g.graph)) (nat_lt c g.blocks) h in
        let l = ltb-true e (net_count g.graph) p.0 in
        let o = count_within g r accounts ok.graph b.claims b.moves b.counts e c l (ltb-true c g.blocks p.1) in
        let y = total_at-le (λ (z : Net). length z.pins) g.graph.nets e (record { weight = 0; pins = [] }) l in
        let k = ok.bounds.pins in
        omega arith
    word_small (word.Spread e) h = let o = spread_small g r accounts b e (ltb-true e (net_count g.graph) h) in let k = ok.blocks in omega arith
    word_small word.Next h = let o = next_small g r accounts b in let k = ok.bounds.vertices in omega arith
    word_small word.Cursor h = let o = cursor_small g r accounts b in omega arith

    weight_small : (v : ℕ) → weight_of g.graph v < 2 ^ 60
    weight_small v = let w = weight-le g.graph.weights v in let k = ok.bounds.weight in omega arith

    pub event_most : (x : Event) → is_enabled_for g accounts x ≡ true → write_for g accounts x (found_for g r accounts x) < 2 ^ 64
    event_most x h = by x (word_small (word_for g accounts x) (event_word g ok r accounts b x h)) h
      where
        by : (x : Event) → read r (word_for g accounts x) < 2 ^ 60 → is_enabled_for g accounts x ≡ true
            → write_for g accounts x (found_for g r accounts x) < 2 ^ 64
        by (Claim i v) q e = omega arith
        by (Unclaim i v) q e = omega arith
        by (Reserve i v to) q e = let w = weight_small v in omega arith
        by (TakeBack i) q e = omega arith
        by (Draw i) q e = omega arith
        by (Name i) q e = let t = to_below g (account_in accounts i).stage (at_account (λ a. IsStageMove g a.stage) b.moves.stages tt i) in let k =
            ok.blocks in omega arith
        by (Raise i) q e = omega arith
        by (Widen i) q e = omega arith
        by (Lower i) q e = omega arith
        by (Narrow i) q e = omega arith
        by (GiveBack i) q e = omega arith
        by (Seed i) q e = omega arith
        by (Peek i w) q e = omega arith
        by (Split i) q e = omega arith
        by (Join i j) q e = omega arith
