-- What a pass knows of a number that it reads, from the books in balance and its own account.
use Rattle.std.proofs.Common.{◌≡◌, ℕ, suc, ◌+◌, ◌<◌, ◌≤◌, inl, inr, Bool, true, false, List, [], ◌∷◌, map, length, get_or}
use Rattle.std.proofs.Common.{set, nat_eq, if◌then◌else◌, All, refl, sym, ap, ◌∙◌, subst, arith}
use Rattle.std.proofs.lemmas.Bool.{cases_eq, cases_lt, ne_eqb}
use Rattle.std.proofs.lemmas.List.Elements.{All-nil, All-cons, All-head, All-tail}
use Rattle.hg_defs.specs.declared.moves.Move.{Move}
use Rattle.hg_defs.specs.Sums.{total}
use Rattle.hg_defs.specs.Hypergraph.{vertex_count, net_count, net_of, weight_of}
use Rattle.hg_defs.specs.Partition.{block_of}
use Rattle.hg_defs.proofs.SumLaws.{weight_if, weight_if-other, total-append, total-le, total-zero, total-same}
use Rattle.hg_defs.proofs.SumLaws.{total-map, total-swap, total-add, total-same_each}
use Rattle.move_core.specs.declared.account.Account.{Account}
use Rattle.move_core.specs.declared.account.Stage.{Stage}
use Rattle.move_core.specs.declared.account.Stage.TheVariants.{Idle, Refused, Granted, Moving}
use Rattle.move_core.specs.declared.events.Word.{Word}
use Rattle.move_core.specs.declared.events.Word.TheVariants as word
use Rattle.move_core.specs.State.{Setup, Readings, read, times, blank}
use Rattle.move_core.specs.Events.{moved_vertices}
use Rattle.move_core.specs.Balance.{InBalance, IsSetup, IsNamed, IsStageMove, renamed, named_at, stage_vertices, carried}
use Rattle.move_core.specs.Balance.{raises, lowers, arrived, departed, reserved_weight, pins_carried}
use Rattle.move_core.proofs.TimesLaws.{All_at_times, total_at, total_changed, all_at, all_changed_others, times_at}
use Rattle.move_core.proofs.HeldLaws.{held_alone, carried_once, carried_weight}
use Rattle.move_core.proofs.NameLaws.{times-named_at}
use Rattle.move_core.proofs.CountLaws.{lowers-le, count_within}
use Rattle.move_core.proofs.NetLaws.{pin-below}
use Rattle.move_core.proofs.BoundLaws.{spread_small, next_small, cursor_small}
use Rattle.move_table.specs.Seen.{IsRead, IsClaimRead, IsNameRead, IsCountRead}
use Rattle.move_table.proofs.PlaceLaws.{Exists}

to-map : (P : ℕ → Type 0) (ms : List Move) → All (λ m. P m.vertex) ms → All P (map (λ m. m.vertex) ms)
to-map P [] h = All-nil P
to-map P (m ∷ ms) h = All-cons P m.vertex (map (λ (z : Move). z.vertex) ms) (All-head (λ (z : Move). P z.vertex) m ms h)
    (to-map P ms (All-tail (λ (z : Move). P z.vertex) m ms h))

-- where a sum is positive, a part of it is
some_part : (f : Account → ℕ) (xs : List Account) → 0 < total f xs → (k : ℕ) × (k < length xs) × ((d : Account) → 0 < f (get_or xs k d))
some_part f [] h = absurd (omega arith)
some_part f (x ∷ xs) h =
    elim (cases_lt 0 (f x)) [
      | inl l ↦ (0, omega arith, λ d. l)
      | inr m ↦ let r = some_part f xs (omega arith) in let l = r.1 in (suc r.0, omega arith, r.2)
    ]

-- the vertex that a stage has renamed has the name that it goes to
stage_name : (g : Setup) (name : ℕ → ℕ) (stage : Stage) (v : ℕ) → IsNamed name stage → IsStageMove g stage → 0 < times v (named_at stage) →
    name v < g.blocks
stage_name g name Idle v n m h = absurd (omega arith)
stage_name g name (Refused u to seen) v n m h = absurd (omega arith)
stage_name g name (Granted u from to seen) v n m h = absurd (omega arith)
stage_name g name (Moving u from to number false raised lowered owed booked) v n m h = absurd (omega arith)
stage_name g name (Moving u from to number true raised lowered owed booked) v n m h =
    elim (cases_eq u v) [
      | inl e ↦ subst (λ x. name x < g.blocks) e (subst (λ x. x < g.blocks) (sym (n refl)) m.block)
      | inr q ↦ let w = weight_if-other u v 1 q in absurd (omega arith)
    ]

module _ (g : Setup) (ok : IsSetup g) (r : Readings) (accounts : List Account) (b : InBalance g r accounts) where
  opening_block : (v : ℕ) → v < vertex_count g.graph → block_of g.opening v < g.blocks
  opening_block v l = ok.opening.blocks v 0 (let e = ok.opening.vertices in omega arith)

  -- every name is a block
  name_block : (v : ℕ) → v < vertex_count g.graph → r.name v < g.blocks
  name_block v l =
      elim (cases_lt 0 (total (λ a. times v (renamed a)) accounts)) [
        | inl p ↦
            let k = some_part (λ a. times v (renamed a)) accounts p in
            let a = get_or accounts k.0 (blank false) in
            let split = total-append (λ x. weight_if x v 1) (moved_vertices a) (named_at a.stage) in
            let here = k.2 (blank false) in
            elim (cases_lt 0 (times v (moved_vertices a))) [
              | inl q ↦ All_at_times (λ u. r.name u < g.blocks) (moved_vertices a) v
                  (to-map (λ u. r.name u < g.blocks) a.moves (λ j d o. subst (λ x. x < g.blocks) (sym (b.names.done k.0 (blank false) k.1 j d o))
                  (b.moves.done k.0 (blank false) k.1 j d o).block)) q
              | inr q ↦ stage_name g r.name a.stage v (b.names.stages k.0 (blank false) k.1) (b.moves.stages k.0 (blank false) k.1) (omega arith)
            ]
        | inr q ↦ subst (λ x. x < g.blocks) (sym (b.names.others v l (omega arith))) (opening_block v l)
      ]

  module _ (i : ℕ) (a : Account) (l : i < length accounts) (at : get_or accounts i (blank false) ≡ a) where
    claim_read : (v : ℕ) → v < vertex_count g.graph → IsClaimRead a v (r.claim v)
    claim_read v k = record {
      most = b.claims.once v k;
      own = λ h.
          let w = b.claims.word v k in
          let o = b.claims.once v k in
          let t = total_at accounts i a a l at (λ x. times v x.held) in
          omega arith;
      unmoved = λ z.
          let w = b.claims.word v k in
          let t = total_at accounts i a a l at (λ x. times v x.held) in
          let m = all_at accounts i a a l at (λ x. (u : ℕ) → times u (carried x) ≤ times u x.held) b.moves.held v in
          let s = total-append (λ x. weight_if x v 1) (moved_vertices a) (stage_vertices a.stage) in
          omega arith;
    }

    -- a vertex that the pass holds, and that it hasn't renamed, has its name at the opening
    pub name_unmoved : (v : ℕ) → v < vertex_count g.graph → 0 < times v a.held → times v (renamed a) ≡ 0 → r.name v ≡ block_of g.opening v
    name_unmoved v k h z =
        let f : Account → ℕ = λ x. times v (renamed x) in
        let t = total_changed accounts i a (blank false) l at f in
        let others = total-zero f (set accounts i (blank false))
        (all_changed_others accounts i a (blank false) l at (λ x. f x ≡ 0)
        (λ j d o q.
        let c = get_or accounts j d in
        let x = held_alone g r accounts b.claims b.moves v i j d k l o q (subst (λ (y : Account). 0 < times v y.held) (sym at) h) in
        let y = total-append (λ p. weight_if p v 1) (moved_vertices c) (stage_vertices c.stage) in
        let w = total-append (λ p. weight_if p v 1) (moved_vertices c) (named_at c.stage) in
        let u = times-named_at v c.stage in
        omega arith)
        refl) in
        b.names.others v k (omega arith)

    name_read : (v : ℕ) → v < vertex_count g.graph → IsNameRead g a v (r.name v)
    name_read v k = record {
      block = name_block v k;
      carried = λ j d o e.
          let done = all_at accounts i a a l at (λ x. All (λ m. r.name m.vertex ≡ m.to) x.moves) b.names.done in
          ap r.name (sym e) ∙ done j d o;
      unmoved = name_unmoved v k;
    }

    -- ---- loads

    departed-le : (c : ℕ) → total (λ x. departed g.graph c x.moves) accounts ≤ total
        (λ x. total (λ v. weight_if (block_of g.opening v) c (weight_of g.graph v)) (carried x)) accounts
    departed-le c =
        total-le (λ x. departed g.graph c x.moves) (λ x. total (λ v. weight_if (block_of g.opening v) c (weight_of g.graph v)) (carried x)) accounts
        (λ k d q.
        let x = get_or accounts k d in
        let f : ℕ → ℕ = λ v. weight_if (block_of g.opening v) c (weight_of g.graph v) in
        let e = total-append f (moved_vertices x) (stage_vertices x.stage) in
        let m = total-map f (λ (z : Move). z.vertex) x.moves in
        let s = total-same (λ (z : Move). weight_if z.from c (weight_of g.graph z.vertex)) (λ z. f z.vertex) x.moves
        (λ j y p. ap (λ n. weight_if n c (weight_of g.graph (get_or x.moves j y).vertex)) (b.moves.done k d q j y p).origin) in
        omega arith)

    load_read : (c : ℕ) → c < g.blocks → arrived g.graph c a.moves ≤ r.load c
    load_read c k =
        let w = b.loads.word c k in
        let t = total_at accounts i a a l at (λ x. reserved_weight g.graph c x.stage + arrived g.graph c x.moves) in
        let d = departed-le c in
        let q = carried_weight g r accounts b.claims b.moves c (let e = ok.opening.vertices in omega arith) in
        omega arith

    -- ---- counts

    turned : (x y : ℕ) → nat_eq x y ≡ nat_eq y x
    turned x y =
        elim (cases_eq x y) [
          | inl e ↦ ap (λ z. nat_eq z y) e ∙ ap (nat_eq y) (sym e)
          | inr q ↦ ne_eqb x y q ∙ sym (ne_eqb y x (λ e. q (sym e)))
        ]

    own_raises : (e c : ℕ) → pins_carried g.graph e c a ≤ total (λ u. raises g.graph u e c a) (net_of g.graph e).pins
    own_raises e c =
        let pins = (net_of g.graph e).pins in
        let f : Move → ℕ → ℕ = λ m u. if nat_eq m.vertex u then (if nat_eq m.to c then 1 else 0) else 0 in
        let s = total-swap f a.moves pins in
        let one = total-same_each (λ m. if nat_eq m.to c then times m.vertex pins else 0) (λ m. total (f m) pins) (λ m. each m.vertex (nat_eq m.to c) pins)
        a.moves in
        let t = total-le (λ u. total (λ m. f m u) a.moves) (λ u. raises g.graph u e c a) pins (λ k d q. omega arith) in
        omega arith
      where
        each : (v : ℕ) (z : Bool) (pins : List ℕ) → (if z then times v pins else 0) ≡ total (λ u. if nat_eq v u then (if z then 1 else 0) else 0) pins
        each v true [] = refl
        each v true (p ∷ ps) =
            let x = each v true ps in
            let y : weight_if p v 1 ≡ weight_if v p 1 = ap (λ (q : Bool). if q then 1 else 0) (turned p v) in
            omega arith
        each v false [] = refl
        each v false (p ∷ ps) =
            let x = each v false ps in
            let y = none (nat_eq v p) in
            omega arith
          where
            none : (q : Bool) → ◌≡◌ {A = ℕ} (if q then 0 else 0) 0
            none true = refl
            none false = refl

    count_read : (e c : ℕ) → e < net_count g.graph → c < g.blocks → IsCountRead g a e c (r.count e c)
    count_read e c k q = record {
      own =
          let pins = (net_of g.graph e).pins in
          let f : ℕ → ℕ = λ u. if nat_eq (block_of g.opening u) c then total (lowers g.graph u e) accounts else 0 in
          let h : ℕ → ℕ = λ u. if nat_eq (block_of g.opening u) c then 1 else 0 in
          let w = b.counts.word e c k q in
          let s = total-add h (λ u. total (raises g.graph u e c) accounts) pins in
          let x = total-le f h pins
          (λ j d o.
          let u = get_or pins j d in
          let below = pin-below g.graph ok.graph u e k (times_at pins j d o) in
          let y = total-le (lowers g.graph u e) (λ z. times u (carried z)) accounts (λ n z p. lowers-le g.graph u e (get_or accounts n z)) in
          let z = carried_once g r accounts b.claims b.moves u below in
          by (nat_eq (block_of g.opening u) c) (total (lowers g.graph u e) accounts) (omega arith)) in
          let t = total-le (λ u. raises g.graph u e c a) (λ u. total (raises g.graph u e c) accounts) pins
          (λ j d o. total_at accounts i a a l at (raises g.graph (get_or pins j d) e c)) in
          let o = own_raises e c in
          omega arith;
      most = count_within g r accounts ok.graph b.claims b.moves b.counts e c k q;
    }
      where
        by : (z : Bool) (x : ℕ) → x ≤ 1 → (if z then x else 0) ≤ (if z then 1 else 0)
        by true x h = h
        by false x h = omega arith

    -- ---- all words

    pub reads : (w : Word) → Exists g w → IsRead g a w (read r w)
    reads (word.Claim v) k = claim_read v k
    reads (word.Name v) k = name_read v k
    reads (word.Load c) k = load_read c k
    reads (word.Count e c) k = count_read e c k.0 k.1
    reads (word.Spread e) k = spread_small g r accounts b e k
    reads word.Next k = next_small g r accounts b
    reads word.Cursor k =
        let c = b.rest.cursor in
        let t = total_at accounts i a a l at (λ x. x.seeds) in
        (omega arith, cursor_small g r accounts b)
