-- Where every pass is between two moves: the words tell the partition to which the moves lead, and it fits.
use Rattle.std.proofs.Common.{◌≡◌, ◌≢◌, ℕ, suc, ◌+◌, ◌-◌, ◌*◌, ◌<◌, ◌≤◌, ◌⊎◌, inl, inr, Bool, true, false, List, [], ◌∷◌, ◌++◌, map}
use Rattle.std.proofs.Common.{length, take, get_or, slice_set, length-set, get_or-set_other, nat_eq, nat_lt, if◌then◌else◌, All}
use Rattle.std.proofs.Common.{AllPairs, Contains, pos, ◌-ℤ◌, refl, sym, ap, ◌∙◌, subst, arith}
use Rattle.std.proofs.lemmas.Int.{ints}
use Rattle.std.proofs.lemmas.Bool.{eqb-true, lt-ltb, le-ltb, cases_eq, cases_lt}
use Rattle.std.proofs.lemmas.List.Elements.{All-head, All-tail, All-contains, All-take, Contains-get_or}
use Rattle.std.proofs.lemmas.List.Kept.{AllPairs-cons}
use Rattle.std.proofs.lemmas.List.{take_all}
use Rattle.hg_defs.specs.declared.moves.Move.{Move}
use Rattle.hg_defs.specs.Sums.{total, total_z}
use Rattle.hg_defs.specs.Hypergraph.{vertex_count, net_count, net_of, weight_of, is_free, fix_of}
use Rattle.hg_defs.specs.declared.objective.TheConstants.{FREE}
use Rattle.hg_defs.specs.Partition.{block_of, load, IsPartition, Fits}
use Rattle.hg_defs.specs.Pins.{pins_in, present}
use Rattle.hg_defs.specs.Cost.{cost, net_cost, connectivity, price}
use Rattle.hg_defs.specs.Replay.{replay}
use Rattle.hg_defs.proofs.SumLaws.{weight_if, weight_if-same, weight_if-other, weight_if-le, total-append}
use Rattle.hg_defs.proofs.SumLaws.{total-map, total-same, total-same_each, total-swap}
use Rattle.hg_defs.proofs.SumLaws.{total-zero, total-take-le, total-add, total_at-le, total-by_index, sum_below-same, weight_in-set}
use Rattle.hg_defs.proofs.DistinctLaws.{pins_in-set, connectivity-sum}
use Rattle.hg_defs.proofs.ReplayLaws.{length-replay, replay-blocks, replay-apart, replay-once}
use Rattle.move_core.specs.declared.account.Account.{Account}
use Rattle.move_core.specs.declared.account.Stage.{Stage}
use Rattle.move_core.specs.declared.account.Stage.TheVariants.{Idle}
use Rattle.move_core.specs.State.{Setup, Readings, times}
use Rattle.move_core.specs.Stages.{number_at, move_at}
use Rattle.move_core.specs.Events.{moved_vertices, price_at}
use Rattle.move_core.specs.Balance.{drawn, numbered_by, moves_before, arrived, departed, reserved_weight, raises, lowers}
use Rattle.move_core.specs.Balance.{stage_raises, stage_lowers, stage_vertices, owed_up, owed_down, named_at, renamed}
use Rattle.move_core.specs.AtRest.{IsAtRest, IsRoundMove, AreInOrder, Tells, moves_in_order, closing}
use Rattle.move_core.proofs.StageCases.{on_idle}
use Rattle.move_core.proofs.TimesLaws.{All_from_times, total-weight_if}
use Rattle.move_core.proofs.HeldLaws.{moved_below, moved_once}
use Rattle.move_core.proofs.PrefixLaws.{total-numbered, numbered-all}
use Rattle.move_core.proofs.OrderLaws.{some_at, total-in_order, All-in_order, take_in_order, in_order, only_order}

-- ---- moves of which each starts at its vertex's block

-- what changes with each move is summed
replay-sum : (n : ℕ) (f : List ℕ → ℕ) (lost won : Move → ℕ) → ((p : List ℕ) (m : Move) → length p ≡ n → m.vertex < n → m.from ≡ block_of p m.vertex
    → f (slice_set p m.vertex m.to) + lost m ≡ f p + won m) → (p : List ℕ) (ms : List Move) → length p ≡ n → AllPairs (λ x y. x.vertex ≢ y.vertex) ms
    → All (λ m. m.vertex < n) ms → All (λ m. m.from ≡ block_of p m.vertex) ms → f (replay p ms) + total lost ms ≡ f p + total won ms
replay-sum n f lost won step p [] e a l o = refl
replay-sum n f lost won step p (m ∷ ms) e a l o =
    let r = replay-sum n f lost won step (slice_set p m.vertex m.to) ms
    (length-set p m.vertex m.to ∙ e)
    (λ i j d q t. a (suc i) (suc j) d (omega arith) (omega arith))
    (All-tail (λ x. x.vertex < n) m ms l)
    (λ i d q. All-tail (λ x. x.from ≡ block_of p x.vertex) m ms o i d q ∙ sym
    (get_or-set_other p m.vertex (get_or ms i d).vertex m.to 0 (λ z. a 0 (suc i) d (omega arith) (omega arith) (sym z)))) in
    let s = step p m e (All-head (λ x. x.vertex < n) m ms l) (All-head (λ x. x.from ≡ block_of p x.vertex) m ms o) in
    omega arith

-- moves of which no two are of one vertex, by how often each vertex moves
distinct_from : (ms : List Move) → ((v : ℕ) → total (λ m. weight_if m.vertex v 1) ms ≤ 1) → AllPairs (λ x y. x.vertex ≢ y.vertex) ms
distinct_from [] h = λ i j d l q. absurd (omega arith)
distinct_from (m ∷ ms) h =
    AllPairs-cons (λ (x y : Move). x.vertex ≢ y.vertex) m ms
    (λ k d l e.
    let here = weight_if-same m.vertex m.vertex 1 refl in
    let once = h m.vertex in
    let at = total_at-le (λ (x : Move). weight_if x.vertex m.vertex 1) ms k d l in
    let one = weight_if-same (get_or ms k d).vertex m.vertex 1 (sym e) in
    absurd (omega arith))
    (distinct_from ms (λ v. let x = h v in omega arith))

-- a vertex moves, or it doesn't
moves_it : (ms : List Move) (u : ℕ) → ((m : Move) × Contains ms m × (m.vertex ≡ u)) ⊎ All (λ m. m.vertex ≢ u) ms
moves_it ms u =
    let f : Move → ℕ = λ m. weight_if m.vertex u 1 in
    elim (cases_lt 0 (total f ms)) [
      | inl l ↦
          let none : Move = record { vertex = 0; from = 0; to = 0; worker = 0; booked = pos 0 } in
          let s = some_at f ms none l in
          inl (get_or ms s.0 none, Contains-get_or ms s.0 none s.1, same (get_or ms s.0 none) s.2)
      | inr g ↦ inr (λ k d l e. let at = total_at-le f ms k d l in let one = weight_if-same (get_or ms k d).vertex u 1 e in absurd (omega arith))
    ]
  where
    same : (m : Move) → 0 < weight_if m.vertex u 1 → m.vertex ≡ u
    same m l = elim (cases_eq m.vertex u) [ inl e ↦ e | inr q ↦ let w = weight_if-other m.vertex u 1 q in absurd (omega arith) ]

weight_none : (x y : ℕ) → weight_if x y 0 ≡ 0
weight_none x y = let w = weight_if-le x y 0 in omega arith

module _ (g : Setup) (r : Readings) (accounts : List Account) (rest : IsAtRest g r accounts) where
  abbrev ms : List Move
  ms = moves_in_order accounts r.next

  pub idle_here : (k : ℕ) (d : Account) → k < length accounts → (get_or accounts k d).stage ≡ Idle
  idle_here k d l = on_idle (λ stage. stage ≡ Idle) refl (get_or accounts k d).stage (rest.idle k d l)

  -- a sum over stages is nothing
  no_stages : (f : Stage → ℕ) → f Idle ≡ 0 → total (λ a. f a.stage) accounts ≡ 0
  no_stages f z = total-zero (λ (a : Account). f a.stage) accounts (λ k d l. ap f (idle_here k d l) ∙ z)

  pub size : All (λ a. length a.numbers ≡ length a.moves) accounts
  size = rest.balance.numbers.lengths

  drawn_here : (n : ℕ) → total (λ a. times n (drawn a)) accounts ≡ total (λ a. times n a.numbers) accounts
  drawn_here n =
      total-same (λ a. times n (drawn a)) (λ a. times n a.numbers) accounts
      (λ k d l.
      let a = get_or accounts k d in
      let e = ap (λ z. times n (a.numbers ++ number_at z)) (idle_here k d l) in
      let f = total-append (λ x. weight_if x n 1) a.numbers [] in
      omega arith)

  each_once : (n : ℕ) → n < r.next → total (λ a. times n a.numbers) accounts ≡ 1
  each_once n l = sym (drawn_here n) ∙ rest.balance.numbers.each n ∙ ap (λ b. if b then 1 else 0) (lt-ltb n r.next l)

  pub all_below : All (λ a. All (λ n. nat_lt n r.next ≡ true) a.numbers) accounts
  all_below k d l =
      All_from_times (λ n. nat_lt n r.next ≡ true) (get_or accounts k d).numbers
      (λ n t.
      elim (cases_lt n r.next) [
        | inl q ↦ lt-ltb n r.next q
        | inr q ↦
            let e = subst (λ c. total (λ a. times n (drawn a)) accounts ≡ (if c then 1 else 0)) (le-ltb n r.next q) (rest.balance.numbers.each n) in
            let f = drawn_here n in
            let p = total_at-le (λ (a : Account). times n a.numbers) accounts k d l in
            absurd (omega arith)
      ])

  pub ordered : AreInOrder accounts r.next ms
  ordered = in_order accounts r.next size each_once all_below

  pub only_ordered : (moves : List Move) → AreInOrder accounts r.next moves → moves ≡ ms
  only_ordered moves o = only_order accounts r.next size each_once all_below moves o

  -- what is summed over all moves
  pub total_all : (f : Move → ℕ) → total f ms ≡ total (λ a. total f a.moves) accounts
  total_all f =
      total-in_order f accounts r.next
      ∙ total-same (λ a. total f (numbered_by (λ x. nat_lt x r.next) a.numbers a.moves)) (λ a. total f a.moves) accounts
      (λ k d l. ap (total f) (numbered-all (λ x. nat_lt x r.next) (get_or accounts k d).numbers (get_or accounts k d).moves (size k d l) (all_below k d l)))

  -- and over those with a number below a bound
  total_before : (f : Move → ℕ) (j : ℕ) → total f (moves_in_order accounts j) ≡ total (λ a. total f (moves_before j a)) accounts
  total_before f j =
      total-in_order f accounts j
      ∙ sym (total-same (λ a. total f (moves_before j a)) (λ a. total f (numbered_by (λ x. nat_lt x j) a.numbers a.moves)) accounts
      (λ k d l.
      let a = get_or accounts k d in
      let e = ap (λ z. total f (numbered_by (λ x. nat_lt x j) (a.numbers ++ number_at z) (a.moves ++ move_at 0 z))) (idle_here k d l) in
      let p = total-numbered f (λ x. nat_lt x j) a.numbers [] a.moves [] (size k d l) in
      omega arith))

  -- ---- each move

  pub round_moves : All (IsRoundMove g (length accounts)) ms
  round_moves = All-in_order (IsRoundMove g (length accounts)) accounts r.next each
    where
      free : (k : ℕ) (d : Account) → k < length accounts → (v : ℕ) → v < vertex_count g.graph → 0 < times v (moved_vertices (get_or accounts k d)) →
          (z : Bool)
          → is_free g.graph v ≡ z → is_free g.graph v ≡ true
      free k d l v q t true e = e
      free k d l v q t false e =
          let a = get_or accounts k d in
          let none = rest.balance.claims.free v q e in
          let word = rest.balance.claims.word v q in
          let own = total_at-le (λ (x : Account). times v x.held) accounts k d l in
          let h = rest.balance.moves.held k d l v in
          let p = total-append (λ x. weight_if x v 1) (moved_vertices a) (stage_vertices a.stage) in
          absurd (omega arith)

      each : All (λ a. All (IsRoundMove g (length accounts)) a.moves) accounts
      each k d l i m q =
          let a = get_or accounts k d in
          let n = get_or a.moves i m in
          let done = rest.balance.moves.done k d l i m q in
          let vertex = moved_below g r accounts rest.balance.claims rest.balance.moves k d l i m q in
          let at = total_at-le (λ (z : Move). weight_if z.vertex n.vertex 1) a.moves i m q in
          let same = weight_if-same n.vertex n.vertex 1 refl in
          let mapped = total-map (λ x. weight_if x n.vertex 1) (λ (z : Move). z.vertex) a.moves in
          record {
            vertex = vertex;
            free = eqb-true (fix_of g.graph n.vertex) FREE (free k d l n.vertex vertex (omega arith) (is_free g.graph n.vertex) refl);
            from = done.origin;
            to = done.block;
            other = λ e. done.other (e ∙ done.origin);
            worker = rest.balance.workers.made k d l i m q;
          }

  moves_once : (v : ℕ) → total (λ m. weight_if m.vertex v 1) ms ≤ 1
  moves_once v =
      elim (cases_lt v (vertex_count g.graph)) [
        | inl l ↦
            let a = total_all (λ m. weight_if m.vertex v 1) in
            let b = total-same_each (λ (x : Account). total (λ (m : Move). weight_if m.vertex v 1) x.moves) (λ x. times v (moved_vertices x))
            (λ x. sym (total-map (λ y. weight_if y v 1) (λ (m : Move). m.vertex) x.moves)) accounts in
            let c = moved_once g r accounts rest.balance.claims rest.balance.moves v l in
            omega arith
        | inr q ↦
            let z = total-zero (λ (m : Move). weight_if m.vertex v 1) ms
            (λ k d l. weight_if-other (get_or ms k d).vertex v 1 (λ e. let w = (round_moves k d l).vertex in absurd (omega arith))) in
            omega arith
      ]

  pub moved_apart : AllPairs (λ x y. x.vertex ≢ y.vertex) ms
  moved_apart = distinct_from ms moves_once

  -- ---- the partition

  abbrev q : List ℕ
  q = closing g r accounts

  pub is_partition : IsPartition g.graph g.blocks q
  is_partition = record {
    vertices = length-replay g.opening ms ∙ rest.setup.opening.vertices;
    blocks = replay-blocks g.blocks g.opening ms rest.setup.opening.blocks (λ k d l. (round_moves k d l).to);
  }

  -- ---- loads

  load_after : (moves : List Move) → AllPairs (λ x y. x.vertex ≢ y.vertex) moves → All (IsRoundMove g (length accounts)) moves → (b : ℕ)
      → load g.graph (replay g.opening moves) b + departed g.graph b moves ≡ load g.graph g.opening b + arrived g.graph b moves
  load_after moves a h b =
      replay-sum (vertex_count g.graph) (λ p. load g.graph p b) (λ m. weight_if m.from b (weight_of g.graph m.vertex))
      (λ m. weight_if m.to b (weight_of g.graph m.vertex))
      (λ p m e l o.
      let s = weight_in-set g.graph.weights p m.vertex m.to b l (omega arith) in
      let x = ap (λ z. weight_if z b (weight_of g.graph m.vertex)) o in
      omega arith)
      g.opening moves rest.setup.opening.vertices a (λ k d l. (h k d l).vertex) (λ k d l. (h k d l).from)

  -- each prefix of the moves fits
  pub prefix_fits : (j : ℕ) → Fits g.graph g.blocks g.limit (replay g.opening (take j ms))
  prefix_fits j b l =
      let n : ℕ = if nat_lt j r.next then j else r.next in
      let first = take_in_order accounts r.next size each_once all_below j in
      let e = load_after (take j ms)
      (distinct_from (take j ms) (λ v. let x = total-take-le (λ (m : Move). weight_if m.vertex v 1) ms j in let y = moves_once v in omega arith))
      (All-take (IsRoundMove g (length accounts)) j ms round_moves) b in
      let f = rest.balance.prefixes.fit n b l in
      let x = ap (arrived g.graph b) first in
      let y = ap (departed g.graph b) first in
      let u = total_before (λ m. weight_if m.to b (weight_of g.graph m.vertex)) n in
      let v = total_before (λ m. weight_if m.from b (weight_of g.graph m.vertex)) n in
      omega arith

  pub closing_fits : Fits g.graph g.blocks g.limit q
  closing_fits = subst (λ z. Fits g.graph g.blocks g.limit (replay g.opening z)) (take_all r.next ms (let e = ordered.count in omega arith))
      (prefix_fits r.next)

  loads_told : (b : ℕ) → b < g.blocks → r.load b ≡ load g.graph q b
  loads_told b l =
      let w = rest.balance.loads.word b l in
      let e = load_after ms moved_apart round_moves b in
      let x = total_all (λ m. weight_if m.to b (weight_of g.graph m.vertex)) in
      let y = total_all (λ m. weight_if m.from b (weight_of g.graph m.vertex)) in
      let z = total-add (λ (a : Account). reserved_weight g.graph b a.stage) (λ a. arrived g.graph b a.moves) accounts in
      let none = no_stages (reserved_weight g.graph b) refl in
      omega arith

  -- ---- names

  names_told : (v : ℕ) → v < vertex_count g.graph → r.name v ≡ block_of q v
  names_told v l =
      elim (moves_it ms v) [
        | inl x ↦
            let done = All-in_order (λ m. r.name m.vertex ≡ m.to) accounts r.next rest.balance.names.done in
            subst (λ u. r.name u ≡ block_of q u) x.2
            (All-contains (λ (m : Move). r.name m.vertex ≡ m.to) ms x.0 done x.1
            ∙ sym (replay-once g.opening ms x.0 moved_apart (λ k d o. let w = (round_moves k d o).vertex in let e = rest.setup.opening.vertices in
            omega arith)
            x.1))
        | inr x ↦
            let none = total-zero (λ (m : Move). weight_if m.vertex v 1) ms (λ k d o. weight_if-other (get_or ms k d).vertex v 1 (x k d o)) in
            let all = total_all (λ m. weight_if m.vertex v 1) in
            let each = total-same (λ a. times v (renamed a)) (λ (a : Account). total (λ (m : Move). weight_if m.vertex v 1) a.moves) accounts
            (λ k d o.
            let a = get_or accounts k d in
            let e = ap (λ z. times v (moved_vertices a ++ named_at z)) (idle_here k d o) in
            let f = total-append (λ y. weight_if y v 1) (moved_vertices a) [] in
            let h = total-map (λ y. weight_if y v 1) (λ (m : Move). m.vertex) a.moves in
            omega arith) in
            rest.balance.names.others v l (omega arith) ∙ sym (replay-apart g.opening ms v x)
      ]

  -- ---- counts

  pins_after : (pins : List ℕ) (c : ℕ) → pins_in q pins c + total (λ m. times m.vertex pins * weight_if m.from c 1) ms ≡ pins_in g.opening pins c
      + total (λ m. times m.vertex pins * weight_if m.to c 1) ms
  pins_after pins c =
      replay-sum (vertex_count g.graph) (λ p. pins_in p pins c) (λ m. times m.vertex pins * weight_if m.from c 1)
      (λ m. times m.vertex pins * weight_if m.to c 1)
      (λ p m e l o.
      let s = pins_in-set p pins m.vertex m.to c (omega arith) in
      let x = ap (λ z. times m.vertex pins * weight_if z c 1) o in
      omega arith)
      g.opening ms rest.setup.opening.vertices moved_apart (λ k d l. (round_moves k d l).vertex) (λ k d l. (round_moves k d l).from)

  -- what is summed over pins and moves alike
  by_moves : (pins : List ℕ) (y : Move → ℕ) → total (λ u. total (λ a. total (λ m. weight_if m.vertex u (y m)) a.moves) accounts) pins
      ≡ total (λ m. times m.vertex pins * y m) ms
  by_moves pins y =
      let a = total-same_each (λ u. total (λ (x : Account). total (λ m. weight_if m.vertex u (y m)) x.moves) accounts)
      (λ u. total (λ m. weight_if m.vertex u (y m)) ms) (λ u. sym (total_all (λ m. weight_if m.vertex u (y m)))) pins in
      let b = total-swap (λ u m. weight_if m.vertex u (y m)) pins ms in
      let c = total-same_each (λ m. total (λ u. weight_if m.vertex u (y m)) pins) (λ m. times m.vertex pins * y m)
      (λ m. total-weight_if m.vertex (y m) pins)
      ms in
      omega arith

  counts_told : (e b : ℕ) → e < net_count g.graph → b < g.blocks → r.count e b ≡ pins_in q (net_of g.graph e).pins b
  counts_told e b le lb =
      let pins = (net_of g.graph e).pins in
      let w = rest.balance.counts.word e b le lb in
      let p = pins_after pins b in
      let up = by_moves pins (λ m. weight_if m.to b 1) in
      let down = by_moves pins (λ m. weight_if m.from b 1) in
      let x = total-same_each (λ u. (if nat_eq (block_of g.opening u) b then 1 else 0) + total (raises g.graph u e b) accounts)
      (λ u. (if nat_eq (block_of g.opening u) b then 1 else 0) + total (λ a. total (λ m. weight_if m.vertex u (weight_if m.to b 1)) a.moves) accounts)
      (λ u. ap (λ z. (if nat_eq (block_of g.opening u) b then 1 else 0) + z) (raised u)) pins in
      let y = total-add (λ u. if nat_eq (block_of g.opening u) b then 1 else 0)
      (λ u. total (λ (a : Account). total (λ m. weight_if m.vertex u (weight_if m.to b 1)) a.moves) accounts) pins in
      let z = total-same_each (λ u. if nat_eq (block_of g.opening u) b then total (lowers g.graph u e) accounts else 0)
      (λ u. total (λ a. total (λ m. weight_if m.vertex u (weight_if m.from b 1)) a.moves) accounts) lowered pins in
      omega arith
    where
      raised : (u : ℕ) → total (raises g.graph u e b) accounts ≡ total (λ a. total (λ m. weight_if m.vertex u (weight_if m.to b 1)) a.moves) accounts
      raised u =
          total-same (raises g.graph u e b) (λ a. total (λ m. weight_if m.vertex u (weight_if m.to b 1)) a.moves) accounts
          (λ k d l. let a = get_or accounts k d in let z = ap (stage_raises g.graph u e b) (idle_here k d l) in omega arith)

      -- a move of the vertex starts from its block
      from_there : (u : ℕ) → All (λ a. total (λ m. weight_if m.vertex u (weight_if m.from b 1)) a.moves
          ≡ weight_if (block_of g.opening u) b (times u (moved_vertices a))) accounts
      from_there u k d l =
          let a = get_or accounts k d in
          let same = total-same (λ (m : Move). weight_if m.vertex u (weight_if m.from b 1))
          (λ m. weight_if m.vertex u (weight_if (block_of g.opening u) b 1))
          a.moves
          (λ i m o.
          elim (cases_eq (get_or a.moves i m).vertex u) [
            | inl x ↦ ap (λ z. weight_if (get_or a.moves i m).vertex u (weight_if z b 1))
                ((rest.balance.moves.done k d l i m o).origin ∙ ap (block_of g.opening) x)
            | inr x ↦ weight_if-other (get_or a.moves i m).vertex u (weight_if (get_or a.moves i m).from b 1) x
                ∙ sym (weight_if-other (get_or a.moves i m).vertex u (weight_if (block_of g.opening u) b 1) x)
          ]) in
          same ∙ sym (counted a.moves)
        where
          counted : (moves : List Move) → weight_if (block_of g.opening u) b (times u (map (λ m. m.vertex) moves))
              ≡ total (λ m. weight_if m.vertex u (weight_if (block_of g.opening u) b 1)) moves
          counted moves =
              elim (cases_eq (block_of g.opening u) b) [
                | inl x ↦
                    weight_if-same (block_of g.opening u) b (times u (map (λ m. m.vertex) moves)) x
                    ∙ total-map (λ y. weight_if y u 1) (λ (m : Move). m.vertex) moves
                    ∙ total-same_each (λ (m : Move). weight_if m.vertex u 1) (λ m. weight_if m.vertex u (weight_if (block_of g.opening u) b 1))
                    (λ m. ap (weight_if m.vertex u) (sym (weight_if-same (block_of g.opening u) b 1 x))) moves
                | inr x ↦
                    weight_if-other (block_of g.opening u) b (times u (map (λ m. m.vertex) moves)) x
                    ∙ sym (total-zero (λ (m : Move). weight_if m.vertex u (weight_if (block_of g.opening u) b 1)) moves
                    (λ i m o. ap (weight_if (get_or moves i m).vertex u) (weight_if-other (block_of g.opening u) b 1 x)
                    ∙ weight_none (get_or moves i m).vertex u))
              ]

      lowered : (u : ℕ) → (if nat_eq (block_of g.opening u) b then total (lowers g.graph u e) accounts else 0)
          ≡ total (λ a. total (λ m. weight_if m.vertex u (weight_if m.from b 1)) a.moves) accounts
      lowered u =
          let low = total-same (lowers g.graph u e) (λ a. times u (moved_vertices a)) accounts
          (λ k d l. let a = get_or accounts k d in let z = ap (stage_lowers g.graph u e) (idle_here k d l) in omega arith) in
          let there = total-same (λ (a : Account). total (λ m. weight_if m.vertex u (weight_if m.from b 1)) a.moves)
          (λ a. weight_if (block_of g.opening u) b (times u (moved_vertices a))) accounts (from_there u) in
          elim (cases_eq (block_of g.opening u) b) [
            | inl x ↦
                weight_if-same (block_of g.opening u) b (total (lowers g.graph u e) accounts) x ∙ low
                ∙ sym (there ∙ total-same_each (λ (a : Account). weight_if (block_of g.opening u) b (times u (moved_vertices a)))
                (λ a. times u (moved_vertices a)) (λ a. weight_if-same (block_of g.opening u) b (times u (moved_vertices a)) x) accounts)
            | inr x ↦
                weight_if-other (block_of g.opening u) b (total (lowers g.graph u e) accounts) x
                ∙ sym (there ∙ total-zero (λ (a : Account). weight_if (block_of g.opening u) b (times u (moved_vertices a))) accounts
                (λ k d l. weight_if-other (block_of g.opening u) b (times u (moved_vertices (get_or accounts k d))) x))
          ]

  -- ---- spreads, and the cost

  spreads_told : (e : ℕ) → e < net_count g.graph → r.spread e ≡ 64 + connectivity q (net_of g.graph e).pins
  spreads_told e l =
      let w = rest.balance.spreads.word e l in
      let up = no_stages (owed_up g.graph e) refl in
      let down = no_stages (owed_down g.graph e) refl in
      let p = sum_below-same (λ b. present (r.count e b)) (λ b. present (pins_in q (net_of g.graph e).pins b)) g.blocks
      (λ b lb. ap present (counts_told e b l lb)) in
      let c = connectivity-sum g.blocks q (net_of g.graph e).pins
      (λ k d o. is_partition.blocks (get_or (net_of g.graph e).pins k d) 0
      (let v = (rest.setup.graph.nets e (record { weight = 0; pins = [] }) l).pins k d o in let n = is_partition.vertices in omega arith)) in
      omega arith

  pub told : Tells g r q
  told = record { names = names_told; loads = loads_told; counts = counts_told; spreads = spreads_told }

  pub saved : total_z (λ a. a.gain) accounts ≡ pos (cost g.graph g.opening) -ℤ pos (cost g.graph q)
  saved =
      let a = rest.balance.sum.gains in
      let b = sum_below-same (λ e. price_at g.graph e (r.spread e)) (λ e. net_cost g.graph.objective q (net_of g.graph e)) (net_count g.graph)
      (λ e l. let s = spreads_told e l in let x : r.spread e - 64 ≡ connectivity q (net_of g.graph e).pins = omega arith in
      ap (λ z. (net_of g.graph e).weight * price g.graph.objective z) x) in
      let c = total-by_index (net_cost g.graph.objective q) (record { weight = 0; pins = [] }) g.graph.nets in
      omega (arith, ints)
