-- Laws of moves of different vertices, each from its block in the partition that is replayed.
use Rattle.std.proofs.Common.{◌≡◌, ◌≢◌, ℕ, zero, suc, ◌+◌, ◌<◌, ◌≤◌, ◌⊎◌, inl, inr, List, [], ◌∷◌, take, length, get_or, All, AllPairs, Contains, slice_set}
use Rattle.std.proofs.Common.{refl, sym, ap, ◌∙◌, subst, arith, pos, get_or-set_same, get_or-set_other, length-take, length-set}
use Rattle.std.proofs.lemmas.List.{get_or-take, get_or_default}
use Rattle.std.proofs.lemmas.List.Elements.{All-take, Contains-get_or}
use Rattle.std.proofs.lemmas.Bool.{cases_eq, cases_lt}
use Rattle.hg_defs.specs.declared.moves.Move.{Move}
use Rattle.hg_defs.specs.Hypergraph.{Hyper}
use Rattle.hg_defs.specs.Partition.{IsPartition, block_of}
use Rattle.hg_defs.specs.Replay.{replay, replay_first}
use Rattle.hg_defs.proofs.ReplayLaws.{length-replay, replay-blocks, replay-apart}
use Rattle.round_log.specs.Rounds.{IsOrder}
use Rattle.rollback_prefix.specs.Pins.{ArePlacesAt, ArePinMoves}
use Rattle.rollback_prefix.specs.Steps.{StartFrom}

abbrev pub no_move : Move
no_move = record { vertex = 0; from = 0; to = 0; worker = 0; booked = pos 0 }

-- a vertex is in its first block until it moves
pub still_there : (p : List ℕ) (moves : List Move) (i : ℕ) (d : Move) → i < length moves → AllPairs (λ a b. a.vertex ≢ b.vertex) moves
    → block_of (replay_first p moves i) (get_or moves i d).vertex ≡ block_of p (get_or moves i d).vertex
still_there p moves i d here once = replay-apart p (take i moves) (get_or moves i d).vertex apart
  where
    apart : All (λ (m : Move). m.vertex ≢ (get_or moves i d).vertex) (take i moves)
    apart k e l q =
        let cut = length-take i moves in
        let low : k < i = omega arith in
        once k i e low here (ap (λ (m : Move). m.vertex) (sym (get_or-take i moves k e low)) ∙ q ∙ ap (λ (m : Move). m.vertex)
        (get_or_default moves i d e here))

pub replay_partition : (h : Hyper) (k : ℕ) (p : List ℕ) (moves : List Move) (i : ℕ) → IsPartition h k p → StartFrom h k p moves →
    IsPartition h k (replay_first p moves i)
replay_partition h k p moves i whole steps = record {
  vertices = length-replay p (take i moves) ∙ whole.vertices;
  blocks = replay-blocks k p (take i moves) whole.blocks (All-take (λ (m : Move). m.to < k) i moves (λ j d l. (steps.each j d l).to));
}

-- after some moves a vertex is in its first block, or where one of them took it
pub lands : (p : List ℕ) (moves : List Move) (v : ℕ) → v < length p
    → (block_of (replay p moves) v ≡ block_of p v) ⊎ ((i : ℕ) × (i < length moves) × ((get_or moves i no_move).vertex ≡ v) ×
    (block_of (replay p moves) v ≡ (get_or moves i no_move).to))
lands p [] v inside = inl refl
lands p (m ∷ moves) v inside = by (cases_eq m.vertex v) (lands (slice_set p m.vertex m.to) moves v (let n = length-set p m.vertex m.to in omega arith))
  where
    by : (m.vertex ≡ v) ⊎ (m.vertex ≡ v → ⊥)
        → (block_of (replay (slice_set p m.vertex m.to) moves) v ≡ block_of (slice_set p m.vertex m.to) v) ⊎
        ((i : ℕ) × (i < length moves) × ((get_or moves i no_move).vertex ≡ v) × (block_of (replay (slice_set p m.vertex m.to) moves) v ≡
        (get_or moves i no_move).to))
        → (block_of (replay p (m ∷ moves)) v ≡ block_of p v) ⊎ ((i : ℕ) × (i < length (m ∷ moves)) × ((get_or (m ∷ moves) i no_move).vertex ≡ v) ×
        (block_of (replay p (m ∷ moves)) v ≡ (get_or (m ∷ moves) i no_move).to))
    by c (inr r) = inr (suc r.0, let l = r.1 in omega arith, r.2, r.3)
    by (inl e) (inl s) = inr (0, omega arith, e, s ∙ ap (block_of (slice_set p m.vertex m.to)) (sym e) ∙ get_or-set_same p m.vertex m.to 0 (omega arith))
    by (inr q) (inl s) = inl (s ∙ get_or-set_other p m.vertex v m.to 0 (λ e. q (sym e)))

-- ---- the order of the moves

moving : (moves : List Move) (u : ℕ) → ((i : ℕ) × (i < length moves) × ((get_or moves i no_move).vertex ≡ u)) ⊎ All (λ (m : Move). m.vertex ≢ u) moves
moving [] u = inr (λ k d l. absurd (omega arith))
moving (m ∷ moves) u = by (cases_eq m.vertex u) (moving moves u)
  where
    by : (m.vertex ≡ u) ⊎ (m.vertex ≡ u → ⊥) → ((i : ℕ) × (i < length moves) × ((get_or moves i no_move).vertex ≡ u)) ⊎ All (λ (n : Move). n.vertex ≢ u)
        moves
        → ((i : ℕ) × (i < length (m ∷ moves)) × ((get_or (m ∷ moves) i no_move).vertex ≡ u)) ⊎ All (λ (n : Move). n.vertex ≢ u) (m ∷ moves)
    by (inl e) r = inl (0, omega arith, e)
    by (inr q) (inl r) = inl (suc r.0, let l = r.1 in omega arith, r.2)
    by (inr q) (inr r) = inr each
      where
        each : All (λ (n : Move). n.vertex ≢ u) (m ∷ moves)
        each zero d l = q
        each (suc k) d l = r k d (omega arith)

get_or_past : (xs : List ℕ) (i : ℕ) → length xs ≤ i → get_or xs i 0 ≡ 0
get_or_past [] i l = refl
get_or_past (x ∷ xs) zero l = absurd (omega arith)
get_or_past (x ∷ xs) (suc i) l = get_or_past xs i (omega arith)

-- where the order has a place, that move moves the vertex
pub placed : (n : ℕ) (moves : List Move) (order : List ℕ) (u : ℕ) → IsOrder n moves order → 0 < get_or order u 0
    → (i : ℕ) × (i < length moves) × ((get_or moves i no_move).vertex ≡ u) × (get_or order u 0 ≡ i + 1)
placed n moves order u o p = by (moving moves u) (cases_lt u n)
  where
    by : ((i : ℕ) × (i < length moves) × ((get_or moves i no_move).vertex ≡ u)) ⊎ All (λ (m : Move). m.vertex ≢ u) moves → (u < n) ⊎ (n ≤ u)
        → (i : ℕ) × (i < length moves) × ((get_or moves i no_move).vertex ≡ u) × (get_or order u 0 ≡ i + 1)
    by (inl r) c = (r.0, r.1, r.2, subst (λ x. get_or order x 0 ≡ r.0 + 1) r.2 (o.moved r.0 no_move r.1))
    by (inr a) (inl l) = let z = o.others u l a in absurd (omega arith)
    by (inr a) (inr g) = let z = get_or_past order u (let s = o.vertices in omega arith) in absurd (omega arith)

pub order_once : (n : ℕ) (moves : List Move) (order : List ℕ) → IsOrder n moves order → (u v : ℕ) → 0 < get_or order u 0 → get_or order u 0 ≡ get_or order v
    0 → u ≡ v
order_once n moves order o u v p e =
    let a = placed n moves order u o p in
    let b = placed n moves order v o (omega arith) in
    let same : a.0 ≡ b.0 = let x = a.3 in let y = b.3 in omega arith in
    sym a.2 ∙ ap (λ i. (get_or moves i no_move).vertex) same ∙ b.2

-- the places that stand at the pins are those of the moves that move a pin
pub pin_moves : (n : ℕ) (pins : List ℕ) (moves : List Move) (order places : List ℕ) → IsOrder n moves order → ArePlacesAt pins order places →
    ArePinMoves pins moves places
pin_moves n pins moves order places o at = record {
  rising = at.rising;
  within = λ k d l.
      let r = at.each (get_or places k d) (Contains-get_or places k d l) in
      let s = placed n moves order r.0 o (let x = r.2 in omega arith) in
      (let x = r.2 in let y = s.3 in let z = s.1 in omega arith);
  each = each;
  all = λ i d l c. at.all (get_or moves i d).vertex i c (o.moved i d l);
}
  where
    each : (i : ℕ) (d : Move) → Contains places i → Contains pins (get_or moves i d).vertex
    each i d c =
        let r = at.each i c in
        let s = placed n moves order r.0 o (let x = r.2 in omega arith) in
        let same : s.0 ≡ i = let x = r.2 in let y = s.3 in omega arith in
        let low : i < length moves = let z = s.1 in omega arith in
        let vertex = ap (λ (m : Move). m.vertex) (get_or_default moves i d no_move low) ∙ ap (λ j. (get_or moves j no_move).vertex) (sym same) ∙ s.2 in
        subst (Contains pins) (sym vertex) r.1
