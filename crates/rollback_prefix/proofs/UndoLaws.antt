-- Laws of moves that are undone: where they start from, and what is left when the later ones are undone.
use Rattle.std.proofs.Common.{◌≡◌, ◌≢◌, ℕ, zero, suc, ◌+◌, ◌-◌, ◌<◌, ◌≤◌, List, [], ◌∷◌, map, take, drop, length, get_or, All, AllPairs}
use Rattle.std.proofs.Common.{Contains, slice_set, refl, sym, ap, ◌∙◌, subst, arith, length-drop, length-take, get_or-drop}
use Rattle.std.proofs.lemmas.List.{get_or_default, get_or-take, take-append-drop, take_all}
use Rattle.std.proofs.lemmas.List.Elements.{All-map, All-drop, Contains-get_or}
use Rattle.hg_defs.specs.declared.moves.Move.{Move}
use Rattle.hg_defs.specs.Hypergraph.{Hyper}
use Rattle.hg_defs.specs.Partition.{IsPartition, block_of}
use Rattle.hg_defs.specs.Replay.{replay, replay_first, undone}
use Rattle.hg_defs.proofs.ReplayLaws.{replay-append, length-replay, replay-blocks, replay-apart, replay-once}
use Rattle.hg_defs.proofs.UndoLaws.{moves_are_undone, moves_are_redone}
use Rattle.hg_defs.proofs.DistinctLaws.{Contains-map}
use Rattle.rollback_prefix.specs.Steps.{StartFrom, EndAt, turned}

-- the replay of the moves back is what undoes them
pub undone_is : (p : List ℕ) (moves : List Move) → undone p moves ≡ replay p (map turned moves)
undone_is p [] = refl
undone_is p (m ∷ moves) = undone_is (slice_set p m.vertex m.from) moves

once_turned : (moves : List Move) → AllPairs (λ a b. a.vertex ≢ b.vertex) moves → AllPairs (λ a b. a.vertex ≢ b.vertex) (map turned moves)
once_turned [] h i j d l q = absurd (omega arith)
once_turned (m ∷ moves) h zero zero d l q = absurd (omega arith)
once_turned (m ∷ moves) h (suc i) zero d l q = absurd (omega arith)
once_turned (m ∷ moves) h zero (suc j) d l q = All-map (λ (x : Move). m.vertex ≢ x.vertex) turned moves
    (λ k e r. h 0 (suc k) e (omega arith) (omega arith)) j
    d (omega arith)
once_turned (m ∷ moves) h (suc i) (suc j) d l q = once_turned moves (λ x y e r t. h (suc x) (suc y) e (omega arith) (omega arith)) i j d (omega arith)
    (omega arith)

all_turned : (P : Move → Type 0) (moves : List Move) → All (λ m. P (turned m)) moves → All P (map turned moves)
all_turned P moves h = All-map P turned moves h

undone_from : (p : List ℕ) (moves : List Move) (m : Move) → AllPairs (λ a b. a.vertex ≢ b.vertex) moves → All (λ n. n.vertex < length p) moves →
    Contains moves m
    → block_of (undone p moves) m.vertex ≡ m.from
undone_from p moves m once low c =
    ap (λ q. block_of q m.vertex) (undone_is p moves)
    ∙ replay-once p (map turned moves) (turned m) (once_turned moves once) (all_turned (λ n. n.vertex < length p) moves low) (Contains-map turned moves m c)

pub undone_partition : (h : Hyper) (k : ℕ) (p : List ℕ) (moves : List Move) → IsPartition h k p → EndAt h k p moves → IsPartition h k (undone p moves)
undone_partition h k p moves whole ends = subst (IsPartition h k) (sym (undone_is p moves)) (record {
  vertices = length-replay p (map turned moves) ∙ whole.vertices;
  blocks = replay-blocks k p (map turned moves) whole.blocks (all_turned (λ m. m.to < k) moves (λ j d l. (ends.each j d l).from));
})

low_vertices : (h : Hyper) (k : ℕ) (p : List ℕ) (moves : List Move) → IsPartition h k p → EndAt h k p moves → All (λ m. m.vertex < length p) moves
low_vertices h k p moves whole ends j d l = let a = (ends.each j d l).vertex in let b = whole.vertices in omega arith

-- the moves start from the partition before them
pub starts_from : (h : Hyper) (k : ℕ) (p : List ℕ) (moves : List Move) → IsPartition h k p → EndAt h k p moves → StartFrom h k (undone p moves) moves
starts_from h k p moves whole ends = record {
  once = ends.once;
  each = λ j d l. record {
    vertex = (ends.each j d l).vertex;
    from = sym (undone_from p moves (get_or moves j d) ends.once (low_vertices h k p moves whole ends) (Contains-get_or moves j d l));
    to = (ends.each j d l).to;
  };
}

-- and lead to the partition after them
pub leads_to : (h : Hyper) (k : ℕ) (p : List ℕ) (moves : List Move) → IsPartition h k p → EndAt h k p moves → replay (undone p moves) moves ≡ p
leads_to h k p moves whole ends = moves_are_redone p moves ends.once (low_vertices h k p moves whole ends) (λ j d l. (ends.each j d l).stands)

-- where the moves behind a prefix are undone, the prefix is left
pub prefix_left : (h : Hyper) (k : ℕ) (p : List ℕ) (moves : List Move) (n : ℕ) → n ≤ length moves → IsPartition h k p → EndAt h k p moves
    → undone p (drop n moves) ≡ replay_first (undone p moves) moves n
prefix_left h k p moves n short whole ends =
    ap (λ q. undone q (drop n moves)) (sym (leads_to h k p moves whole ends) ∙ ap (replay (undone p moves)) (sym (take-append-drop n moves)) ∙
    replay-append (undone p moves) (take n moves) (drop n moves))
    ∙ moves_are_undone (replay_first (undone p moves) moves n) (drop n moves) once low from
  where
    start : StartFrom h k (undone p moves) moves
    start = starts_from h k p moves whole ends

    once : AllPairs (λ a b. a.vertex ≢ b.vertex) (drop n moves)
    once i j d l m e =
        let cut = length-drop n moves in
        ends.once (n + i) (n + j) d (omega arith) (omega arith) (ap (λ (x : Move). x.vertex) (sym (get_or-drop n moves i d)) ∙ e ∙
        ap (λ (x : Move). x.vertex)
        (get_or-drop n moves j d))

    low : All (λ (m : Move). m.vertex < length (replay_first (undone p moves) moves n)) (drop n moves)
    low j d l = let a = All-drop (λ (m : Move). m.vertex < length p) n moves (low_vertices h k p moves whole ends) j d l in
        let b = length-replay (undone p moves) (take n moves) in let c = (undone_partition h k p moves whole ends).vertices in let e = whole.vertices in
        omega arith

    from : All (λ (m : Move). m.from ≡ block_of (replay_first (undone p moves) moves n) m.vertex) (drop n moves)
    from j d l =
        let cut = length-drop n moves in
        let here : n + j < length moves = omega arith in
        let at = get_or-drop n moves j d in
        ap (λ (x : Move). x.from) at
        ∙ (start.each (n + j) d here).from
        ∙ sym (replay-apart (undone p moves) (take n moves) (get_or moves (n + j) d).vertex (apart j d here))
        ∙ ap (λ (x : Move). block_of (replay_first (undone p moves) moves n) x.vertex) (sym at)
      where
        apart : (j : ℕ) (d : Move) → n + j < length moves → All (λ (m : Move). m.vertex ≢ (get_or moves (n + j) d).vertex) (take n moves)
        apart j d here k e l q =
            let cut = length-take n moves in
            let low : k < n = omega arith in
            ends.once k (n + j) e (omega arith) here (ap (λ (x : Move). x.vertex) (sym (get_or-take n moves k e low)) ∙ q ∙ ap (λ (x : Move). x.vertex)
            (get_or_default moves (n + j) d e here))

pub prefix_left_by_part : (h : Hyper) (k : ℕ) (p : List ℕ) (moves : List Move) (n : ℕ) → n ≤ length moves → IsPartition h k p → EndAt h k p moves
    → undone p (take (length moves - n) (drop n moves)) ≡ replay_first (undone p moves) moves n
prefix_left_by_part h k p moves n short whole ends =
    ap (undone p) (take_all (length moves - n) (drop n moves) (let cut = length-drop n moves in omega arith)) ∙ prefix_left h k p moves n short whole ends
