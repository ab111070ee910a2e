-- The laws of what replayed moves save, keep and leave to be undone.
use Rattle.std.proofs.Common.{◌≡◌, ◌≢◌, ℕ, zero, suc, ◌+◌, ◌<◌, List, [], ◌∷◌, length, get_or, set, All, AllPairs, ℤ}
use Rattle.std.proofs.Common.{pos, ◌+ℤ◌, ◌-ℤ◌, refl, sym, ap, subst, ◌∙◌, arith, set-set}
use Rattle.std.specs.List.{range_with_len}
use Rattle.std.proofs.lemmas.Int.{ints}
use Rattle.std.proofs.lemmas.List.{set-get_or, set_comm}
use Rattle.std.proofs.lemmas.List.Elements.{All-head, All-tail}
use Rattle.hg_defs.specs.declared.moves.Move.{Move}
use Rattle.hg_defs.specs.Sums.{total_z}
use Rattle.hg_defs.specs.Hypergraph.{IsFree}
use Rattle.hg_defs.specs.Cost.{cost}
use Rattle.hg_defs.specs.Replay.{replay, replay_first, undone}
use Rattle.hg_defs.specs.ReplayLaws.{GainsAddUp, MovesLeavePartition, FreeMovesLeaveFixes, MovesAreUndone, MovesAreRedone}
use Rattle.hg_defs.proofs.ReplayLaws.{length-replay, replay-blocks, replay-apart}

-- differences of neighbours sum to the difference of the ends
telescope : (g : ℕ → ℕ) (a n : ℕ) → total_z (λ i. pos (g i) -ℤ pos (g (i + 1))) (range_with_len a n) ≡ pos (g a) -ℤ pos (g (a + n))
telescope g a zero = let e : a + 0 ≡ a = omega arith in subst (λ b. pos 0 ≡ pos (g a) -ℤ pos (g b)) (sym e) (nothing (g a))
  where
    nothing : (x : ℕ) → pos 0 ≡ pos x -ℤ pos x
    nothing x = omega (arith, ints)
telescope g a (suc n) =
    let e : a + 1 + n ≡ a + suc n = omega arith in
    let r : total_z (λ i. pos (g i) -ℤ pos (g (i + 1))) (range_with_len (a + 1) n) ≡ pos (g (a + 1)) -ℤ pos (g (a + suc n)) =
    subst (λ b. total_z (λ i. pos (g i) -ℤ pos (g (i + 1))) (range_with_len (a + 1) n) ≡ pos (g (a + 1)) -ℤ pos (g b)) e (telescope g (a + 1) n) in
    joined (g a) (g (a + 1)) (g (a + suc n)) (total_z (λ i. pos (g i) -ℤ pos (g (i + 1))) (range_with_len (a + 1) n)) r
  where
    joined : (x y z : ℕ) (t : ℤ) → t ≡ pos y -ℤ pos z → (pos x -ℤ pos y) +ℤ t ≡ pos x -ℤ pos z
    joined x y z t e = omega (arith, ints)

pub gains_add_up : GainsAddUp
gains_add_up h p moves i = let e : 0 + i ≡ i = omega arith in
    subst (λ j. total_z (λ c. pos (cost h (replay_first p moves c)) -ℤ pos (cost h (replay_first p moves (c + 1)))) (range_with_len 0 i) ≡ pos (cost h p) -ℤ
    pos (cost h (replay_first p moves j))) e (telescope (λ c. cost h (replay_first p moves c)) 0 i)

pub moves_leave_partition : MovesLeavePartition
moves_leave_partition h k p moves w low = record { vertices = length-replay p moves ∙ w.vertices; blocks = replay-blocks k p moves w.blocks low }

pub free_moves_leave_fixes : FreeMovesLeaveFixes
free_moves_leave_fixes h p moves o free v low fixed =
    replay-apart p moves v (λ i d m e. fixed (subst (IsFree h) e (free i d m))) ∙ o v low fixed

-- ---- undoing

-- the first of distinct moves is of another vertex than the others, and these are distinct
apart_first : (m : Move) (moves : List Move) → AllPairs (λ a b. a.vertex ≢ b.vertex) (m ∷ moves) → All (λ n. n.vertex ≢ m.vertex) moves
apart_first m moves a i d low = λ e. a 0 (suc i) d (omega arith) (omega arith) (sym e)

apart_rest : (m : Move) (moves : List Move) → AllPairs (λ a b. a.vertex ≢ b.vertex) (m ∷ moves) → AllPairs (λ a b. a.vertex ≢ b.vertex) moves
apart_rest m moves a i j d l n = a (suc i) (suc j) d (omega arith) (omega arith)

-- a block written at a vertex that doesn't move is written before or after the moves
set-replay : (p : List ℕ) (moves : List Move) (v b : ℕ) → All (λ m. m.vertex ≢ v) moves → set (replay p moves) v b ≡ replay (set p v b) moves
set-replay p [] v b a = refl
set-replay p (m ∷ moves) v b a =
    set-replay (set p m.vertex m.to) moves v b (All-tail (λ n. n.vertex ≢ v) m moves a)
    ∙ ap (λ q. replay q moves) (set_comm p m.vertex v m.to b (All-head (λ n. n.vertex ≢ v) m moves a))

set-undone : (p : List ℕ) (moves : List Move) (v b : ℕ) → All (λ m. m.vertex ≢ v) moves → set (undone p moves) v b ≡ undone (set p v b) moves
set-undone p [] v b a = refl
set-undone p (m ∷ moves) v b a =
    set-undone (set p m.vertex m.from) moves v b (All-tail (λ n. n.vertex ≢ v) m moves a)
    ∙ ap (λ q. undone q moves) (set_comm p m.vertex v m.from b (All-head (λ n. n.vertex ≢ v) m moves a))

-- a block is written over, and then its own block again
over_again : (p : List ℕ) (v b own : ℕ) → own ≡ get_or p v 0 → set (set p v b) v own ≡ p
over_again p v b own e = set-set p v b own ∙ ap (set p v) e ∙ set-get_or p v 0

pub moves_are_undone : MovesAreUndone
moves_are_undone p [] a l f = refl
moves_are_undone p (m ∷ moves) a l f =
    ap (λ q. undone q moves)
    (set-replay (set p m.vertex m.to) moves m.vertex m.from (apart_first m moves a)
    ∙ ap (λ q. replay q moves) (over_again p m.vertex m.to m.from (All-head (λ n. n.from ≡ get_or p n.vertex 0) m moves f)))
    ∙ moves_are_undone p moves (apart_rest m moves a) (All-tail (λ n. n.vertex < length p) m moves l) (All-tail (λ n. n.from ≡ get_or p n.vertex 0) m moves
    f)

pub moves_are_redone : MovesAreRedone
moves_are_redone p [] a l f = refl
moves_are_redone p (m ∷ moves) a l f =
    ap (λ q. replay q moves)
    (set-undone (set p m.vertex m.from) moves m.vertex m.to (apart_first m moves a)
    ∙ ap (λ q. undone q moves) (over_again p m.vertex m.from m.to (All-head (λ n. n.to ≡ get_or p n.vertex 0) m moves f)))
    ∙ moves_are_redone p moves (apart_rest m moves a) (All-tail (λ n. n.vertex < length p) m moves l) (All-tail (λ n. n.to ≡ get_or p n.vertex 0) m moves f)
