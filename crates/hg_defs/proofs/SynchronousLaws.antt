-- The laws of synchronous rounds.
use Rattle.std.proofs.Common.{◌≡◌, ◌≢◌, ℕ, zero, suc, ◌<◌, Bool, true, false, if◌then◌else◌, List, [], ◌∷◌, ◌++◌, map, length}
use Rattle.std.proofs.Common.{get_or, take, set, filter, All, AllPairs, Contains, Option, Some, None, is_some, ℤ, pos, ◌+ℤ◌, ◌-ℤ◌}
use Rattle.std.proofs.Common.{◌<ℤ◌, refl, sym, ap, subst, ◌∙◌, arith, true≢false, get_or-set_other}
use Rattle.std.proofs.lemmas.Int.{ints}
use Rattle.std.proofs.lemmas.List.Elements.{All-nil, All-cons, All-head, All-tail, All-contains, All-take, All-weaker, All-contains_itself}
use Rattle.std.proofs.lemmas.List.Kept.{AllPairs-cons}
use Rattle.std.proofs.lemmas.List.Sorted.{Contains-permutation, IsPermutation-sym}
use Rattle.std.proofs.lemmas.Bool.Decides.{Decides-eqb}
use Rattle.std.proofs.lemmas.Map.Made.{AllPairs-from_IsDistinct}
use Rattle.hg_defs.specs.declared.moves.Move.{Move}
use Rattle.hg_defs.specs.Sums.{total_z}
use Rattle.hg_defs.specs.Sorting.{sorted}
use Rattle.hg_defs.specs.Hypergraph.{Hyper, vertex_count, vertices, IsFree}
use Rattle.hg_defs.specs.Partition.{block_of, Fits}
use Rattle.hg_defs.specs.Cost.{cost}
use Rattle.hg_defs.specs.LeastLoaded.{heavier_first}
use Rattle.hg_defs.specs.Moves.{IsAllowed, IsSettled, moved, is_allowed, move_of}
use Rattle.hg_defs.specs.MoveLaws.{IsBestBlock, AreAllowedInTurn}
use Rattle.hg_defs.specs.Replay.{replay, replay_first, best_prefix}
use Rattle.hg_defs.specs.ReplayLaws.{IsBestPrefix}
use Rattle.hg_defs.specs.Synchronous.{wish, saving, wishing, granted_move, granted, sync_moves, sync}
use Rattle.hg_defs.specs.SynchronousLaws.{IsBookedInTurn, WishesAreBestMoves, WishesComeBySaving, SyncMovesAreWishes, SyncMovesAreOfDistinct}
use Rattle.hg_defs.specs.SynchronousLaws.{SyncMovesAreAllowed, SyncMovesAreBooked, SyncMovesComeFrom, SyncMovesSaveWhatTheyBook}
use Rattle.hg_defs.specs.SynchronousLaws.{SettledSyncMovesNothing, UnsettledSyncMoves, UnsettledSyncLowersCost, SettledSyncIsSame}
use Rattle.hg_defs.specs.SynchronousLaws.{SyncRaisesNoCost, SyncLeavesPartition, SyncLeavesFixes, SyncStaysWithinLimit}
use Rattle.hg_defs.proofs.SortLaws.{heavier_first_total, heavier_first_exact, Contains_head}
use Rattle.hg_defs.proofs.KeyLaws.{by_key-permutation, by_key-pairs, by_key-distinct, heavier_goes_first}
use Rattle.hg_defs.proofs.PlacementLaws.{Contains_vertices, Contains_filter, vertices_within, apart_vertices}
use Rattle.hg_defs.proofs.NumberingLaws.{Contains-from_filter, filter_none}
use Rattle.hg_defs.proofs.MoveLaws.{best_block_is, only_best_block, no_best_block, allowed_is, is_allowed_from, above_gain, none_gain, moved-fits}
use Rattle.hg_defs.proofs.ReplayLaws.{best_prefix_is}
use Rattle.hg_defs.proofs.UndoLaws.{moves_leave_partition, free_moves_leave_fixes}

-- ---- wishes

some_is : (o : Option ℕ) → is_some o ≡ true → (b : ℕ) × (o ≡ Some b)
some_is None e = absurd (true≢false (sym e))
some_is (Some b) e = (b, refl)

module _ (h : Hyper) (k l : ℕ) (p : List ℕ) where
  abbrev wishers : List ℕ
  wishers = filter (λ v. is_some (wish h k l p v)) (vertices h)

  Contains_wishing : (v : ℕ) → Contains (wishing h k l p) v → (v < vertex_count h) × ((b : ℕ) × (wish h k l p v ≡ Some b))
  Contains_wishing v c =
      let d = Contains-permutation (wishing h k l p) wishers v
      (IsPermutation-sym wishers (wishing h k l p) (by_key-permutation heavier_first (λ v. saving h p v (wish h k l p v)) wishers)) c in
      let x = Contains-from_filter (λ v. is_some (wish h k l p v)) (vertices h) v d in
      (All-contains (λ u. u < vertex_count h) (vertices h) v (vertices_within h) x.0, some_is (wish h k l p v) x.1)

  wishing_contains : (v b : ℕ) → v < vertex_count h → wish h k l p v ≡ Some b → Contains (wishing h k l p) v
  wishing_contains v b low e =
      Contains-permutation wishers (wishing h k l p) v (by_key-permutation heavier_first (λ v. saving h p v (wish h k l p v)) wishers)
      (Contains_filter (λ v. is_some (wish h k l p v)) (vertices h) v (Contains_vertices h v low) (ap is_some e))

  wishing_within : All (λ v. v < vertex_count h) (wishing h k l p)
  wishing_within = All-weaker (Contains (wishing h k l p)) (λ v. v < vertex_count h) (λ v c. (Contains_wishing v c).0) (wishing h k l p)
      (All-contains_itself (wishing h k l p))

  wishing_apart : AllPairs (λ u v. u ≢ v) (wishing h k l p)
  wishing_apart = AllPairs-from_IsDistinct Decides-eqb (wishing h k l p) (by_key-distinct heavier_first (λ v. saving h p v (wish h k l p v)) wishers
      (apart_vertices h (λ v. is_some (wish h k l p v))))

pub wishes_are_best : WishesAreBestMoves
wishes_are_best h k l p v = (
  λ c. let x = Contains_wishing h k l p v c in (x.0, (x.1.0, best_block_is h k l p v x.1.0 x.0 x.1.1)),
  λ x. wishing_contains h k l p v x.1.0 x.0 (only_best_block h k l p v x.1.0 x.1.1),
)

pub wishes_by_saving : WishesComeBySaving
wishes_by_saving h k l p i j d n m =
    heavier_goes_first (key (get_or (wishing h k l p) i d), get_or (wishing h k l p) i d) (key (get_or (wishing h k l p) j d), get_or (wishing h k l p) j d)
    (by_key-pairs heavier_first_total heavier_first_exact key (filter (λ v. is_some (wish h k l p v)) (vertices h))
    (apart_vertices h (λ v. is_some (wish h k l p v))) i j d n m)
  where
    key : ℕ → ℕ
    key v = saving h p v (wish h k l p v)

-- ---- moves that grant wishes

-- each of the moves is booked in its turn
pub AreBookedInTurn : Hyper → List ℕ → List Move → Type 0
AreBookedInTurn h p [] = Unit {0}
AreBookedInTurn h p (m ∷ moves) = IsBookedInTurn h p m × AreBookedInTurn h (set p m.vertex m.to) moves

module _ (h : Hyper) where
  booked_at : (p : List ℕ) (moves : List Move) → AreBookedInTurn h p moves → (i : ℕ) (d : Move) → i < length moves →
      IsBookedInTurn h (replay_first p moves i)
      (get_or moves i d)
  unfolding AreBookedInTurn
  booked_at p [] a i d low = absurd (omega arith)
  booked_at p (m ∷ moves) a zero d low = a.0
  booked_at p (m ∷ moves) a (suc i) d low = booked_at (set p m.vertex m.to) moves a.1 i d (omega arith)

  booked_saves : (p : List ℕ) (moves : List Move) → AreBookedInTurn h p moves → total_z (λ (m : Move). m.booked) moves ≡ pos (cost h p) -ℤ pos
      (cost h (replay p moves))
  unfolding AreBookedInTurn
  booked_saves p [] a = nothing (cost h p)
    where
      nothing : (x : ℕ) → pos 0 ≡ pos x -ℤ pos x
      nothing x = omega (arith, ints)
  booked_saves p (m ∷ moves) a =
      joined (cost h p) (cost h (moved p m.vertex m.to)) (cost h (replay (set p m.vertex m.to) moves)) m.booked (total_z (λ (m : Move). m.booked) moves)
      a.0.booked
      (booked_saves (set p m.vertex m.to) moves a.1)
    where
      joined : (x y z : ℕ) (s t : ℤ) → s ≡ pos x -ℤ pos y → t ≡ pos y -ℤ pos z → s +ℤ t ≡ pos x -ℤ pos z
      joined x y z s t e f = omega (arith, ints)

module _ (h : Hyper) (k l : ℕ) (p : List ℕ) where
  in_turn : (q : List ℕ) (m : Move) (moves : List Move) → IsAllowed h k l q m.vertex m.to → AreAllowedInTurn h k l (set q m.vertex m.to) moves →
      AreAllowedInTurn h k l q (m ∷ moves)
  in_turn q m moves a r zero d low = a
  in_turn q m moves a r (suc i) d low = r i d (omega arith)

  granted-allowed : (q vs : List ℕ) → All (λ v. v < vertex_count h) vs → AreAllowedInTurn h k l q (granted h k l p q vs)
  granted-allowed q [] low = λ i d m. absurd (omega arith)
  granted-allowed q (v ∷ vs) low = by (wish h k l p v) refl (λ r. granted-allowed r vs (All-tail (λ u. u < vertex_count h) v vs low))
    where
      inside : v < vertex_count h
      inside = All-head (λ u. u < vertex_count h) v vs low

      by : (o : Option ℕ) → wish h k l p v ≡ o → ((r : List ℕ) → AreAllowedInTurn h k l r (granted h k l p r vs))
          → AreAllowedInTurn h k l q (granted_move h l q v o ++ granted h k l p (replay q (granted_move h l q v o)) vs)
      by None e rest = rest q
      by (Some b) e rest = two (is_allowed h l q v b) refl
        where
          two : (t : Bool) → is_allowed h l q v b ≡ t → AreAllowedInTurn h k l q ((if t then move_of h q v b ∷ [] else []) ++ granted h k l p
              (replay q (if t then move_of h q v b ∷ [] else [])) vs)
          two true f = in_turn q (move_of h q v b) (granted h k l p (set q v b) vs)
              (allowed_is h k l q v b inside (best_block_is h k l p v b inside e).allowed.block f) (rest (set q v b))
          two false f = rest q

  granted-booked : (q vs : List ℕ) → AreBookedInTurn h q (granted h k l p q vs)
  unfolding AreBookedInTurn
  granted-booked q [] = tt
  granted-booked q (v ∷ vs) = by (wish h k l p v) (λ r. granted-booked r vs)
    where
      by : (o : Option ℕ) → ((r : List ℕ) → AreBookedInTurn h r (granted h k l p r vs)) →
          AreBookedInTurn h q (granted_move h l q v o ++ granted h k l p (replay q (granted_move h l q v o)) vs)
      by None rest = rest q
      by (Some b) rest = two (is_allowed h l q v b)
        where
          two : (t : Bool) → AreBookedInTurn h q ((if t then move_of h q v b ∷ [] else []) ++ granted h k l p
              (replay q (if t then move_of h q v b ∷ [] else [])) vs)
          two true = (record { from = refl; worker = refl; booked = refl }, rest (set q v b))
          two false = rest q

  -- what holds of each vertex and its wish holds of its move
  granted-all : (P : ℕ → ℕ → Type 0) (q vs : List ℕ) → All (λ v. (b : ℕ) → wish h k l p v ≡ Some b → P v b) vs → All (λ (m : Move). P m.vertex m.to)
      (granted h k l p q vs)
  granted-all P q [] all = All-nil (λ (m : Move). P m.vertex m.to)
  granted-all P q (v ∷ vs) all = by (wish h k l p v) refl (λ r. granted-all P r vs (All-tail (λ u. (b : ℕ) → wish h k l p u ≡ Some b → P u b) v vs all))
    where
      by : (o : Option ℕ) → wish h k l p v ≡ o → ((r : List ℕ) → All (λ (m : Move). P m.vertex m.to) (granted h k l p r vs))
          → All (λ (m : Move). P m.vertex m.to) (granted_move h l q v o ++ granted h k l p (replay q (granted_move h l q v o)) vs)
      by None e rest = rest q
      by (Some b) e rest = two (is_allowed h l q v b)
        where
          two : (t : Bool) → All (λ (m : Move). P m.vertex m.to) ((if t then move_of h q v b ∷ [] else []) ++ granted h k l p
              (replay q (if t then move_of h q v b ∷ [] else [])) vs)
          two true = All-cons (λ (m : Move). P m.vertex m.to) (move_of h q v b) (granted h k l p (set q v b) vs)
              (All-head (λ u. (c : ℕ) → wish h k l p u ≡ Some c → P u c) v vs all b e) (rest (set q v b))
          two false = rest q

  -- the first of distinct numbers differs from the others, and these are distinct
  first_apart : (v : ℕ) (vs : List ℕ) → AllPairs (λ x y. x ≢ y) (v ∷ vs) → All (λ u. v ≢ u) vs
  first_apart v vs a i d m = a 0 (suc i) d (omega arith) (omega arith)

  rest_apart : (v : ℕ) (vs : List ℕ) → AllPairs (λ x y. x ≢ y) (v ∷ vs) → AllPairs (λ x y. x ≢ y) vs
  rest_apart v vs a i j d n m = a (suc i) (suc j) d (omega arith) (omega arith)

  granted-apart : (q vs : List ℕ) → AllPairs (λ x y. x ≢ y) vs → AllPairs (λ (a b : Move). a.vertex ≢ b.vertex) (granted h k l p q vs)
  granted-apart q [] apart = λ i j d n m. absurd (omega arith)
  granted-apart q (v ∷ vs) apart = by (wish h k l p v) (λ r. granted-apart r vs (rest_apart v vs apart))
    where
      by : (o : Option ℕ) → ((r : List ℕ) → AllPairs (λ (a b : Move). a.vertex ≢ b.vertex) (granted h k l p r vs))
          → AllPairs (λ (a b : Move). a.vertex ≢ b.vertex) (granted_move h l q v o ++ granted h k l p (replay q (granted_move h l q v o)) vs)
      by None rest = rest q
      by (Some b) rest = two (is_allowed h l q v b)
        where
          two : (t : Bool) → AllPairs (λ (a b : Move). a.vertex ≢ b.vertex) ((if t then move_of h q v b ∷ [] else []) ++ granted h k l p
              (replay q (if t then move_of h q v b ∷ [] else [])) vs)
          two true =
              AllPairs-cons (λ (a b : Move). a.vertex ≢ b.vertex) (move_of h q v b) (granted h k l p (set q v b) vs)
              (granted-all (λ u c. v ≢ u) (set q v b) vs (All-weaker (λ u. v ≢ u) (λ u. (c : ℕ) → wish h k l p u ≡ Some c → v ≢ u) (λ u n c e. n) vs
              (first_apart v vs apart))) (rest (set q v b))
          two false = rest q

  granted-from : (q vs : List ℕ) → AllPairs (λ x y. x ≢ y) vs → All (λ u. block_of q u ≡ block_of p u) vs → All (λ (m : Move). m.from ≡ block_of p m.vertex)
      (granted h k l p q vs)
  granted-from q [] apart same = All-nil (λ (m : Move). m.from ≡ block_of p m.vertex)
  granted-from q (v ∷ vs) apart same = by (wish h k l p v) (λ r. granted-from r vs (rest_apart v vs apart))
    where
      others : All (λ u. block_of q u ≡ block_of p u) vs
      others = All-tail (λ u. block_of q u ≡ block_of p u) v vs same

      by : (o : Option ℕ) → ((r : List ℕ) → All (λ u. block_of r u ≡ block_of p u) vs → All (λ (m : Move). m.from ≡ block_of p m.vertex)
          (granted h k l p r vs))
          → All (λ (m : Move). m.from ≡ block_of p m.vertex) (granted_move h l q v o ++ granted h k l p (replay q (granted_move h l q v o)) vs)
      by None rest = rest q others
      by (Some b) rest = two (is_allowed h l q v b)
        where
          two : (t : Bool) → All (λ (m : Move). m.from ≡ block_of p m.vertex) ((if t then move_of h q v b ∷ [] else []) ++ granted h k l p
              (replay q (if t then move_of h q v b ∷ [] else [])) vs)
          two true =
              All-cons (λ (m : Move). m.from ≡ block_of p m.vertex) (move_of h q v b) (granted h k l p (set q v b) vs)
              (All-head (λ u. block_of q u ≡ block_of p u) v vs same)
              (rest (set q v b) (λ i d m. get_or-set_other q v (get_or vs i d) b 0 (λ e. first_apart v vs apart i d m (sym e)) ∙ others i d m))
          two false = rest q others

pub sync_moves-allowed : SyncMovesAreAllowed
sync_moves-allowed h k l p = granted-allowed h k l p p (wishing h k l p) (wishing_within h k l p)

pub sync_moves-booked : SyncMovesAreBooked
sync_moves-booked h k l p = booked_at h p (sync_moves h k l p) (granted-booked h k l p p (wishing h k l p))

pub sync_moves-saved : SyncMovesSaveWhatTheyBook
sync_moves-saved h k l p = booked_saves h p (sync_moves h k l p) (granted-booked h k l p p (wishing h k l p))

pub sync_moves-wishes : SyncMovesAreWishes
sync_moves-wishes h k l p =
    granted-all h k l p (IsBestBlock h k l p) p (wishing h k l p)
    (All-weaker (λ v. v < vertex_count h) (λ v. (b : ℕ) → wish h k l p v ≡ Some b → IsBestBlock h k l p v b) (λ v low b e. best_block_is h k l p v b low e)
    (wishing h k l p) (wishing_within h k l p))

pub sync_moves-distinct : SyncMovesAreOfDistinct
sync_moves-distinct h k l p = granted-apart h k l p p (wishing h k l p) (wishing_apart h k l p)

pub sync_moves-from : SyncMovesComeFrom
sync_moves-from h k l p = granted-from h k l p p (wishing h k l p) (wishing_apart h k l p) (λ i d m. refl)

-- ---- where there is a move

-- no vertex of a settled partition has a best block
no_wish : (h : Hyper) (k l : ℕ) (p : List ℕ) → IsSettled h k l p → (v : ℕ) → v < vertex_count h → wish h k l p v ≡ None
no_wish h k l p s v low = by (wish h k l p v) refl
  where
    by : (o : Option ℕ) → wish h k l p v ≡ o → o ≡ None
    by None e = refl
    by (Some b) e =
        let x = best_block_is h k l p v b low e in
        let g = above_gain (cost h p) (cost h (moved p v b)) x.gains in
        let q = s v b x.allowed in
        absurd (omega arith)

pub settled-nothing : SettledSyncMovesNothing
settled-nothing h k l p s =
    ap (λ vs. granted h k l p p (map (λ (a : ℕ × ℕ). a.1) (sorted heavier_first (map (λ v. (saving h p v (wish h k l p v), v)) vs))))
    (filter_none (λ v. is_some (wish h k l p v)) (vertices h)
    (All-weaker (λ v. v < vertex_count h) (λ v. is_some (wish h k l p v) ≡ false) (λ v low. ap is_some (no_wish h k l p s v low)) (vertices h)
    (vertices_within h)))

-- the first move of an unsettled partition
record First (h : Hyper) (k l : ℕ) (p : List ℕ) : Type 0 where
  vertex : ℕ
  to : ℕ
  others : List Move
  best : IsBestBlock h k l p vertex to
  is : sync_moves h k l p ≡ move_of h p vertex to ∷ others

first_move : (h : Hyper) (k l : ℕ) (p : List ℕ) → (IsSettled h k l p → ⊥) → First h k l p
first_move h k l p unsettled = by (wishing h k l p) refl
  where
    no_wishers : wishing h k l p ≡ [] → IsSettled h k l p
    no_wishers e v b a = none_gain (cost h p) (cost h (moved p v b)) (no_best_block h k l p v b (none (wish h k l p v) refl) a)
      where
        none : (o : Option ℕ) → wish h k l p v ≡ o → wish h k l p v ≡ None
        none None f = f
        none (Some c) f = absurd (empty (subst (λ vs. Contains vs v) e (wishing_contains h k l p v c a.vertex f)))
          where
            empty : Contains [] v → ⊥
            empty x = let n = x.1 in omega arith

    by : (vs : List ℕ) → wishing h k l p ≡ vs → First h k l p
    by [] e = absurd (unsettled (no_wishers e))
    by (v ∷ vs) e = one (Contains_wishing h k l p v (subst (λ us. Contains us v) (sym e) (Contains_head v vs)))
      where
        one : (v < vertex_count h) × ((b : ℕ) × (wish h k l p v ≡ Some b)) → First h k l p
        one x = record {
          vertex = v;
          to = x.1.0;
          others = granted h k l p (set p v x.1.0) vs;
          best = best;
          is =
              ap (granted h k l p p) e
              ∙ ap (λ o. granted_move h l p v o ++ granted h k l p (replay p (granted_move h l p v o)) vs) x.1.1
              ∙ ap (λ (t : Bool). (if t then move_of h p v x.1.0 ∷ [] else []) ++ granted h k l p (replay p (if t then move_of h p v x.1.0 ∷ [] else []))
              vs)
              (is_allowed_from h k l p v x.1.0 best.allowed);
        }
          where
            best : IsBestBlock h k l p v x.1.0
            best = best_block_is h k l p v x.1.0 x.0 x.1.1

pub unsettled-moves : UnsettledSyncMoves
unsettled-moves h k l p d unsettled = by (first_move h k l p unsettled)
  where
    by : First h k l p → (0 < length (sync_moves h k l p)) × (pos 0 <ℤ (get_or (sync_moves h k l p) 0 d).booked)
    by f = (
      subst (λ (moves : List Move). 0 < length moves) (sym f.is) (omega arith),
      subst (λ (moves : List Move). pos 0 <ℤ (get_or moves 0 d).booked) (sym f.is) f.best.gains,
    )

-- ---- the partition kept

best_of : (h : Hyper) (k l : ℕ) (p : List ℕ) → Fits h k l p → IsBestPrefix h k l p (sync_moves h k l p) (best_prefix h k l p (sync_moves h k l p))
best_of h k l p f = best_prefix_is h k l p (sync_moves h k l p) f

pub unsettled-lower : UnsettledSyncLowersCost
unsettled-lower h k l p whole f unsettled = by (first_move h k l p unsettled)
  where
    by : First h k l p → cost h (sync h k l p) < cost h p
    by x =
        let one : replay_first p (sync_moves h k l p) 1 ≡ moved p x.vertex x.to = ap (λ (moves : List Move). replay_first p moves 1) x.is in
        let low = (best_of h k l p f).cheapest 1 (subst (Fits h k l) (sym one) (moved-fits h k l p x.vertex x.to whole f x.best.allowed)) in
        let less = above_gain (cost h p) (cost h (moved p x.vertex x.to)) x.best.gains in
        let same = ap (cost h) one in
        omega arith

pub sync-no_dearer : SyncRaisesNoCost
sync-no_dearer h k l p f = (best_of h k l p f).cheapest 0 f

take_nil : (moves : List Move) (j : ℕ) → moves ≡ [] → take j moves ≡ []
take_nil [] zero e = refl
take_nil [] (suc j) e = refl
take_nil (m ∷ moves) j e = absurd (cc)

pub settled-same : SettledSyncIsSame
settled-same h k l p s =
    ap (replay p) (take_nil (sync_moves h k l p) (best_prefix h k l p (sync_moves h k l p)) (settled-nothing h k l p s))

pub sync-partition : SyncLeavesPartition
sync-partition h k l p w =
    moves_leave_partition h k p (take (best_prefix h k l p (sync_moves h k l p)) (sync_moves h k l p)) w
    (All-take (λ (m : Move). m.to < k) (best_prefix h k l p (sync_moves h k l p)) (sync_moves h k l p)
    (λ i d low. (sync_moves-wishes h k l p i d low).allowed.block))

pub sync-obeys : SyncLeavesFixes
sync-obeys h k l p o =
    free_moves_leave_fixes h p (take (best_prefix h k l p (sync_moves h k l p)) (sync_moves h k l p)) o
    (All-take (λ (m : Move). IsFree h m.vertex) (best_prefix h k l p (sync_moves h k l p)) (sync_moves h k l p)
    (λ i d low. (sync_moves-wishes h k l p i d low).allowed.free))

pub sync-fits : SyncStaysWithinLimit
sync-fits h k l p f = (best_of h k l p f).fits
