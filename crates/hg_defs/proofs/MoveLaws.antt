-- Laws of single moves, of sweeps, and of what a move changes.
use Rattle.std.proofs.Common.{◌≡◌, ◌≢◌, ℕ, zero, suc, ◌+◌, ◌*◌, ◌<◌, ◌≤◌, ◌⊎◌, inl, inr, Bool, true, false}
use Rattle.std.proofs.Common.{not, ◌&&◌, if◌then◌else◌, nat_eq, nat_lt, nat_le}
use Rattle.std.proofs.Common.{List, [], ◌∷◌, ◌++◌, map, length, get_or, slice_set, All, AllPairs, Contains}
use Rattle.std.proofs.Common.{Option, Some, None, option_map, option_to_list, ℤ}
use Rattle.std.proofs.Common.{pos, ◌+ℤ◌, ◌-ℤ◌, ◌<ℤ◌, ◌≤ℤ◌, refl, sym, ap, ◌∙◌, subst, arith, true≢false, length-set, get_or-set_other}
use Rattle.std.proofs.lemmas.Bool.{and_parts, and_from, not-true, not_from_false, eqb-true, eqb-false, ne_eqb, eq-eqb}
use Rattle.std.proofs.lemmas.Bool.{leb-true, le-leb, ltb-true, ltb-false, cases_lt, cases_eq, cases_order}
use Rattle.std.proofs.lemmas.Bool.Decides.{Decides-eqb}
use Rattle.std.proofs.lemmas.Int.{ints}
use Rattle.std.proofs.lemmas.List.Elements.{All-nil, All-head, All-tail, All-cons, All-set, All-weaker, All-contains, filter_passes, All-filter}
use Rattle.std.proofs.lemmas.List.FromFn.{length-range_with_len, get_or-range_with_len, fill_by_all}
use Rattle.std.proofs.lemmas.List.Kept.{AllPairs-cons}
use Rattle.std.proofs.lemmas.Map.Made.{is_member-Decides}
use Rattle.std.specs.List.{range_with_len}
use Rattle.std.specs.Set.{is_member}
use Rattle.hg_defs.specs.declared.moves.Move.{Move}
use Rattle.hg_defs.specs.declared.objective.TheConstants.{FREE}
use Rattle.hg_defs.specs.Sums.{total_z}
use Rattle.hg_defs.specs.Hypergraph.{IsNet, Hyper, IsHypergraph, vertex_count, net_count, net_of, vertices, weight_of, is_free, fix_of}
use Rattle.hg_defs.specs.Partition.{IsPartition, Obeys, Fits, block_of, load}
use Rattle.hg_defs.specs.Cost.{connectivity, price, net_cost, cost}
use Rattle.hg_defs.specs.Moves.{sweep, IsAllowed, moved, gain, is_allowed, is_better, best_block, move_of, visits}
use Rattle.hg_defs.specs.Replay.{replay, replay_first}
use Rattle.hg_defs.specs.Incidence.{nets_of}
use Rattle.hg_defs.specs.MoveLaws.{IsBestBlock, IsBestMove, connectivity_after, net_gain, BestBlockIsBest, OnlyBestBlockIsBest}
use Rattle.hg_defs.specs.MoveLaws.{NoBestBlockGainsNothing, EmptySweepIsSettled, SettledSweepIsEmpty, SweepMakesBestMoves, SweepRises}
use Rattle.hg_defs.specs.MoveLaws.{SweepSavesWhatItBooks, SweepLowersCost, SweepIsAllowed, AreAllowedInTurn, AllowedMovesArePartition}
use Rattle.hg_defs.specs.MoveLaws.{AllowedMovesObey, AllowedMovesFit, AllowedMoveIsPartition, AllowedMoveObeys, AllowedMoveFits, MoveRaisesLoad}
use Rattle.hg_defs.specs.MoveLaws.{MoveLowersLoad, MoveKeepsOtherLoads, ConnectivityCountsBlocks, GainIsLocal}
use Rattle.hg_defs.proofs.SumLaws.{weight_in-set_new, weight_in-set_old, weight_in-set_other, total_z-map, total_z-filter, total_z-same, total_z-difference}
use Rattle.hg_defs.proofs.DistinctLaws.{connectivity-sum, blocks_of_pins, connectivity-set, connectivity-set_apart}
use Rattle.hg_defs.proofs.PlacementLaws.{Contains_vertices, vertices_within}
use Rattle.hg_defs.proofs.SortLaws.{Contains_head, Contains_later, Contains-cons_cases, Contains-nil}

-- ---- gains and costs

gain_above : (a b : ℕ) → b < a → pos 0 <ℤ (pos a -ℤ pos b)
gain_above a b l = omega (arith, ints)

pub above_gain : (a b : ℕ) → pos 0 <ℤ (pos a -ℤ pos b) → b < a
above_gain a b l = omega (arith, ints)

gain_none : (a b : ℕ) → a ≤ b → (pos a -ℤ pos b) ≤ℤ pos 0
gain_none a b l = omega (arith, ints)

pub none_gain : (a b : ℕ) → (pos a -ℤ pos b) ≤ℤ pos 0 → a ≤ b
none_gain a b l = omega (arith, ints)

gain_less : (a b c : ℕ) → b ≤ c → (pos a -ℤ pos c) ≤ℤ (pos a -ℤ pos b)
gain_less a b c l = omega (arith, ints)

less_gain : (a b c : ℕ) → (pos a -ℤ pos c) ≤ℤ (pos a -ℤ pos b) → b ≤ c
less_gain a b c l = omega (arith, ints)

gain_below : (a b c : ℕ) → b < c → (pos a -ℤ pos c) <ℤ (pos a -ℤ pos b)
gain_below a b c l = omega (arith, ints)

below_gain : (a b c : ℕ) → (pos a -ℤ pos c) <ℤ (pos a -ℤ pos b) → b < c
below_gain a b c l = omega (arith, ints)

-- ---- allowed moves

pub allowed_is : (h : Hyper) (k l : ℕ) (p : List ℕ) (v b : ℕ) → v < vertex_count h → b < k → is_allowed h l p v b ≡ true → IsAllowed h k l p v b
allowed_is h k l p v b inside low e =
    let both = and_parts (is_free h v && not (nat_eq b (block_of p v))) (nat_le (load h p b + weight_of h v) l) e in
    let first = and_parts (is_free h v) (not (nat_eq b (block_of p v))) both.0 in
    record {
      vertex = inside;
      free = eqb-true (fix_of h v) FREE first.0;
      block = low;
      other = eqb-false b (block_of p v) (not-true (nat_eq b (block_of p v)) first.1);
      room = leb-true (load h p b + weight_of h v) l both.1;
    }

pub is_allowed_from : (h : Hyper) (k l : ℕ) (p : List ℕ) (v b : ℕ) → IsAllowed h k l p v b → is_allowed h l p v b ≡ true
is_allowed_from h k l p v b a =
    and_from (is_free h v && not (nat_eq b (block_of p v))) (nat_le (load h p b + weight_of h v) l)
    (and_from (is_free h v) (not (nat_eq b (block_of p v))) (eq-eqb (fix_of h v) FREE a.free)
    (not_from_false (nat_eq b (block_of p v)) (ne_eqb b (block_of p v) a.other)))
    (le-leb (load h p b + weight_of h v) l a.room)

-- ---- the best block

module _ (allowed : ℕ → Bool) (c : ℕ → ℕ) (base : ℕ) where
  better : Option ℕ → ℕ → Bool
  better None b = nat_lt (c b) base
  better (Some a) b = nat_lt (c b) (c a)

  -- the first of the allowed numbers below n at which c is least, where that is below the base
  record Picked (n a : ℕ) : Type 0 where
    below : a < n
    is : allowed a ≡ true
    gains : c a < base
    least : (b : ℕ) → b < n → allowed b ≡ true → c a ≤ c b
    first : (b : ℕ) → b < a → allowed b ≡ true → c a < c b

  abbrev Pick : Option ℕ → ℕ → Type 0
  Pick None n = (b : ℕ) → b < n → allowed b ≡ true → base ≤ c b
  Pick (Some a) n = Picked n a

  pick_step : (n : ℕ) (o : Option ℕ) → Pick o n → (s t : Bool) → allowed n ≡ s → better o n ≡ t → Pick (if s && t then Some n else o) (suc n)
  unfolding better
  pick_step n None d true true e f = record {
    below = omega arith;
    is = e;
    gains = ltb-true (c n) base f;
    least = λ b l a. upto b l a (cases_lt b n);
    first = λ b l a. let x = d b l a in let y = ltb-true (c n) base f in omega arith;
  }
    where
      upto : (b : ℕ) → b < suc n → allowed b ≡ true → (b < n) ⊎ (n ≤ b) → c n ≤ c b
      upto b l a (inl q) = let x = d b q a in let y = ltb-true (c n) base f in omega arith
      upto b l a (inr q) = let s : n ≡ b = omega arith in subst (λ x. c n ≤ c x) s (omega arith)
  pick_step n None d true false e f = λ b l a. upto b l a (cases_lt b n)
    where
      upto : (b : ℕ) → b < suc n → allowed b ≡ true → (b < n) ⊎ (n ≤ b) → base ≤ c b
      upto b l a (inl q) = d b q a
      upto b l a (inr q) = let s : n ≡ b = omega arith in subst (λ x. base ≤ c x) s (ltb-false (c n) base f)
  pick_step n None d false t e f = λ b l a. upto b l a (cases_lt b n)
    where
      upto : (b : ℕ) → b < suc n → allowed b ≡ true → (b < n) ⊎ (n ≤ b) → base ≤ c b
      upto b l a (inl q) = d b q a
      upto b l a (inr q) = let s : b ≡ n = omega arith in absurd (true≢false (sym a ∙ ap allowed s ∙ e))
  pick_step n (Some m) d true true e f = record {
    below = omega arith;
    is = e;
    gains = let x = d.gains in let y = ltb-true (c n) (c m) f in omega arith;
    least = λ b l a. upto b l a (cases_lt b n);
    first = λ b l a. let x = d.least b l a in let y = ltb-true (c n) (c m) f in omega arith;
  }
    where
      upto : (b : ℕ) → b < suc n → allowed b ≡ true → (b < n) ⊎ (n ≤ b) → c n ≤ c b
      upto b l a (inl q) = let x = d.least b q a in let y = ltb-true (c n) (c m) f in omega arith
      upto b l a (inr q) = let s : n ≡ b = omega arith in subst (λ x. c n ≤ c x) s (omega arith)
  pick_step n (Some m) d true false e f = record {
    below = let x = d.below in omega arith;
    is = d.is;
    gains = d.gains;
    least = λ b l a. upto b l a (cases_lt b n);
    first = d.first;
  }
    where
      upto : (b : ℕ) → b < suc n → allowed b ≡ true → (b < n) ⊎ (n ≤ b) → c m ≤ c b
      upto b l a (inl q) = d.least b q a
      upto b l a (inr q) = let s : n ≡ b = omega arith in subst (λ x. c m ≤ c x) s (ltb-false (c n) (c m) f)
  pick_step n (Some m) d false t e f = record {
    below = let x = d.below in omega arith;
    is = d.is;
    gains = d.gains;
    least = λ b l a. upto b l a (cases_lt b n);
    first = d.first;
  }
    where
      upto : (b : ℕ) → b < suc n → allowed b ≡ true → (b < n) ⊎ (n ≤ b) → c m ≤ c b
      upto b l a (inl q) = d.least b q a
      upto b l a (inr q) = let s : b ≡ n = omega arith in absurd (true≢false (sym a ∙ ap allowed s ∙ e))

module _ (h : Hyper) (l : ℕ) (p : List ℕ) (v : ℕ) where
  better_is : (o : Option ℕ) (b : ℕ) → better (λ c. is_allowed h l p v c) (λ c. cost h (moved p v c)) (cost h p) o b ≡ is_better h p v o b
  unfolding better
  better_is None b = refl
  better_is (Some a) b = refl

  best_picked : (n : ℕ) → Pick (λ c. is_allowed h l p v c) (λ c. cost h (moved p v c)) (cost h p) (best_block h l p v n) n
  best_picked zero = λ b m a. absurd (omega arith)
  best_picked (suc n) =
      pick_step (λ c. is_allowed h l p v c) (λ c. cost h (moved p v c)) (cost h p) n (best_block h l p v n) (best_picked n) (is_allowed h l p v n)
      (is_better h p v (best_block h l p v n) n) refl
      (better_is (best_block h l p v n) n)

  best_some : (n a : ℕ) → best_block h l p v n ≡ Some a → Picked (λ c. is_allowed h l p v c) (λ c. cost h (moved p v c)) (cost h p) n a
  best_some n a e = subst (λ o. Pick (λ c. is_allowed h l p v c) (λ c. cost h (moved p v c)) (cost h p) o n) e (best_picked n)

  best_none : (n : ℕ) → best_block h l p v n ≡ None → (b : ℕ) → b < n → is_allowed h l p v b ≡ true → cost h p ≤ cost h (moved p v b)
  best_none n e = subst (λ o. Pick (λ c. is_allowed h l p v c) (λ c. cost h (moved p v c)) (cost h p) o n) e (best_picked n)

pub best_block_is : BestBlockIsBest
best_block_is h k l p v b inside e = record {
  allowed = allowed_is h k l p v b inside x.below x.is;
  gains = gain_above (cost h p) (cost h (moved p v b)) x.gains;
  highest = λ c a. gain_less (cost h p) (cost h (moved p v b)) (cost h (moved p v c)) (x.least c a.block (is_allowed_from h k l p v c a));
  lowest = λ c m a. gain_below (cost h p) (cost h (moved p v b)) (cost h (moved p v c)) (x.first c m (is_allowed_from h k l p v c a));
}
  where
    x : Picked (λ c. is_allowed h l p v c) (λ c. cost h (moved p v c)) (cost h p) k b
    x = best_some h l p v k b e

pub no_best_block : NoBestBlockGainsNothing
no_best_block h k l p v b e a = gain_none (cost h p) (cost h (moved p v b)) (best_none h l p v k e b a.block (is_allowed_from h k l p v b a))

pub only_best_block : OnlyBestBlockIsBest
only_best_block h k l p v b is = by (best_block h l p v k) refl
  where
    by : (o : Option ℕ) → best_block h l p v k ≡ o → o ≡ Some b
    by None e =
        let a = best_none h l p v k e b is.allowed.block (is_allowed_from h k l p v b is.allowed) in
        let g = above_gain (cost h p) (cost h (moved p v b)) is.gains in
        absurd (omega arith)
    by (Some a) e = ap Some (order (cases_order a b))
      where
        other : IsBestBlock h k l p v a
        other = best_block_is h k l p v a is.allowed.vertex e

        order : (a ≡ b) ⊎ ((a < b) ⊎ (b < a)) → a ≡ b
        order (inl q) = q
        order (inr (inl m)) =
            let x = below_gain (cost h p) (cost h (moved p v b)) (cost h (moved p v a)) (is.lowest a m other.allowed) in
            let y = less_gain (cost h p) (cost h (moved p v a)) (cost h (moved p v b)) (other.highest b is.allowed) in
            absurd (omega arith)
        order (inr (inr m)) =
            let x = below_gain (cost h p) (cost h (moved p v a)) (cost h (moved p v b)) (other.lowest b m is.allowed) in
            let y = less_gain (cost h p) (cost h (moved p v b)) (cost h (moved p v a)) (is.highest a other.allowed) in
            absurd (omega arith)

-- ---- sweeps

module _ (h : Hyper) (k l : ℕ) where
  no_visit : (p vs : List ℕ) → visits h k l p vs ≡ [] → (v : ℕ) → Contains vs v → best_block h l p v k ≡ None
  no_visit p [] e v c = absurd (Contains-nil v c)
  no_visit p (u ∷ vs) e v c = by (best_block h l p u k) refl e (Contains-cons_cases u vs v c) (no_visit p vs)
    where
      by : (o : Option ℕ) → best_block h l p u k ≡ o → option_to_list (option_map (move_of h p u) o) ++ visits h k l
          (replay p (option_to_list (option_map (move_of h p u) o))) vs ≡ []
          → (u ≡ v) ⊎ Contains vs v → (visits h k l p vs ≡ [] → (w : ℕ) → Contains vs w → best_block h l p w k ≡ None) → best_block h l p v k ≡ None
      by None f g (inl q) r = subst (λ w. best_block h l p w k ≡ None) q f
      by None f g (inr t) r = r g v t
      by (Some a) f g q r = absurd (cons_is_nil (move_of h p u a) (visits h k l (slice_set p u a) vs) g)
        where
          cons_is_nil : (m : Move) (ms : List Move) → (m ∷ ms) ≡ [] → ⊥
          cons_is_nil m ms e = cc

  visits_none : (p vs : List ℕ) → ((v : ℕ) → Contains vs v → best_block h l p v k ≡ None) → visits h k l p vs ≡ []
  visits_none p [] h' = refl
  visits_none p (u ∷ vs) h' =
      ap (λ o. option_to_list (option_map (move_of h p u) o) ++ visits h k l (replay p (option_to_list (option_map (move_of h p u) o))) vs)
      (h' u (Contains_head u vs))
      ∙ visits_none p vs (λ v c. h' v (Contains_later u vs v c))

pub empty_sweep : EmptySweepIsSettled
empty_sweep h k l p e v b a =
    best_none h l p v k (no_visit h k l p (vertices h) e v (Contains_vertices h v a.vertex)) b a.block (is_allowed_from h k l p v b a)

pub settled_sweep : SettledSweepIsEmpty
settled_sweep h k l p s = visits_none h k l p (vertices h) each
  where
    each : (v : ℕ) → Contains (vertices h) v → best_block h l p v k ≡ None
    each v c = by (best_block h l p v k) refl
      where
        inside : v < vertex_count h
        inside = All-contains (λ u. u < vertex_count h) (vertices h) v (vertices_within h) c

        by : (o : Option ℕ) → best_block h l p v k ≡ o → o ≡ None
        by None e = refl
        by (Some b) e =
            let x = best_block_is h k l p v b inside e in
            let g = above_gain (cost h p) (cost h (moved p v b)) x.gains in
            let q = s v b x.allowed in
            absurd (omega arith)

module _ (h : Hyper) (k l : ℕ) where
  visits_best : (vs p : List ℕ) → All (λ v. v < vertex_count h) vs → (i : ℕ) (d : Move) → i < length (visits h k l p vs) →
      IsBestMove h k l (replay_first p (visits h k l p vs) i) (get_or (visits h k l p vs) i d)
  visits_best [] p a i d m = absurd (omega arith)
  visits_best (v ∷ vs) p a i d m = by (best_block h l p v k) refl (λ q. visits_best vs q (All-tail (λ u. u < vertex_count h) v vs a)) i m
    where
      by : (o : Option ℕ) → best_block h l p v k ≡ o
          → ((q : List ℕ) (j : ℕ) (e : Move) → j < length (visits h k l q vs) → IsBestMove h k l (replay_first q (visits h k l q vs) j)
          (get_or (visits h k l q vs) j e))
          → (j : ℕ) → j < length (option_to_list (option_map (move_of h p v) o) ++ visits h k l (replay p (option_to_list (option_map (move_of h p v) o)))
          vs)
          → IsBestMove h k l
          (replay_first p (option_to_list (option_map (move_of h p v) o) ++ visits h k l (replay p (option_to_list (option_map (move_of h p v) o))) vs) j)
          (get_or (option_to_list (option_map (move_of h p v) o) ++ visits h k l (replay p (option_to_list (option_map (move_of h p v) o))) vs) j d)
      by None e r j n = r p j d n
      by (Some b) e r zero n = record {
        best = best_block_is h k l p v b (All-head (λ u. u < vertex_count h) v vs a) e;
        from = refl;
        worker = refl;
        booked = refl;
      }
      by (Some b) e r (suc j) n = r (slice_set p v b) j d (omega arith)

  visits_from : (a : ℕ) (vs p : List ℕ) → All (λ v. a ≤ v) vs → All (λ m. a ≤ m.vertex) (visits h k l p vs)
  visits_from a [] p h' = All-nil (λ m. a ≤ m.vertex)
  visits_from a (v ∷ vs) p h' = by (best_block h l p v k) (λ q. visits_from a vs q (All-tail (λ u. a ≤ u) v vs h'))
    where
      by : (o : Option ℕ) → ((q : List ℕ) → All (λ m. a ≤ m.vertex) (visits h k l q vs)) →
          All (λ m. a ≤ m.vertex) (option_to_list (option_map (move_of h p v) o) ++ visits h k l (replay p (option_to_list (option_map (move_of h p v) o)))
          vs)
      by None r = r p
      by (Some b) r = All-cons (λ m. a ≤ m.vertex) (move_of h p v b) (visits h k l (slice_set p v b) vs) (All-head (λ u. a ≤ u) v vs h')
          (r (slice_set p v b))

  range_from : (a n : ℕ) → All (λ v. a ≤ v) (range_with_len a n)
  range_from a n i d m = let e = get_or-range_with_len a n i d (let x = length-range_with_len a n in omega arith) in omega arith

  visits_rise : (a n : ℕ) (p : List ℕ) → AllPairs (λ (x y : Move). x.vertex < y.vertex) (visits h k l p (range_with_len a n))
  visits_rise a zero p = λ i j d m q. absurd (omega arith)
  visits_rise a (suc n) p = by (best_block h l p a k) (visits_rise (a + 1) n)
    where
      by : (o : Option ℕ) → ((q : List ℕ) → AllPairs (λ (x y : Move). x.vertex < y.vertex) (visits h k l q (range_with_len (a + 1) n)))
          → AllPairs (λ (x y : Move). x.vertex < y.vertex) (option_to_list (option_map (move_of h p a) o) ++ visits h k l
          (replay p (option_to_list (option_map (move_of h p a) o))) (range_with_len (a + 1) n))
      by None r = r p
      by (Some b) r =
          AllPairs-cons (λ (x y : Move). x.vertex < y.vertex) (move_of h p a b) (visits h k l (slice_set p a b) (range_with_len (a + 1) n))
          (All-weaker (λ (m : Move). a + 1 ≤ m.vertex) (λ (m : Move). a < m.vertex) (λ m q. omega arith)
          (visits h k l (slice_set p a b) (range_with_len (a + 1) n)) (visits_from (a + 1) (range_with_len (a + 1) n) (slice_set p a b)
          (range_from (a + 1) n)))
          (r (slice_set p a b))

  visits_save : (vs p : List ℕ) → total_z (λ (m : Move). m.booked) (visits h k l p vs) ≡ pos (cost h p) -ℤ pos (cost h (replay p (visits h k l p vs)))
  visits_save [] p = nothing (cost h p)
    where
      nothing : (a : ℕ) → pos 0 ≡ pos a -ℤ pos a
      nothing a = omega (arith, ints)
  visits_save (v ∷ vs) p = by (best_block h l p v k) (visits_save vs)
    where
      joined : (a b c : ℕ) (z : ℤ) → z ≡ pos b -ℤ pos c → (pos a -ℤ pos b) +ℤ z ≡ pos a -ℤ pos c
      joined a b c z e = omega (arith, ints)

      by : (o : Option ℕ) → ((q : List ℕ) → total_z (λ (m : Move). m.booked) (visits h k l q vs) ≡ pos (cost h q) -ℤ pos
          (cost h (replay q (visits h k l q vs))))
          → total_z (λ (m : Move). m.booked) (option_to_list (option_map (move_of h p v) o) ++ visits h k l
          (replay p (option_to_list (option_map (move_of h p v) o))) vs)
          ≡ pos (cost h p) -ℤ pos (cost h (replay p (option_to_list (option_map (move_of h p v) o) ++ visits h k l
          (replay p (option_to_list (option_map (move_of h p v) o))) vs)))
      by None r = r p
      by (Some b) r = joined (cost h p) (cost h (slice_set p v b)) (cost h (replay (slice_set p v b) (visits h k l (slice_set p v b) vs)))
          (total_z (λ (m : Move). m.booked) (visits h k l (slice_set p v b) vs)) (r (slice_set p v b))

pub sweep_best : SweepMakesBestMoves
sweep_best h k l p i d m = visits_best h k l (vertices h) p (vertices_within h) i d m

pub sweep_rises : SweepRises
sweep_rises h k l p i j d m q = visits_rise h k l 0 (vertex_count h) p i j d m q

pub sweep_saves : SweepSavesWhatItBooks
sweep_saves h k l p = visits_save h k l (vertices h) p

-- ---- what a move changes

pub moved-partition : AllowedMoveIsPartition
moved-partition h k l p v b whole a = record {
  vertices = length-set p v b ∙ whole.vertices;
  blocks = All-set (λ c. c < k) p v b a.block whole.blocks;
}

pub moved-obeys : AllowedMoveObeys
moved-obeys h k l p v b o a u m f = by (cases_eq u v)
  where
    by : (u ≡ v) ⊎ (u ≡ v → ⊥) → block_of (moved p v b) u ≡ fix_of h u
    by (inl e) = absurd (f (ap (fix_of h) e ∙ a.free))
    by (inr n) = get_or-set_other p v u b 0 n ∙ o u m f

pub load-moved_new : MoveRaisesLoad
load-moved_new h p v b e m n = weight_in-set_new h.weights p v b m (omega arith) n

pub load-moved_old : MoveLowersLoad
load-moved_old h p v b e m n = weight_in-set_old h.weights p v b (block_of p v) m (omega arith) refl n

pub load-moved_other : MoveKeepsOtherLoads
load-moved_other h p v b c e m n q = weight_in-set_other h.weights p v b c m (omega arith) n q

pub moved-fits : AllowedMoveFits
moved-fits h k l p v b whole f a c low = by (cases_eq c b) (cases_eq c (block_of p v))
  where
    by : (c ≡ b) ⊎ (c ≡ b → ⊥) → (c ≡ block_of p v) ⊎ (c ≡ block_of p v → ⊥) → load h (moved p v b) c ≤ l
    by (inl e) q = subst (λ d. load h (moved p v b) d ≤ l) (sym e) (let x = load-moved_new h p v b whole.vertices a.vertex a.other in let y = a.room in
        omega arith)
    by (inr n) (inl e) =
        let x = load-moved_old h p v b whole.vertices a.vertex a.other in
        let y = f c low in
        subst (λ d. load h (moved p v b) d ≤ l) (sym e) (let z : load h p (block_of p v) ≤ l = subst (λ d. load h p d ≤ l) e y in omega arith)
    by (inr n) (inr q) = let x = load-moved_other h p v b c whole.vertices a.vertex q n in let y = f c low in omega arith

-- ---- moves that are allowed in turn

module _ (h : Hyper) (k l : ℕ) where
  first_allowed : (p : List ℕ) (m : Move) (moves : List Move) → AreAllowedInTurn h k l p (m ∷ moves) → IsAllowed h k l p m.vertex m.to
  first_allowed p m moves a = a 0 m (omega arith)

  rest_allowed : (p : List ℕ) (m : Move) (moves : List Move) → AreAllowedInTurn h k l p (m ∷ moves) → AreAllowedInTurn h k l (slice_set p m.vertex m.to)
      moves
  rest_allowed p m moves a i d n = a (suc i) d (omega arith)

  replay_partition : (p : List ℕ) (moves : List Move) → IsPartition h k p → AreAllowedInTurn h k l p moves → IsPartition h k (replay p moves)
  replay_partition p [] w a = w
  replay_partition p (m ∷ moves) w a = replay_partition (slice_set p m.vertex m.to) moves
      (moved-partition h k l p m.vertex m.to w (first_allowed p m moves a))
      (rest_allowed p m moves a)

  replay_obeys : (p : List ℕ) (moves : List Move) → Obeys h p → AreAllowedInTurn h k l p moves → Obeys h (replay p moves)
  replay_obeys p [] w a = w
  replay_obeys p (m ∷ moves) w a = replay_obeys (slice_set p m.vertex m.to) moves (moved-obeys h k l p m.vertex m.to w (first_allowed p m moves a))
      (rest_allowed p m moves a)

  replay_fits : (p : List ℕ) (moves : List Move) → IsPartition h k p → Fits h k l p → AreAllowedInTurn h k l p moves → Fits h k l (replay p moves)
  replay_fits p [] w f a = f
  replay_fits p (m ∷ moves) w f a =
      replay_fits (slice_set p m.vertex m.to) moves (moved-partition h k l p m.vertex m.to w (first_allowed p m moves a))
      (moved-fits h k l p m.vertex m.to w f (first_allowed p m moves a)) (rest_allowed p m moves a)

pub replay-partition : AllowedMovesArePartition
replay-partition h k l p moves w a = replay_partition h k l p moves w a

pub replay-obeys : AllowedMovesObey
replay-obeys h k l p moves w a = replay_obeys h k l p moves w a

pub replay-fits : AllowedMovesFit
replay-fits h k l p moves w f a = replay_fits h k l p moves w f a

pub sweep_allowed : SweepIsAllowed
sweep_allowed h k l p i d m = (sweep_best h k l p i d m).best.allowed

positive_sum : (moves : List Move) → 0 < length moves → All (λ (m : Move). pos 0 <ℤ m.booked) moves → pos 0 <ℤ total_z (λ (m : Move). m.booked) moves
positive_sum [] l a = absurd (omega arith)
positive_sum (m ∷ []) l a = let x = All-head (λ (n : Move). pos 0 <ℤ n.booked) m [] a in omega (arith, ints)
positive_sum (m ∷ n ∷ moves) l a =
    let x = All-head (λ (n : Move). pos 0 <ℤ n.booked) m (n ∷ moves) a in
    let r = positive_sum (n ∷ moves) (omega arith) (All-tail (λ (n : Move). pos 0 <ℤ n.booked) m (n ∷ moves) a) in
    omega (arith, ints)

pub sweep_lowers : SweepLowersCost
sweep_lowers h k l p s =
    above_gain (cost h p) (cost h (replay p (sweep h k l p)))
    (subst (λ z. pos 0 <ℤ z) (sweep_saves h k l p) (positive_sum (sweep h k l p) s each))
  where
    each : All (λ (m : Move). pos 0 <ℤ m.booked) (sweep h k l p)
    each i d m = let b = sweep_best h k l p i d m in subst (λ z. pos 0 <ℤ z) (sym b.booked) b.best.gains

pub net_is : (h : Hyper) (e : ℕ) → IsHypergraph h → e < net_count h → IsNet (vertex_count h) (net_of h e)
net_is h e good l = good.nets e (record { weight = 0; pins = [] }) l

pub connectivity_counts : ConnectivityCountsBlocks
connectivity_counts h k p e good whole l =
    connectivity-sum k p (net_of h e).pins (blocks_of_pins k p (net_of h e).pins whole.blocks (subst (λ n. All (λ v. v < n) (net_of h e).pins)
    (sym whole.vertices) (net_is h e good l).pins))

-- ---- gains are local

-- the nets in the order of their numbers
pub nets_by_number : (h : Hyper) → h.nets ≡ map (net_of h) (range_with_len 0 (net_count h))
nets_by_number h = fill_by_all (net_of h) h.nets (net_count h) (record { weight = 0; pins = [] }) refl (λ e l. refl)

module _ (h : Hyper) (p : List ℕ) (v b : ℕ) (good : IsHypergraph h) (long : length p ≡ vertex_count h) (vertex : v < vertex_count h)
    (other : b ≢ block_of p v)
  where
    abbrev saved : ℕ → ℤ
    saved e = pos (net_cost h.objective p (net_of h e)) -ℤ pos (net_cost h.objective (moved p v b) (net_of h e))

    inside : v < length p
    inside = omega arith

    apart_saves_nothing : (e : ℕ) → is_member nat_eq (net_of h e).pins v ≡ false → saved e ≡ pos 0
    apart_saves_nothing e f =
        same (net_cost h.objective p (net_of h e)) (net_cost h.objective (moved p v b) (net_of h e))
        (ap (λ c. (net_of h e).weight * price h.objective c)
        (sym (connectivity-set_apart p (net_of h e).pins v b inside
        (λ c. absurd (true≢false (sym ((is_member-Decides Decides-eqb (net_of h e).pins v).1 c) ∙ f))))))
      where
        same : (x y : ℕ) → x ≡ y → pos x -ℤ pos y ≡ pos 0
        same x y q = omega (arith, ints)

    pin_saves : (e : ℕ) → e < net_count h → is_member nat_eq (net_of h e).pins v ≡ true → saved e ≡ net_gain h p v b (net_of h e)
    pin_saves e l f = ap (λ c. pos (net_cost h.objective p (net_of h e)) -ℤ pos ((net_of h e).weight * price h.objective c)) after
      where
        after : connectivity (moved p v b) (net_of h e).pins ≡ connectivity_after p (net_of h e).pins (block_of p v) b
        after =
            let s = connectivity-set p (net_of h e).pins v b inside (net_is h e good l).rising ((is_member-Decides Decides-eqb (net_of h e).pins v).0 f)
            other in
            omega arith

    gain_is : gain h p v b ≡ total_z (λ e. net_gain h p v b (net_of h e)) (nets_of h v)
    gain_is =
        sym (total_z-difference (net_cost h.objective p) (net_cost h.objective (moved p v b)) h.nets)
        ∙ ap (total_z (λ e. pos (net_cost h.objective p e) -ℤ pos (net_cost h.objective (moved p v b) e))) (nets_by_number h)
        ∙ total_z-map (λ e. pos (net_cost h.objective p e) -ℤ pos (net_cost h.objective (moved p v b) e)) (net_of h) (range_with_len 0 (net_count h))
        ∙ sym (total_z-filter saved (λ e. is_member nat_eq (net_of h e).pins v) (range_with_len 0 (net_count h))
        (λ i d l. apart_saves_nothing (get_or (range_with_len 0 (net_count h)) i d)))
        ∙ total_z-same saved (λ e. net_gain h p v b (net_of h e)) (nets_of h v) (λ i d l. pin_saves (get_or (nets_of h v) i d) (within i d l)
        (filter_passes (λ e. is_member nat_eq (net_of h e).pins v) (range_with_len 0 (net_count h)) i d l))
      where
        within : (i d : ℕ) → i < length (nets_of h v) → get_or (nets_of h v) i d < net_count h
        within i d l = All-filter (λ e. is_member nat_eq (net_of h e).pins v) (λ e. e < net_count h) (range_with_len 0 (net_count h)) below i d l
          where
            below : All (λ e. e < net_count h) (range_with_len 0 (net_count h))
            below j c m = let n = length-range_with_len 0 (net_count h) in let a = get_or-range_with_len 0 (net_count h) j c (omega arith) in omega arith

pub gain_is_local : GainIsLocal
gain_is_local h p v b good long vertex other = gain_is h p v b good long vertex other
