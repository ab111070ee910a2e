-- Laws of the moves of a synchronous round: what they save, and that they may be rolled back.
use Rattle.std.proofs.Common.{◌≡◌, ℕ, zero, suc, ◌+◌, ◌<◌, ◌≤◌, ◌^◌, ◌⊎◌, inl, inr, true, false, List, length, map, take, get_or, set}
use Rattle.std.proofs.Common.{All, ℤ, pos, ◌+ℤ◌, ◌-ℤ◌, ◌≤ℤ◌, ◌<ℤ◌, sym, ap, subst, ◌∙◌, arith}
use lib.Signed.{lt_z}
use Rattle.std.proofs.Common.{FitsSigned, to_z, of_z}
use Rattle.std.specs.Int.{w64}
use Rattle.std.proofs.lemmas.Int.{ints, to_z-of_z}
use Rattle.std.proofs.lemmas.Bool.{cases_eq}
use Rattle.std.proofs.lemmas.List.{take_all, take-take, take-map, length-take-le, get_or-take, length-map, get_or-map, same_lists}
use Rattle.std.proofs.lemmas.List.Elements.{All-map, All-take}
use Rattle.hg_defs.specs.declared.moves.Move.{Move}
use Rattle.hg_defs.specs.Sums.{total_z}
use Rattle.hg_defs.specs.Hypergraph.{Hyper, IsWithinLimits, vertex_count}
use Rattle.hg_defs.specs.Partition.{IsPartition, Fits}
use Rattle.hg_defs.specs.Cost.{cost}
use Rattle.hg_defs.specs.Moves.{IsAllowed}
use Rattle.hg_defs.specs.MoveLaws.{AreAllowedInTurn}
use Rattle.hg_defs.specs.Replay.{replay, replay_first, best_prefix}
use Rattle.hg_defs.specs.Synchronous.{sync_moves}
use Rattle.hg_defs.proofs.SumLaws.{total_z-take_more}
use Rattle.hg_defs.proofs.MoveLaws.{replay-fits}
use Rattle.hg_defs.proofs.ReplayLaws.{replay_first_more, replay_first-take}
use Rattle.hg_defs.proofs.SynchronousLaws.{sync_moves-allowed, sync_moves-wishes, sync_moves-distinct, sync_moves-booked, sync_moves-from}
use Rattle.hg_base.proofs.CountLaws.{cost-lt}
use Rattle.round_log.proofs.FewMoves.{few_moves}
use Rattle.rollback_prefix.specs.Steps.{Starts, StartFrom, AreReplayGains}
use Rattle.rollback_prefix.proofs.BestLaws.{best_is}
use Rattle.det_sync.specs.Rounds.{StaysCost, unbooked, AreBooked, saved_first, IsMostSaved}
use Rattle.det_sync.proofs.GrantLaws.{replay_unbooked}

abbrev pub no_move : Move
no_move = record { vertex = 0; from = 0; to = 0; worker = 0; booked = pos 0 }

-- a number is told by its value as a whole number
pub same_number : (x y : ℕ) → pos x ≡ pos y → x ≡ y
same_number x y e = omega (arith, ints)

less_saved : (x y : ℕ) (s : ℤ) → s ≡ pos x -ℤ pos y → pos x -ℤ s ≡ pos y
less_saved x y s e = omega (arith, ints)

-- ---- one move less

-- a step from a cost to a cost fits, and so does what it books
module _ (before : ℕ) (moves : List Move) (i : ℕ) (cost : ℤ) (low : i < length moves)
    (stays : (j : ℕ) → j ≤ length moves → StaysCost (pos before -ℤ total_z (λ (m : Move). m.booked) (take j moves)))
    (now : cost ≡ pos before -ℤ total_z (λ (m : Move). m.booked) (take i moves)) where
  next_is : cost -ℤ (get_or moves i no_move).booked ≡ pos before -ℤ total_z (λ (m : Move). m.booked) (take (i + 1) moves)
  next_is =
      let more = total_z-take_more (λ (m : Move). m.booked) moves i no_move low in
      less cost (pos before) (total_z (λ (m : Move). m.booked) (take i moves)) (get_or moves i no_move).booked
      (total_z (λ (m : Move). m.booked) (take (i + 1) moves)) now more
    where
      less : (c b s t u : ℤ) → c ≡ b -ℤ s → u ≡ s +ℤ t → c -ℤ t ≡ b -ℤ u
      less c b s t u e f = omega (arith, ints)

  booked_fits : FitsSigned w64 (get_or moves i no_move).booked
  booked_fits =
      small cost (pos before -ℤ total_z (λ (m : Move). m.booked) (take (i + 1) moves)) (get_or moves i no_move).booked
      (subst StaysCost (sym now) (stays i (omega arith))) (stays (i + 1) (omega arith)) next_is
    where
      small : (c d t : ℤ) → StaysCost c → StaysCost d → c -ℤ t ≡ d → FitsSigned w64 t
      small c d t x y e = let a = x.0 in let b = x.1 in let f = y.0 in let g = y.1 in omega (arith, ints)

  booked_read : to_z w64 (of_z w64 (get_or moves i no_move).booked) ≡ (get_or moves i no_move).booked
  booked_read = to_z-of_z w64 (get_or moves i no_move).booked booked_fits

  next_fits : FitsSigned w64 (cost -ℤ (get_or moves i no_move).booked)
  next_fits = small (cost -ℤ (get_or moves i no_move).booked) (subst StaysCost (sym next_is) (stays (i + 1) (omega arith)))
    where
      small : (c : ℤ) → StaysCost c → FitsSigned w64 c
      small c x = let a = x.0 in let b = x.1 in omega (arith, ints)

  pub fits_step : FitsSigned w64 (cost -ℤ to_z w64 (of_z w64 (get_or moves i no_move).booked))
  fits_step = subst (λ z. FitsSigned w64 (cost -ℤ z)) (sym booked_read) next_fits

  pub reads_step : to_z w64 (of_z w64 (cost -ℤ to_z w64 (of_z w64 (get_or moves i no_move).booked)))
      ≡ pos before -ℤ total_z (λ (m : Move). m.booked) (take (i + 1) moves)
  reads_step =
      ap (λ z. to_z w64 (of_z w64 (cost -ℤ z))) booked_read ∙ to_z-of_z w64 (cost -ℤ (get_or moves i no_move).booked) next_fits ∙ next_is

-- ---- the moves of a round

module _ (h : Hyper) (k l : ℕ) (p : List ℕ) where
  -- the first moves save what they book
  saves_first : (i : ℕ) → i ≤ length (sync_moves h k l p)
      → total_z (λ (m : Move). m.booked) (take i (sync_moves h k l p)) ≡ pos (cost h p) -ℤ pos (cost h (replay_first p (sync_moves h k l p) i))
  saves_first zero low = nothing (cost h p)
    where
      nothing : (x : ℕ) → pos 0 ≡ pos x -ℤ pos x
      nothing x = omega (arith, ints)
  saves_first (suc i) low =
      let before = saves_first i (omega arith) in
      let m = get_or (sync_moves h k l p) i no_move in
      let booked = (sync_moves-booked h k l p i no_move (omega arith)).booked in
      let one : suc i ≡ i + 1 = omega arith in
      let more = total_z-take_more (λ (n : Move). n.booked) (sync_moves h k l p) i no_move (omega arith) in
      let next = replay_first_more p (sync_moves h k l p) i no_move (omega arith) in
      ap (λ n. total_z (λ (x : Move). x.booked) (take n (sync_moves h k l p))) one
      ∙ more
      ∙ joined (cost h p) (cost h (replay_first p (sync_moves h k l p) i)) (cost h (set (replay_first p (sync_moves h k l p) i) m.vertex m.to))
      (total_z (λ (x : Move). x.booked) (take i (sync_moves h k l p))) m.booked before booked
      ∙ ap (λ q. pos (cost h p) -ℤ pos (cost h q)) (sym next)
      ∙ ap (λ n. pos (cost h p) -ℤ pos (cost h (replay_first p (sync_moves h k l p) n))) (sym one)
    where
      joined : (x y z : ℕ) (s t : ℤ) → s ≡ pos x -ℤ pos y → t ≡ pos y -ℤ pos z → s +ℤ t ≡ pos x -ℤ pos z
      joined x y z s t e f = omega (arith, ints)

  -- so what is left of the cost stays a cost
  pub stays_cost : (n before : ℕ) → IsWithinLimits h → before ≡ cost h p → n ≤ length (sync_moves h k l p) → (moves : List Move)
      → moves ≡ take n (sync_moves h k l p) → (i : ℕ) → i ≤ length moves → StaysCost (pos before -ℤ total_z (λ (m : Move). m.booked) (take i moves))
  stays_cost n before bounds is high moves are i low =
      let long = ap length are ∙ length-take-le n (sync_moves h k l p) high in
      let e : pos before -ℤ total_z (λ (m : Move). m.booked) (take i moves) ≡ pos (cost h (replay_first p (sync_moves h k l p) i)) =
      ap (λ x. pos x -ℤ total_z (λ (m : Move). m.booked) (take i moves)) is
      ∙ ap (λ (ms : List Move). pos (cost h p) -ℤ total_z (λ (m : Move). m.booked) (take i ms)) are
      ∙ ap (λ (ms : List Move). pos (cost h p) -ℤ total_z (λ (m : Move). m.booked) ms) (take-take i n (sync_moves h k l p) (omega arith))
      ∙ less_saved (cost h p) (cost h (replay_first p (sync_moves h k l p) i)) (total_z (λ (m : Move). m.booked) (take i (sync_moves h k l p)))
      (saves_first i (omega arith)) in
      subst StaysCost (sym e) (small (cost h (replay_first p (sync_moves h k l p) i)) (cost-lt h (replay_first p (sync_moves h k l p) i) bounds))
    where
      small : (x : ℕ) → x < 2 ^ 57 → StaysCost (pos x)
      small x low = (omega (arith, ints), omega (arith, ints))

  -- the cost after the first moves
  pub cost_after_first : (n before after : ℕ) → before ≡ cost h p → n ≤ length (sync_moves h k l p) → (moves : List Move)
      → moves ≡ take n (sync_moves h k l p) → pos after ≡ pos before -ℤ total_z (λ (m : Move). m.booked) moves
      → after ≡ cost h (replay_first p (sync_moves h k l p) n)
  cost_after_first n before after is high moves are left =
      same_number after (cost h (replay_first p (sync_moves h k l p) n))
      (left
      ∙ ap (λ x. pos x -ℤ total_z (λ (m : Move). m.booked) moves) is
      ∙ ap (λ (ms : List Move). pos (cost h p) -ℤ total_z (λ (m : Move). m.booked) ms) are
      ∙ less_saved (cost h p) (cost h (replay_first p (sync_moves h k l p) n)) (total_z (λ (m : Move). m.booked) (take n (sync_moves h k l p)))
      (saves_first n high))

  pub whole_moves : take (length (sync_moves h k l p)) (sync_moves h k l p) ≡ sync_moves h k l p
  whole_moves = take_all (length (sync_moves h k l p)) (sync_moves h k l p) (omega arith)

  module _ (whole : IsPartition h k p) where
    -- each prefix of them fits
    prefix_fits : Fits h k l p → (j : ℕ) → j ≤ length (sync_moves h k l p) → Fits h k l (replay_first p (sync_moves h k l p) j)
    prefix_fits fits j high = replay-fits h k l p (take j (sync_moves h k l p)) whole fits allowed
      where
        allowed : AreAllowedInTurn h k l p (take j (sync_moves h k l p))
        allowed i d low =
            let long = length-take-le j (sync_moves h k l p) high in
            let m = get_or-take j (sync_moves h k l p) i d (omega arith) in
            subst (λ (q : List ℕ). IsAllowed h k l q (get_or (take j (sync_moves h k l p)) i d).vertex (get_or (take j (sync_moves h k l p)) i d).to)
            (sym (replay_first-take p (sync_moves h k l p) i j (omega arith)))
            (subst (λ (n : Move). IsAllowed h k l (replay_first p (sync_moves h k l p) i) n.vertex n.to) (sym m)
            (sync_moves-allowed h k l p i d (omega arith)))

    -- so the best prefix is the one that saves most
    pub most_is_best : Fits h k l p → (j : ℕ) → IsMostSaved (sync_moves h k l p) (length (sync_moves h k l p)) j →
        j ≡ best_prefix h k l p (sync_moves h k l p)
    most_is_best fits j m = best_is h k l p (sync_moves h k l p) (length (sync_moves h k l p)) j (omega arith) (omega arith) fits (record {
      within = m.within;
      fits = prefix_fits fits j m.within;
      cheapest = λ x low f. cheaper (saved_first (sync_moves h k l p) x) (saved_first (sync_moves h k l p) j) (cost h p)
          (cost h (replay_first p (sync_moves h k l p) x)) (cost h (replay_first p (sync_moves h k l p) j))
          (saves_first x low) (saves_first j m.within) (m.most x low);
      shortest = λ x low f. let high = m.within in
          dearer (saved_first (sync_moves h k l p) x) (saved_first (sync_moves h k l p) j) (cost h p)
          (cost h (replay_first p (sync_moves h k l p) x)) (cost h (replay_first p (sync_moves h k l p) j))
          (saves_first x (omega arith)) (saves_first j m.within) (m.shortest x low);
    })
      where
        cheaper : (s t : ℤ) (a x y : ℕ) → s ≡ pos a -ℤ pos x → t ≡ pos a -ℤ pos y → s ≤ℤ t → y ≤ x
        cheaper s t a x y e f m = omega (arith, ints)

        dearer : (s t : ℤ) (a x y : ℕ) → s ≡ pos a -ℤ pos x → t ≡ pos a -ℤ pos y → s <ℤ t → y < x
        dearer s t a x y e f m = omega (arith, ints)

    -- before their gains are known they can be replayed
    pub unbooked_start : StartFrom h k p (map unbooked (sync_moves h k l p))
    unbooked_start = record {
      once = λ i j d m n e.
          let long = length-map (sync_moves h k l p) unbooked in
          sync_moves-distinct h k l p i j d m (omega arith)
          (ap (λ (x : Move). x.vertex) (sym (get_or-map unbooked (sync_moves h k l p) i d d (omega arith))) ∙ e
          ∙ ap (λ (x : Move). x.vertex) (get_or-map unbooked (sync_moves h k l p) j d d (omega arith)));
      each = All-map (Starts h k p) unbooked (sync_moves h k l p) (λ i d low.
          let best = sync_moves-wishes h k l p i d low in
          record {
            vertex = best.allowed.vertex;
            from = sync_moves-from h k l p i d low;
            to = best.allowed.block;
          });
    }

  -- booked with what they gain as they are replayed they are the moves of the round
  pub booked_are : (moves next : List Move) (gains : List ℤ) → moves ≡ map unbooked (sync_moves h k l p) → AreReplayGains h p moves gains →
      AreBooked moves gains next → next ≡ sync_moves h k l p
  booked_are moves next gains are gained booked = same_lists next (sync_moves h k l p) (booked.size ∙ many) each
    where
      many : length moves ≡ length (sync_moves h k l p)
      many = ap length are ∙ length-map (sync_moves h k l p) unbooked

      reached : (j : ℕ) → replay_first p moves j ≡ replay_first p (sync_moves h k l p) j
      reached j =
          ap (λ (ms : List Move). replay p (take j ms)) are ∙ ap (replay p) (take-map unbooked j (sync_moves h k l p))
          ∙ replay_unbooked p (take j (sync_moves h k l p))

      gain_is : (i : ℕ) (d : Move) → i < length (sync_moves h k l p) → get_or gains i (pos 0) ≡ (get_or (sync_moves h k l p) i d).booked
      gain_is i d low =
          gained.each i (let n = many in omega arith)
          ∙ ap (λ (q : List ℕ). pos (cost h q) -ℤ pos (cost h (replay_first p moves (i + 1)))) (reached i)
          ∙ ap (λ (q : List ℕ). pos (cost h (replay_first p (sync_moves h k l p) i)) -ℤ pos (cost h q))
          (reached (i + 1) ∙ replay_first_more p (sync_moves h k l p) i d low)
          ∙ sym (sync_moves-booked h k l p i d low).booked

      each : (i : ℕ) (d : Move) → i < length next → get_or next i d ≡ get_or (sync_moves h k l p) i d
      each i d inside =
          let size = booked.size in
          let n = many in
          let low : i < length (sync_moves h k l p) = omega arith in
          booked.each i d (omega arith)
          ∙ ap (λ (m : Move). record m { booked = get_or gains i (pos 0) })
          (ap (λ (ms : List Move). get_or ms i d) are ∙ get_or-map unbooked (sync_moves h k l p) i d d low)
          ∙ ap (λ (z : ℤ). record (get_or (sync_moves h k l p) i d) { booked = z }) (gain_is i d low)

  pub few_sync : length (sync_moves h k l p) ≤ vertex_count h
  few_sync = few_moves (vertex_count h) (sync_moves h k l p) (λ i d low. (sync_moves-wishes h k l p i d low).allowed.vertex)
      (sync_moves-distinct h k l p)

  pub makes_inside : (n : ℕ) (moves : List Move) → moves ≡ take n (sync_moves h k l p)
      → All (λ (m : Move). m.vertex < vertex_count h) moves × All (λ (m : Move). m.to < k) moves
  makes_inside n moves are = (
    subst (All (λ (m : Move). m.vertex < vertex_count h)) (sym are) (All-take (λ (m : Move). m.vertex < vertex_count h) n (sync_moves h k l p)
        (λ i d low. (sync_moves-wishes h k l p i d low).allowed.vertex)),
    subst (All (λ (m : Move). m.to < k)) (sym are) (All-take (λ (m : Move). m.to < k) n (sync_moves h k l p)
        (λ i d low. (sync_moves-wishes h k l p i d low).allowed.block)),
  )

-- ---- the prefix that saves most

module _ (moves : List Move) where
  pub most_first : IsMostSaved moves 0 0
  most_first = record {
    within = omega arith;
    most = λ x low. let e : x ≡ 0 = omega arith in equal (saved_first moves x) (saved_first moves 0) (ap (saved_first moves) e);
    shortest = λ x low. absurd (omega arith);
  }
    where
      equal : (s t : ℤ) → s ≡ t → s ≤ℤ t
      equal s t e = omega (arith, ints)

  -- the next prefix saves more, or it doesn't
  pub most_new : (i j : ℕ) → IsMostSaved moves i j → saved_first moves j <ℤ saved_first moves (i + 1) → IsMostSaved moves (i + 1) (i + 1)
  most_new i j m more = record {
    within = omega arith;
    most = λ x low. by x low (cases_eq x (i + 1));
    shortest = λ x low. less (saved_first moves x) (saved_first moves j) (saved_first moves (i + 1)) (m.most x (omega arith)) more;
  }
    where
      less : (s t u : ℤ) → s ≤ℤ t → t <ℤ u → s <ℤ u
      less s t u a b = omega (arith, ints)

      weaker : (s t : ℤ) → s <ℤ t → s ≤ℤ t
      weaker s t a = omega (arith, ints)

      equal : (s t : ℤ) → s ≡ t → s ≤ℤ t
      equal s t e = omega (arith, ints)

      by : (x : ℕ) → x ≤ i + 1 → (x ≡ i + 1) ⊎ (x ≡ i + 1 → ⊥) → saved_first moves x ≤ℤ saved_first moves (i + 1)
      by x low (inl e) = equal (saved_first moves x) (saved_first moves (i + 1)) (ap (saved_first moves) e)
      by x low (inr q) = weaker (saved_first moves x) (saved_first moves (i + 1))
          (less (saved_first moves x) (saved_first moves j) (saved_first moves (i + 1)) (m.most x (omega arith)) more)

  pub most_same : (i j : ℕ) → IsMostSaved moves i j → saved_first moves (i + 1) ≤ℤ saved_first moves j → IsMostSaved moves (i + 1) j
  most_same i j m less = record {
    within = let w = m.within in omega arith;
    most = λ x low. by x low (cases_eq x (i + 1));
    shortest = m.shortest;
  }
    where
      by : (x : ℕ) → x ≤ i + 1 → (x ≡ i + 1) ⊎ (x ≡ i + 1 → ⊥) → saved_first moves x ≤ℤ saved_first moves j
      by x low (inl e) = subst (λ y. saved_first moves y ≤ℤ saved_first moves j) (sym e) less
      by x low (inr q) = m.most x (omega arith)

-- a lower cost is one that saves more
pub saves_more : (c d b s t : ℤ) → c ≡ b -ℤ s → d ≡ b -ℤ t → lt_z c d ≡ true → t <ℤ s
saves_more c d b s t e f less = omega (arith, ints)

pub saves_no_more : (c d b s t : ℤ) → c ≡ b -ℤ s → d ≡ b -ℤ t → lt_z c d ≡ false → s ≤ℤ t
saves_no_more c d b s t e f less = omega (arith, ints)
