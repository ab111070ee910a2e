-- The laws of synchronous rounds as they are recorded.
use Rattle.std.proofs.Common.{◌≡◌, ◌≢◌, inl, inr, ℕ, zero, suc, ◌+◌, ◌-◌, ◌<◌, Bool, true, nat_eq, if◌then◌else◌, List, [], ◌∷◌, length}
use Rattle.std.proofs.Common.{replicate, get_or, All, AllPairs, ℤ, pos, ◌+ℤ◌, ◌-ℤ◌, refl, sym, ap, subst, ◌∙◌, arith}
use Rattle.std.proofs.lemmas.Bool.{ne_eqb}
use Rattle.std.proofs.lemmas.Int.{ints}
use Rattle.std.proofs.lemmas.List.{length-replicate, get_or-replicate}
use Rattle.std.proofs.lemmas.List.Elements.{All-head, All-tail}
use Rattle.hg_defs.specs.declared.moves.Move.{Move}
use Rattle.hg_defs.specs.Sums.{total_z}
use Rattle.hg_defs.specs.Hypergraph.{Hyper}
use Rattle.hg_defs.specs.Partition.{IsPartition, Fits}
use Rattle.hg_defs.specs.Cost.{cost}
use Rattle.hg_defs.specs.Moves.{IsSettled}
use Rattle.hg_defs.specs.Replay.{replay, replay_first, best_prefix}
use Rattle.hg_defs.specs.Synchronous.{sync_moves, sync}
use Rattle.hg_defs.proofs.MoveLaws.{replay-fits}
use Rattle.hg_defs.proofs.SynchronousLaws.{sync_moves-wishes, sync_moves-distinct, sync_moves-allowed, sync_moves-booked}
use Rattle.hg_defs.proofs.SynchronousLaws.{sync_moves-from, sync_moves-saved, unsettled-lower, settled-same}
use Rattle.round_log.specs.declared.record.LoggedRound.{LoggedRound}
use Rattle.round_log.specs.Rounds.{after_round, after_rounds, booked_by, IsMove, IsRaced}
use Rattle.round_log.specs.Passes.{IsRacedBy}
use Rattle.round_log.specs.Deterministic.{IsSyncRound, AreSyncRounds, AreDetRounds, IsSynced, IsDetRefined, synced}
use Rattle.round_log.specs.TraceLaws.{IsSound, SyncRoundIsRaced, SyncRoundLowersCost}
use Rattle.round_log.proofs.PassLaws.{AllKeep, raced_keeps}
use Rattle.round_log.proofs.DescentLaws.{Leaves, leaves_by}

-- ---- what one worker booked

booked-all : (moves : List Move) → All (λ (m : Move). m.worker ≡ 0) moves → booked_by moves 0 ≡ total_z (λ (m : Move). m.booked) moves
booked-all [] a = refl
booked-all (m ∷ moves) a =
    ap (λ (w : ℕ). (if nat_eq w 0 then m.booked else pos 0) +ℤ booked_by moves 0) (All-head (λ (n : Move). n.worker ≡ 0) m moves a)
    ∙ ap (λ (z : ℤ). m.booked +ℤ z) (booked-all moves (All-tail (λ (n : Move). n.worker ≡ 0) m moves a))

booked-none : (moves : List Move) (i : ℕ) → All (λ (m : Move). m.worker ≡ 0) moves → booked_by moves (suc i) ≡ pos 0
booked-none [] i a = refl
booked-none (m ∷ moves) i a =
    let first : m.worker ≡ 0 = All-head (λ (n : Move). n.worker ≡ 0) m moves a in
    ap (λ (t : Bool). (if t then m.booked else pos 0) +ℤ booked_by moves (suc i)) (ne_eqb m.worker (suc i) (λ e. absurd (omega arith)))
    ∙ ap (λ (z : ℤ). pos 0 +ℤ z) (booked-none moves i (All-tail (λ (n : Move). n.worker ≡ 0) m moves a))

zeros : (n : ℕ) → total_z (λ (g : ℤ). g) (replicate n (pos 0)) ≡ pos 0
zeros zero = refl
zeros (suc n) = ap (λ (z : ℤ). pos 0 +ℤ z) (zeros n)

-- ---- one round

module _ (h : Hyper) (k l workers : ℕ) (p : List ℕ) (r : LoggedRound) (s : IsSyncRound h k l workers p r) where
  -- it leads where the function says
  pub sync-to : after_round p r ≡ sync h k l p
  sync-to = ap (replay_first p r.moves) s.kept ∙ ap (λ (moves : List Move). replay_first p moves (best_prefix h k l p moves)) s.moves

  by_first : All (λ (m : Move). m.worker ≡ 0) (sync_moves h k l p)
  by_first i d low = (sync_moves-booked h k l p i d low).worker

  module _ (whole : IsPartition h k p) (f : Fits h k l p) (some : 0 < workers) where
    as_many : length r.gains ≡ workers
    as_many = let a = ap length s.gains in let b = length-replicate (workers - 1) (pos 0) in omega arith

    each : All (IsMove h k (length r.gains) p) (sync_moves h k l p)
    each i d low =
        let best = sync_moves-wishes h k l p i d low in
        let from = sync_moves-from h k l p i d low in
        record {
          vertex = best.allowed.vertex;
          free = best.allowed.free;
          from = from;
          to = best.allowed.block;
          other = λ e. best.allowed.other (e ∙ from);
          worker = let w = by_first i d low in let n = as_many in omega arith;
        }

    saves : total_z (λ (m : Move). m.booked) r.moves ≡ pos r.before -ℤ pos r.made
    saves =
        ap (total_z (λ (m : Move). m.booked)) s.moves
        ∙ sync_moves-saved h k l p
        ∙ ap (λ (moves : List Move). pos (cost h p) -ℤ pos (cost h (replay p moves))) (sym s.moves)
        ∙ ap (λ (n : ℕ). pos n -ℤ pos (cost h (replay p r.moves))) (sym s.before)
        ∙ ap (λ (n : ℕ). pos r.before -ℤ pos n) (sym s.made)

    first_workers : All (λ (m : Move). m.worker ≡ 0) r.moves
    first_workers = subst (All (λ (m : Move). m.worker ≡ 0)) (sym s.moves) by_first

    booked : (i : ℕ) → i < length r.gains → get_or r.gains i (pos 0) ≡ booked_by r.moves i
    booked zero low = ap (λ (gains : List ℤ). get_or gains 0 (pos 0)) s.gains ∙ sym saves ∙ sym (booked-all r.moves first_workers)
    booked (suc i) low =
        ap (λ (gains : List ℤ). get_or gains (suc i) (pos 0)) s.gains
        ∙ get_or-replicate (workers - 1) i (pos 0) (pos 0) (let n = as_many in omega arith)
        ∙ sym (booked-none r.moves i first_workers)

    raced : IsRaced h k l p r
    raced = record {
      moves = record {
        once = subst (AllPairs (λ (a b : Move). a.vertex ≢ b.vertex)) (sym s.moves) (sync_moves-distinct h k l p);
        each = subst (All (IsMove h k (length r.gains) p)) (sym s.moves) each;
        booked = booked;
      };
      sum = ap (total_z (λ (g : ℤ). g)) s.gains ∙ none (pos r.before -ℤ pos r.made) (total_z (λ (g : ℤ). g) (replicate (workers - 1) (pos 0)))
          (zeros (workers - 1));
      before = s.before;
      made = s.made;
      fits = subst (λ (moves : List Move). Fits h k l (replay p moves)) (sym s.moves) (replay-fits h k l p (sync_moves h k l p) whole f
          (sync_moves-allowed h k l p));
      kept = s.kept;
      after = s.after;
      no_pair = s.no_pair;
    }
      where
        none : (x y : ℤ) → y ≡ pos 0 → x +ℤ y ≡ x
        none x y e = omega (arith, ints)

    pub raced_by : IsRacedBy h k l workers p r
    raced_by = record { raced = raced; gains = as_many }

  pub round_lower : IsPartition h k p → Fits h k l p → (IsSettled h k l p → ⊥) → r.after < r.before
  round_lower whole f unsettled =
      let less = unsettled-lower h k l p whole f unsettled in
      let same = ap (cost h) sync-to in
      let a = s.after in
      let b = s.before in
      omega arith

pub sync_round-raced : SyncRoundIsRaced
sync_round-raced h k l workers p r whole f some s = raced_by h k l workers p r s whole f some

pub sync_round-lower : SyncRoundLowersCost
sync_round-lower h k l workers p r whole f unsettled s = round_lower h k l workers p r s whole f unsettled

-- ---- the rounds of a level

-- a settled partition stays
pub synced-settled : (n : ℕ) (h : Hyper) (k l : ℕ) (p : List ℕ) → IsSettled h k l p → synced n h k l p ≡ p
synced-settled zero h k l p s = refl
synced-settled (suc n) h k l p s = ap (synced n h k l) (settled-same h k l p s) ∙ synced-settled n h k l p s

module _ (h : Hyper) (k l workers : ℕ) where
  rounds_to : (made n : ℕ) (p : List ℕ) (rounds : List LoggedRound) → made + n ≡ 8 → AreSyncRounds true h k l workers made p rounds →
      after_rounds p rounds ≡ synced n h k l p
  rounds_to made n p [] e (inl s) = sym (synced-settled n h k l p s)
  rounds_to made zero p [] e (inr s) = refl
  rounds_to made (suc n) p [] e (inr s) = absurd (omega arith)
  rounds_to made zero p (r ∷ rounds) e s = absurd (let low = s.1 in omega arith)
  rounds_to made (suc n) p (r ∷ rounds) e s =
      rounds_to (made + 1) n (after_round p r) rounds (omega arith) s.3 ∙ ap (synced n h k l) (sync-to h k l workers p r s.2)

  -- they are raced rounds that lower the cost
  are_det : (made : ℕ) (p : List ℕ) (rounds : List LoggedRound) → 0 < workers → IsSound h k l p → AreSyncRounds true h k l workers made p rounds →
      AreDetRounds true h k l workers made p rounds
  are_det made p [] some o s = s
  are_det made p (r ∷ rounds) some o s =
      let by = raced_by h k l workers p r s.2 o.partition o.fits some in
      let keep = raced_keeps h k l p r by.raced in (
        s.0,
        s.1,
        record { kind = s.2.kind; raced = by; lower = round_lower h k l workers p r s.2 o.partition o.fits s.0; untabled = s.2.untabled },
        are_det (made + 1) (after_round p r) rounds some (record {
          partition = keep.partition o.partition;
          obeys = keep.fixes o.obeys;
          fits = keep.within o.partition o.fits;
        }) s.3,
      )

  det_keep : (made : ℕ) (p : List ℕ) (rounds : List LoggedRound) → AreDetRounds true h k l workers made p rounds → AllKeep h k l p rounds
  det_keep made p [] s = tt
  det_keep made p (r ∷ rounds) s = (raced_keeps h k l p r s.2.raced.raced, det_keep (made + 1) (after_round p r) rounds s.3)

pub synced_to : (k l workers number : ℕ) (h : Hyper) (p : List ℕ) (rounds : List LoggedRound) (q : List ℕ) → IsSynced k l workers number h p rounds q →
    q ≡ synced 8 h k l p
synced_to k l workers number h p rounds q s = s.result ∙ rounds_to h k l workers 0 8 p rounds refl s.pass

pub det_refined_keeps : (k l workers number : ℕ) (h : Hyper) (p : List ℕ) (rounds : List LoggedRound) (q : List ℕ) → IsDetRefined k l workers number h p
    rounds
    q → Leaves h k l p q
det_refined_keeps k l workers number h p rounds q s = leaves_by h k l p rounds q (det_keep h k l workers 0 p rounds s.pass) s.result

pub synced_refined : (k l workers number : ℕ) (h : Hyper) (p : List ℕ) (rounds : List LoggedRound) (q : List ℕ) → 0 < workers → IsSynced k l workers number
    h p
    rounds q → IsSound h k l p → IsDetRefined k l workers number h p rounds q
synced_refined k l workers number h p rounds q some s o = record {
  bear_level = s.bear_level;
  pass = are_det h k l workers 0 p rounds some o s.pass;
  result = s.result;
}

pub synced_keeps : (k l workers number : ℕ) (h : Hyper) (p : List ℕ) (rounds : List LoggedRound) (q : List ℕ) → 0 < workers → IsSynced k l workers number h
    p
    rounds q → Leaves h k l p q
unfolding Leaves
synced_keeps k l workers number h p rounds q some s o = det_refined_keeps k l workers number h p rounds q (synced_refined k l workers number h p rounds q
    some
    s o) o
