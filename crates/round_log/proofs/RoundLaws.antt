-- The laws over sweeps and raced rounds.
use Rattle.std.proofs.Common.{◌≡◌, ◌≢◌, ℕ, ◌<◌, List, [], ◌∷◌, length, take, All, refl, sym, ap, subst, ◌∙◌, arith}
use Rattle.std.proofs.lemmas.List.Elements.{All-take}
use Rattle.hg_defs.specs.declared.moves.Move.{Move}
use Rattle.hg_defs.specs.Hypergraph.{Hyper}
use Rattle.hg_defs.specs.Partition.{IsPartition, Fits, Obeys}
use Rattle.hg_defs.specs.Cost.{cost}
use Rattle.hg_defs.specs.Moves.{IsSettled, sweep}
use Rattle.hg_defs.specs.Replay.{replay, replay_first}
use Rattle.hg_defs.specs.ReplayLaws.{IsBestPrefix}
use Rattle.hg_defs.proofs.MoveLaws.{settled_sweep, sweep_lowers, sweep_allowed, replay-partition, replay-obeys, replay-fits}
use Rattle.hg_defs.proofs.ReplayLaws.{replay_first-all, length-replay, replay-blocks, best_prefix_is}
use Rattle.hg_defs.proofs.UndoLaws.{free_moves_leave_fixes}
use Rattle.round_log.specs.declared.record.LoggedRound.{LoggedRound}
use Rattle.round_log.specs.Rounds.{after_round, IsSwept, IsRaced, IsMove}
use Rattle.round_log.specs.Trace.{AreSweeps}
use Rattle.round_log.specs.RoundLaws.{SweepsEndSettled, SweepsAreReplayed, SweepsLeadToOne, SweepsLeavePartition, SweepsLeaveFixes}
use Rattle.round_log.specs.RoundLaws.{SweepsStayWithinLimit, SweepsRaiseNoCost, SweepsLowerCost, RacedRoundLeavesPartition, RacedRoundLeavesFixes}
use Rattle.round_log.specs.RoundLaws.{RacedRoundStaysWithinLimit, RacedRoundRaisesNoCost, RacedRoundKeepsBest, RacedRoundKeepsCheapest}

-- ---- one sweep

module _ (h : Hyper) (k l : ℕ) (p : List ℕ) (r : LoggedRound) (s : IsSwept h k l p r) where
  pub swept_to : after_round p r ≡ replay p (sweep h k l p)
  swept_to = ap (replay_first p r.moves) s.kept ∙ replay_first-all p r.moves ∙ ap (replay p) s.moves

  pub swept_partition : IsPartition h k p → IsPartition h k (after_round p r)
  swept_partition w = subst (IsPartition h k) (sym swept_to) (replay-partition h k l p (sweep h k l p) w (sweep_allowed h k l p))

  pub swept_obeys : Obeys h p → Obeys h (after_round p r)
  swept_obeys o = subst (Obeys h) (sym swept_to) (replay-obeys h k l p (sweep h k l p) o (sweep_allowed h k l p))

  pub swept_fits : IsPartition h k p → Fits h k l p → Fits h k l (after_round p r)
  swept_fits w f = subst (Fits h k l) (sym swept_to) (replay-fits h k l p (sweep h k l p) w f (sweep_allowed h k l p))

  some_long : (xs : List Move) → xs ≢ [] → 0 < length xs
  some_long [] q = absurd (q refl)
  some_long (x ∷ xs) q = omega arith

  pub swept_less : cost h (after_round p r) < cost h p
  swept_less =
      subst (λ (q : List ℕ). cost h q < cost h p) (sym swept_to)
      (sweep_lowers h k l p (subst (λ (xs : List Move). 0 < length xs) s.moves (some_long r.moves s.some)))

  pub unsettled : IsSettled h k l p → ⊥
  unsettled settled = s.some (s.moves ∙ settled_sweep h k l p settled)

-- ---- sweeps until the partition is settled

pub sweeps-settled : SweepsEndSettled
sweeps-settled h k l p [] q s = subst (IsSettled h k l) (sym s.0) s.1
sweeps-settled h k l p (r ∷ rounds) q s = sweeps-settled h k l (after_round p r) rounds q s.4

pub sweeps-replayed : SweepsAreReplayed
sweeps-replayed h k l p [] q s = s.0
sweeps-replayed h k l p (r ∷ rounds) q s = sweeps-replayed h k l (after_round p r) rounds q s.4

pub sweeps-one : SweepsLeadToOne
sweeps-one h k l p [] [] q other s t = s.0 ∙ sym t.0
sweeps-one h k l p [] (r ∷ rounds) q other s t = absurd (unsettled h k l p r t.3 s.1)
sweeps-one h k l p (r ∷ rounds) [] q other s t = absurd (unsettled h k l p r s.3 t.1)
sweeps-one h k l p (r ∷ rounds) (r' ∷ rounds') q other s t =
    sweeps-one h k l (after_round p r) rounds rounds' q other s.4
    (subst (λ (p' : List ℕ). AreSweeps h k l p' rounds' other) (swept_to h k l p r' t.3 ∙ sym (swept_to h k l p r s.3)) t.4)

pub sweeps-partition : SweepsLeavePartition
sweeps-partition h k l p [] q w s = subst (IsPartition h k) (sym s.0) w
sweeps-partition h k l p (r ∷ rounds) q w s = sweeps-partition h k l (after_round p r) rounds q (swept_partition h k l p r s.3 w) s.4

pub sweeps-obeys : SweepsLeaveFixes
sweeps-obeys h k l p [] q o s = subst (Obeys h) (sym s.0) o
sweeps-obeys h k l p (r ∷ rounds) q o s = sweeps-obeys h k l (after_round p r) rounds q (swept_obeys h k l p r s.3 o) s.4

pub sweeps-fits : SweepsStayWithinLimit
sweeps-fits h k l p [] q w f s = subst (Fits h k l) (sym s.0) f
sweeps-fits h k l p (r ∷ rounds) q w f s =
    sweeps-fits h k l (after_round p r) rounds q (swept_partition h k l p r s.3 w) (swept_fits h k l p r s.3 w f) s.4

pub sweeps-no_dearer : SweepsRaiseNoCost
sweeps-no_dearer h k l p [] q s = let e = ap (cost h) s.0 in omega arith
sweeps-no_dearer h k l p (r ∷ rounds) q s =
    let a = sweeps-no_dearer h k l (after_round p r) rounds q s.4 in
    let b = swept_less h k l p r s.3 in
    omega arith

pub sweeps-cheaper : SweepsLowerCost
sweeps-cheaper h k l p [] q some s = absurd (some refl)
sweeps-cheaper h k l p (r ∷ rounds) q some s =
    let a = sweeps-no_dearer h k l (after_round p r) rounds q s.4 in
    let b = swept_less h k l p r s.3 in
    omega arith

-- ---- a raced round

module _ (h : Hyper) (k l : ℕ) (p : List ℕ) (r : LoggedRound) (s : IsRaced h k l p r) where
  kept_moves : All (IsMove h k (length r.gains) p) (take r.kept r.moves)
  kept_moves = All-take (IsMove h k (length r.gains) p) r.kept r.moves s.moves.each

  raced_best : Fits h k l p → IsBestPrefix h k l p r.moves r.kept
  raced_best f = subst (IsBestPrefix h k l p r.moves) (sym s.kept) (best_prefix_is h k l p r.moves f)

pub raced-partition : RacedRoundLeavesPartition
raced-partition h k l p r w s = record {
  vertices = length-replay p (take r.kept r.moves) ∙ w.vertices;
  blocks = replay-blocks k p (take r.kept r.moves) w.blocks (λ i d m. (kept_moves h k l p r s i d m).to);
}

pub raced-obeys : RacedRoundLeavesFixes
raced-obeys h k l p r o s = free_moves_leave_fixes h p (take r.kept r.moves) o (λ i d m. (kept_moves h k l p r s i d m).free)

pub raced-fits : RacedRoundStaysWithinLimit
raced-fits h k l p r f s = (raced_best h k l p r s f).fits

pub raced-cheapest : RacedRoundKeepsCheapest
raced-cheapest h k l p r i f s fits = let a = (raced_best h k l p r s f).cheapest i fits in let b = s.after in omega arith

pub raced-no_dearer : RacedRoundRaisesNoCost
raced-no_dearer h k l p r f s = let a = raced-cheapest h k l p r 0 f s f in let b = s.before in omega arith

pub raced-kept_best : RacedRoundKeepsBest
raced-kept_best h k l p r f s =
    let all = replay_first-all p r.moves in
    let a = raced-cheapest h k l p r (length r.moves) f s (subst (Fits h k l) (sym all) s.fits) in
    let b = ap (cost h) all in
    let c = s.made in
    omega arith
