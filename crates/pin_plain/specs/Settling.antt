-- What a partition that is swept until it is settled logs.
use Rattle.std.specs.Prelude.{◌≡◌, ◌⊎◌, ℕ, ◌<◌, ◌≤◌, false, List, [], ◌∷◌, ◌++◌, length}
use Rattle.hg_defs.specs.Hypergraph.{Hyper}
use Rattle.hg_defs.specs.Cost.{cost}
use Rattle.hg_defs.specs.Moves.{IsAllowed, moved, sweep}
use Rattle.hg_defs.specs.Replay.{replay}
use Rattle.round_log.specs.declared.record.Kind.TheVariants.{Sweep}
use Rattle.round_log.specs.declared.record.LoggedRound.{LoggedRound}
use Rattle.round_log.specs.Rounds.{after_round, IsSwept}
use Rattle.round_log.specs.Trace.{AreSweeps}

-- no single allowed move of a vertex from `first` up to below `end` makes the partition cheaper
abbrev pub IsSettledWithin : Hyper → ℕ → ℕ → List ℕ → ℕ → ℕ → Type 0
IsSettledWithin h k l p first end =
    (v b : ℕ) → first ≤ v → v < end → IsAllowed h k l p v b → cost h p ≤ cost h (moved p v b)

-- sweeps of the hypergraph that lead from p to q; the partition may be swept further
abbrev pub FollowSweeps : Hyper → ℕ → ℕ → List ℕ → List LoggedRound → List ℕ → Type 0
FollowSweeps h k l p [] q = q ≡ p
FollowSweeps h k l p (r ∷ rounds) q =
    (r.kind ≡ Sweep)
    × (r.level ≡ 0)
    × (r.tabled ≡ false)
    × IsSwept h k l p r
    × FollowSweeps h k l (after_round p r) rounds q

-- the log gained the sweeps that lead from p to q, so many of them
pub record AddsSweeps (h : Hyper) (k l : ℕ) (p q : List ℕ) (old new : List LoggedRound) (number : ℕ) : Type 0 where
  pub rounds : List LoggedRound
  pub log : new ≡ old ++ rounds
  pub sweeps : FollowSweeps h k l p rounds q
  pub count : number ≡ length rounds

-- the partition was swept until it is settled, and the log gained these sweeps
pub record Settles (h : Hyper) (k l : ℕ) (p q : List ℕ) (old new : List LoggedRound) (number : ℕ) : Type 0 where
  pub rounds : List LoggedRound
  pub log : new ≡ old ++ rounds
  pub sweeps : AreSweeps h k l p rounds q
  pub count : number ≡ length rounds

-- the log gained the sweeps that lead from p to a partition, which may have been swept once more
pub record BreaksOff (h : Hyper) (k l : ℕ) (p q : List ℕ) (old new : List LoggedRound) : Type 0 where
  pub number : ℕ
  pub last : List ℕ
  pub added : AddsSweeps h k l p last old new number
  pub now : (q ≡ last) ⊎ (q ≡ replay last (sweep h k l last))
