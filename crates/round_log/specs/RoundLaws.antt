-- What recorded rounds do to a partition: the laws over sweeps, raced rounds, flow rounds and passes.
use Rattle.std.specs.Prelude.{◌≡◌, ℕ, ◌+◌, ◌<◌, ◌≤◌, ◌≢◌, ◌⊎◌, List, [], length, All, Bool}
use Rattle.hg_defs.specs.Sums.{total}
use Rattle.hg_defs.specs.Hypergraph.{Hyper, IsFree}
use Rattle.hg_defs.specs.Partition.{IsPartition, Fits, Obeys, block_of}
use Rattle.hg_defs.specs.Cost.{cost}
use Rattle.hg_defs.specs.Moves.{IsSettled}
use Rattle.hg_defs.specs.Replay.{replay_first}
use Rattle.round_log.specs.declared.record.Kind.{Kind}
use Rattle.round_log.specs.declared.record.LoggedRound.{LoggedRound}
use Rattle.round_log.specs.Rounds.{after_round, after_rounds, IsRaced, IsFlowRound, region}
use Rattle.round_log.specs.Passes.{ArePassRounds, IsPass, IsPartOfPass, most_rounds, saved}
use Rattle.round_log.specs.Trace.{AreSweeps}

-- ---- sweeps until the partition is settled

-- they end settled, where their moves lead
abbrev pub SweepsEndSettled : Type 0
SweepsEndSettled = (h : Hyper) (k l : ℕ) (p : List ℕ) (rounds : List LoggedRound) (q : List ℕ) → AreSweeps h k l p rounds q → IsSettled h k l q

abbrev pub SweepsAreReplayed : Type 0
SweepsAreReplayed = (h : Hyper) (k l : ℕ) (p : List ℕ) (rounds : List LoggedRound) (q : List ℕ) → AreSweeps h k l p rounds q → q ≡ after_rounds p rounds

-- two lists of sweeps from one partition lead to one partition
abbrev pub SweepsLeadToOne : Type 0
SweepsLeadToOne =
    (h : Hyper) (k l : ℕ) (p : List ℕ) (rounds other_rounds : List LoggedRound) (q other : List ℕ)
    → AreSweeps h k l p rounds q → AreSweeps h k l p other_rounds other → q ≡ other

-- they leave a partition that obeys the fixes, and fits where the one before them fits
abbrev pub SweepsLeavePartition : Type 0
SweepsLeavePartition =
    (h : Hyper) (k l : ℕ) (p : List ℕ) (rounds : List LoggedRound) (q : List ℕ) → IsPartition h k p → AreSweeps h k l p rounds q → IsPartition h k q

abbrev pub SweepsLeaveFixes : Type 0
SweepsLeaveFixes =
    (h : Hyper) (k l : ℕ) (p : List ℕ) (rounds : List LoggedRound) (q : List ℕ) → Obeys h p → AreSweeps h k l p rounds q → Obeys h q

abbrev pub SweepsStayWithinLimit : Type 0
SweepsStayWithinLimit =
    (h : Hyper) (k l : ℕ) (p : List ℕ) (rounds : List LoggedRound) (q : List ℕ)
    → IsPartition h k p → Fits h k l p → AreSweeps h k l p rounds q → Fits h k l q

-- the cost never rises, and falls where there is a sweep
abbrev pub SweepsRaiseNoCost : Type 0
SweepsRaiseNoCost = (h : Hyper) (k l : ℕ) (p : List ℕ) (rounds : List LoggedRound) (q : List ℕ) → AreSweeps h k l p rounds q → cost h q ≤ cost h p

abbrev pub SweepsLowerCost : Type 0
SweepsLowerCost =
    (h : Hyper) (k l : ℕ) (p : List ℕ) (rounds : List LoggedRound) (q : List ℕ) → rounds ≢ [] → AreSweeps h k l p rounds q → cost h q < cost h p

-- ---- a raced round that was rolled back to its best prefix

abbrev pub RacedRoundLeavesPartition : Type 0
RacedRoundLeavesPartition =
    (h : Hyper) (k l : ℕ) (p : List ℕ) (r : LoggedRound) → IsPartition h k p → IsRaced h k l p r → IsPartition h k (after_round p r)

abbrev pub RacedRoundLeavesFixes : Type 0
RacedRoundLeavesFixes = (h : Hyper) (k l : ℕ) (p : List ℕ) (r : LoggedRound) → Obeys h p → IsRaced h k l p r → Obeys h (after_round p r)

abbrev pub RacedRoundStaysWithinLimit : Type 0
RacedRoundStaysWithinLimit =
    (h : Hyper) (k l : ℕ) (p : List ℕ) (r : LoggedRound) → Fits h k l p → IsRaced h k l p r → Fits h k l (after_round p r)

-- what it kept costs no more than before, nor than after all its moves, nor than after any first moves that lead within the limit
abbrev pub RacedRoundRaisesNoCost : Type 0
RacedRoundRaisesNoCost = (h : Hyper) (k l : ℕ) (p : List ℕ) (r : LoggedRound) → Fits h k l p → IsRaced h k l p r → r.after ≤ r.before

abbrev pub RacedRoundKeepsBest : Type 0
RacedRoundKeepsBest = (h : Hyper) (k l : ℕ) (p : List ℕ) (r : LoggedRound) → Fits h k l p → IsRaced h k l p r → r.after ≤ r.made

abbrev pub RacedRoundKeepsCheapest : Type 0
RacedRoundKeepsCheapest =
    (h : Hyper) (k l : ℕ) (p : List ℕ) (r : LoggedRound) (i : ℕ) → Fits h k l p → IsRaced h k l p r
    → Fits h k l (replay_first p r.moves i) → r.after ≤ cost h (replay_first p r.moves i)

-- ---- a flow round of two blocks below k

abbrev pub FlowRoundLeavesPartition : Type 0
FlowRoundLeavesPartition =
    (h : Hyper) (k l : ℕ) (p : List ℕ) (r : LoggedRound) → r.first < k → r.second < k → IsPartition h k p → IsFlowRound h k l p r
    → IsPartition h k (after_round p r)

abbrev pub FlowRoundLeavesFixes : Type 0
FlowRoundLeavesFixes = (h : Hyper) (k l : ℕ) (p : List ℕ) (r : LoggedRound) → Obeys h p → IsFlowRound h k l p r → Obeys h (after_round p r)

abbrev pub FlowRoundRaisesNoCost : Type 0
FlowRoundRaisesNoCost = (h : Hyper) (k l : ℕ) (p : List ℕ) (r : LoggedRound) → IsFlowRound h k l p r → r.after ≤ r.before

-- its region holds free vertices of the two blocks alone
abbrev pub RegionIsFree : Type 0
RegionIsFree =
    (h : Hyper) (l : ℕ) (p : List ℕ) (a b : ℕ)
    → All (λ v. IsFree h v × ((block_of p v ≡ a) ⊎ (block_of p v ≡ b))) (region h l p a b)

-- ---- the rounds of a pass of a refiner, of a whole one or the first ones

abbrev pub PassLeavesPartition : Type 0
PassLeavesPartition =
    (whole : Bool) (kind : Kind) (h : Hyper) (k l workers : ℕ) (p : List ℕ) (rounds : List LoggedRound)
    → IsPartition h k p → ArePassRounds whole kind h k l workers p rounds → IsPartition h k (after_rounds p rounds)

abbrev pub PassLeavesFixes : Type 0
PassLeavesFixes =
    (whole : Bool) (kind : Kind) (h : Hyper) (k l workers : ℕ) (p : List ℕ) (rounds : List LoggedRound)
    → Obeys h p → ArePassRounds whole kind h k l workers p rounds → Obeys h (after_rounds p rounds)

abbrev pub PassStaysWithinLimit : Type 0
PassStaysWithinLimit =
    (whole : Bool) (kind : Kind) (h : Hyper) (k l workers : ℕ) (p : List ℕ) (rounds : List LoggedRound)
    → IsPartition h k p → Fits h k l p → ArePassRounds whole kind h k l workers p rounds → Fits h k l (after_rounds p rounds)

abbrev pub PassRaisesNoCost : Type 0
PassRaisesNoCost =
    (whole : Bool) (kind : Kind) (h : Hyper) (k l workers : ℕ) (p : List ℕ) (rounds : List LoggedRound)
    → IsPartition h k p → Fits h k l p → ArePassRounds whole kind h k l workers p rounds → cost h (after_rounds p rounds) ≤ cost h p

-- what its rounds saved is the cost before less the cost after
abbrev pub PassSavesInItsRounds : Type 0
PassSavesInItsRounds =
    (whole : Bool) (kind : Kind) (h : Hyper) (k l workers : ℕ) (p : List ℕ) (rounds : List LoggedRound)
    → IsPartition h k p → Fits h k l p → ArePassRounds whole kind h k l workers p rounds
    → total saved rounds + cost h (after_rounds p rounds) ≡ cost h p

-- it has few rounds, each of the kind of the pass
abbrev pub PassHasFewRounds : Type 0
PassHasFewRounds =
    (whole : Bool) (kind : Kind) (h : Hyper) (k l workers : ℕ) (p : List ℕ) (rounds : List LoggedRound)
    → ArePassRounds whole kind h k l workers p rounds → length rounds ≤ most_rounds kind k

abbrev pub PassIsOfItsKind : Type 0
PassIsOfItsKind =
    (whole : Bool) (kind : Kind) (h : Hyper) (k l workers : ℕ) (p : List ℕ) (rounds : List LoggedRound)
    → ArePassRounds whole kind h k l workers p rounds → All (λ r. r.kind ≡ kind) rounds

-- a whole pass is also the first rounds of one
abbrev pub PassIsPartOfPass : Type 0
PassIsPartOfPass =
    (kind : Kind) (h : Hyper) (k l workers : ℕ) (p : List ℕ) (rounds : List LoggedRound)
    → IsPass kind h k l workers p rounds → IsPartOfPass kind h k l workers p rounds

-- the vertices that a round moved or assigned anew are free
abbrev pub MovesFree : Hyper → LoggedRound → Type 0
MovesFree h r = All (λ m. IsFree h m.vertex) r.moves × All (IsFree h) r.region

abbrev pub PassMovesFreeVertices : Type 0
PassMovesFreeVertices =
    (whole : Bool) (kind : Kind) (h : Hyper) (k l workers : ℕ) (p : List ℕ) (rounds : List LoggedRound)
    → ArePassRounds whole kind h k l workers p rounds → All (MovesFree h) rounds
