-- What traces, cycles and the deterministic mode end with: the laws over whole descents.
use Rattle.std.specs.Prelude.{◌≡◌, ℕ, ◌<◌, ◌≤◌, List, length, Some, None}
use Rattle.hg_defs.specs.Hypergraph.{Hyper, IsHypergraph, IsFixedWithin}
use Rattle.hg_defs.specs.Partition.{IsPartition, Fits, Obeys}
use Rattle.hg_defs.specs.Cost.{cost}
use Rattle.hg_defs.specs.LeastLoaded.{greedy, overfills}
use Rattle.hg_defs.specs.Moves.{IsSettled}
use Rattle.hg_defs.specs.Levels.{level, coarsest}
use Rattle.round_log.specs.declared.record.Job.{Job}
use Rattle.round_log.specs.declared.record.Trace.{Trace}
use Rattle.round_log.specs.declared.record.LoggedRound.{LoggedRound}
use Rattle.round_log.specs.Passes.{IsRacedBy}
use Rattle.round_log.specs.Trace.{IsDescent, AreContracted, IsStop, AreSweeps, IsLegal, limit_of}
use Rattle.round_log.specs.Cycles.{IsCycle, AreCycles}
use Rattle.round_log.specs.Deterministic.{IsSyncRound, IsSynced, IsPairing, IsDetStart, IsDetTrace, IsLegalDet, swept_until_settled, det_last, det}

-- a hypergraph that greedy placement parts within the limit
pub record IsPlaceableWithin (h : Hyper) (k l : ℕ) : Type 0 where
  pub hypergraph : IsHypergraph h
  pub fixed : IsFixedWithin h k
  pub blocks : 0 < k
  pub placed : overfills h k l ≡ None

abbrev pub IsPlaceableFor : Hyper → Job → Type 0
IsPlaceableFor h job = IsPlaceableWithin h job.k (limit_of h job)

-- each vertex has a block, where it is fixed and within the limit
pub record IsSound (h : Hyper) (k l : ℕ) (p : List ℕ) : Type 0 where
  pub partition : IsPartition h k p
  pub obeys : Obeys h p
  pub fits : Fits h k l p

-- and no single allowed move makes the partition cheaper
pub record IsSettledPartition (h : Hyper) (k l : ℕ) (q : List ℕ) : Type 0 where
  pub sound : IsSound h k l q
  pub settled : IsSettled h k l q

-- ---- the laws of a trace

-- a legal trace ends with such a partition
abbrev pub TraceEndsSettled : Type 0
TraceEndsSettled =
    (h : Hyper) (job : Job) (trace : Trace) (q : List ℕ) → IsPlaceableFor h job → IsLegal h job trace q → IsSettledPartition h job.k (limit_of h job) q

-- the refiners never raise the cost, on whatever levels
abbrev pub DescentRaisesNoCost : Type 0
DescentRaisesNoCost =
    (h : Hyper) (job : Job) (trace : Trace) (q : List ℕ) → IsPlaceableFor h job → IsLegal h job trace q
    → cost h trace.last ≤ cost (level h trace.maps trace.start) trace.first

-- what is written costs no more than what came down the levels, nor than greedy placement
abbrev pub TraceEndsBelowLast : Type 0
TraceEndsBelowLast = (h : Hyper) (job : Job) (trace : Trace) (q : List ℕ) → IsPlaceableFor h job → IsLegal h job trace q → cost h q ≤ cost h trace.last

abbrev pub TraceEndsBelowGreedy : Type 0
TraceEndsBelowGreedy =
    (h : Hyper) (job : Job) (trace : Trace) (q : List ℕ) → IsPlaceableFor h job → IsLegal h job trace q → cost h q ≤ cost h (greedy h job.k)

-- ---- the laws of a cycle

-- its first partition costs as much as the one that it begins with, and the cost never rises
abbrev pub CycleBeginsAtCost : Type 0
CycleBeginsAtCost =
    (h : Hyper) (k l workers : ℕ) (trace : Trace) (p q : List ℕ) → IsHypergraph h → IsSound h k l p → IsCycle h k l workers trace p q
    → cost (level h trace.maps trace.start) trace.first ≡ cost h p

abbrev pub CycleRaisesNoCost : Type 0
CycleRaisesNoCost =
    (h : Hyper) (k l workers : ℕ) (trace : Trace) (p q : List ℕ) → IsHypergraph h → IsSound h k l p → IsCycle h k l workers trace p q
    → cost h q ≤ cost h p

-- it ends settled, within the limit and with the fixes obeyed
abbrev pub CycleEndsSettled : Type 0
CycleEndsSettled =
    (h : Hyper) (k l workers : ℕ) (trace : Trace) (p q : List ℕ) → IsHypergraph h → IsSound h k l p → IsCycle h k l workers trace p q
    → IsSettledPartition h k l q

-- and so do several of them
abbrev pub CyclesRaiseNoCost : Type 0
CyclesRaiseNoCost =
    (h : Hyper) (k l workers : ℕ) (cycles : List Trace) (p q : List ℕ) → IsHypergraph h → IsSettledPartition h k l p
    → AreCycles h k l workers cycles p q → cost h q ≤ cost h p

abbrev pub CyclesEndSettled : Type 0
CyclesEndSettled =
    (h : Hyper) (k l workers : ℕ) (cycles : List Trace) (p q : List ℕ) → IsHypergraph h → IsSettledPartition h k l p
    → AreCycles h k l workers cycles p q → IsSettledPartition h k l q

-- ---- the laws of the deterministic mode

-- a synchronous round of a partition that isn't settled is a raced round that lowers the cost
abbrev pub SyncRoundIsRaced : Type 0
SyncRoundIsRaced =
    (h : Hyper) (k l workers : ℕ) (p : List ℕ) (r : LoggedRound) → IsPartition h k p → Fits h k l p → 0 < workers
    → IsSyncRound h k l workers p r → IsRacedBy h k l workers p r

abbrev pub SyncRoundLowersCost : Type 0
SyncRoundLowersCost =
    (h : Hyper) (k l workers : ℕ) (p : List ℕ) (r : LoggedRound) → IsPartition h k p → Fits h k l p → (IsSettled h k l p → ⊥)
    → IsSyncRound h k l workers p r → r.after < r.before

-- sweeps until the partition is settled end where the function says
abbrev pub SweepsEndAtFunction : Type 0
SweepsEndAtFunction =
    (h : Hyper) (k l : ℕ) (p : List ℕ) (rounds : List LoggedRound) (q : List ℕ) → AreSweeps h k l p rounds q → q ≡ swept_until_settled h k l p

abbrev pub FunctionEndsSettled : Type 0
FunctionEndsSettled = (h : Hyper) (k l : ℕ) (p : List ℕ) → IsSettled h k l (swept_until_settled h k l p)

-- whatever the workers, the descent ends where the function says, and so does the whole trace
abbrev pub DetDescentEndsAtFunction : Type 0
DetDescentEndsAtFunction =
    (h : Hyper) (k l seed workers : ℕ) (trace : Trace) (rounds : List LoggedRound)
    → AreContracted (IsPairing k) 0 h k trace.maps → IsStop (IsPairing k) (length trace.maps) (coarsest h trace.maps) k trace.stop
    → IsDetStart h k l seed trace → IsDescent (IsSynced k l workers) h trace.maps trace.start trace.first rounds trace.last
    → det_last h k l seed ≡ Some trace.last

abbrev pub DetTraceEndsAtFunction : Type 0
DetTraceEndsAtFunction =
    (h : Hyper) (k l seed workers : ℕ) (trace : Trace) (q : List ℕ) → IsDetTrace h k l seed workers trace q → det h k l seed ≡ Some q

-- the trace is legal
abbrev pub DetTraceIsLegal : Type 0
DetTraceIsLegal =
    (h : Hyper) (job : Job) (trace : Trace) (q : List ℕ) → IsPlaceableFor h job → 0 < job.workers
    → IsDetTrace h job.k (limit_of h job) job.seed job.workers trace q → IsLegalDet h job trace q

-- and a legal trace of the mode ends settled, within the limit and with the fixes obeyed, no dearer than greedy placement
abbrev pub DetEndsSettled : Type 0
DetEndsSettled =
    (h : Hyper) (job : Job) (trace : Trace) (q : List ℕ) → IsPlaceableFor h job → IsLegalDet h job trace q
    → IsSettledPartition h job.k (limit_of h job) q

abbrev pub DetEndsBelowGreedy : Type 0
DetEndsBelowGreedy =
    (h : Hyper) (job : Job) (trace : Trace) (q : List ℕ) → IsPlaceableFor h job → IsLegalDet h job trace q → cost h q ≤ cost h (greedy h job.k)
