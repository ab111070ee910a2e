-- What whole descents by refiners of given kinds end with.
use Rattle.std.specs.Prelude.{◌≤◌, ℕ, List, [], ◌∷◌, ◌↔◌}
use Rattle.hg_defs.specs.Hypergraph.{Hyper}
use Rattle.hg_defs.specs.Cost.{cost}
use Rattle.hg_defs.specs.LeastLoaded.{greedy}
use Rattle.hg_defs.specs.Levels.{level}
use Rattle.round_log.specs.declared.record.Kind.{Kind}
use Rattle.round_log.specs.declared.record.Kind.TheVariants.{Label, Search, Flow}
use Rattle.round_log.specs.declared.record.LoggedRound.{LoggedRound}
use Rattle.round_log.specs.declared.record.Job.{Job}
use Rattle.round_log.specs.declared.record.Trace.{Trace}
use Rattle.round_log.specs.Trace.{IsRefined, IsLegal, limit_of}
use Rattle.round_log.specs.TraceLaws.{IsPlaceableFor, IsSettledPartition}
use Rattle.uncoarsen.specs.Refined.{IsRefinedBy, IsLegalBy}

-- whatever the kinds, what is written obeys the fixes, is within the limit and settled
abbrev pub EndsSettled : Type 0
EndsSettled =
    (kinds : List Kind) (h : Hyper) (job : Job) (trace : Trace) (q : List ℕ) → IsPlaceableFor h job → IsLegalBy kinds h job trace q
    → IsSettledPartition h job.k (limit_of h job) q

-- the refiners never raise the cost, on whatever levels
abbrev pub RefinersRaiseNoCost : Type 0
RefinersRaiseNoCost =
    (kinds : List Kind) (h : Hyper) (job : Job) (trace : Trace) (q : List ℕ) → IsPlaceableFor h job → IsLegalBy kinds h job trace q
    → cost h trace.last ≤ cost (level h trace.maps trace.start) trace.first

-- what is written costs no more than what came down the levels, nor than greedy placement
abbrev pub EndsBelowLast : Type 0
EndsBelowLast =
    (kinds : List Kind) (h : Hyper) (job : Job) (trace : Trace) (q : List ℕ) → IsPlaceableFor h job → IsLegalBy kinds h job trace q
    → cost h q ≤ cost h trace.last

abbrev pub EndsBelowGreedy : Type 0
EndsBelowGreedy =
    (kinds : List Kind) (h : Hyper) (job : Job) (trace : Trace) (q : List ℕ) → IsPlaceableFor h job → IsLegalBy kinds h job trace q
    → cost h q ≤ cost h (greedy h job.k)

-- with label propagation, searches and flows, in this order, the trace is the legal one
abbrev pub ThreeKindsAreLegal : Type 0
ThreeKindsAreLegal =
    (h : Hyper) (job : Job) (trace : Trace) (q : List ℕ)
    → (IsLegalBy (Label ∷ Search ∷ Flow ∷ []) h job trace q ↔ IsLegal h job trace q)

-- and so is each level
abbrev pub ThreeKindsRefine : Type 0
ThreeKindsRefine =
    (k l workers number : ℕ) (h : Hyper) (p : List ℕ) (rounds : List LoggedRound) (q : List ℕ)
    → (IsRefinedBy (Label ∷ Search ∷ Flow ∷ []) k l workers number h p rounds q ↔ IsRefined k l workers number h p rounds q)
