-- What cycles by refiners of given kinds begin and end with.
use Rattle.std.specs.Prelude.{◌≡◌, ◌≤◌, ℕ, List, [], ◌∷◌, ◌↔◌}
use Rattle.hg_defs.specs.Hypergraph.{Hyper, IsHypergraph}
use Rattle.hg_defs.specs.Cost.{cost}
use Rattle.hg_defs.specs.Levels.{level}
use Rattle.round_log.specs.declared.record.Kind.{Kind}
use Rattle.round_log.specs.declared.record.Kind.TheVariants.{Label, Search, Flow}
use Rattle.round_log.specs.declared.record.Trace.{Trace}
use Rattle.round_log.specs.Cycles.{IsCycle, AreCycles}
use Rattle.round_log.specs.TraceLaws.{IsSound, IsSettledPartition}
use Rattle.vcycle.specs.Cycles.{IsCycleBy, AreCyclesBy}

-- whatever the kinds, the first partition costs as much as the one that the cycle begins with, and the cost never rises
abbrev pub CycleByBeginsAtCost : Type 0
CycleByBeginsAtCost =
    (kinds : List Kind) (h : Hyper) (k l workers : ℕ) (trace : Trace) (p q : List ℕ) → IsHypergraph h → IsSound h k l p
    → IsCycleBy kinds h k l workers trace p q → cost (level h trace.maps trace.start) trace.first ≡ cost h p

abbrev pub CycleByRaisesNoCost : Type 0
CycleByRaisesNoCost =
    (kinds : List Kind) (h : Hyper) (k l workers : ℕ) (trace : Trace) (p q : List ℕ) → IsHypergraph h → IsSound h k l p
    → IsCycleBy kinds h k l workers trace p q → cost h q ≤ cost h p

-- it ends settled, within the limit and with the fixes obeyed
abbrev pub CycleByEndsSettled : Type 0
CycleByEndsSettled =
    (kinds : List Kind) (h : Hyper) (k l workers : ℕ) (trace : Trace) (p q : List ℕ) → IsHypergraph h → IsSound h k l p
    → IsCycleBy kinds h k l workers trace p q → IsSettledPartition h k l q

-- and so do several of them
abbrev pub CyclesByRaiseNoCost : Type 0
CyclesByRaiseNoCost =
    (kinds : List Kind) (h : Hyper) (k l workers : ℕ) (cycles : List Trace) (p q : List ℕ) → IsHypergraph h → IsSound h k l p
    → AreCyclesBy kinds h k l workers cycles p q → cost h q ≤ cost h p

abbrev pub CyclesByEndSettled : Type 0
CyclesByEndSettled =
    (kinds : List Kind) (h : Hyper) (k l workers : ℕ) (cycles : List Trace) (p q : List ℕ) → IsHypergraph h → IsSettledPartition h k l p
    → AreCyclesBy kinds h k l workers cycles p q → IsSettledPartition h k l q

-- with label propagation, searches and flows, in this order, they are those of the method
abbrev pub ThreeKindsCycle : Type 0
ThreeKindsCycle =
    (h : Hyper) (k l workers : ℕ) (trace : Trace) (p q : List ℕ)
    → (IsCycleBy (Label ∷ Search ∷ Flow ∷ []) h k l workers trace p q ↔ IsCycle h k l workers trace p q)

abbrev pub ThreeKindsCycles : Type 0
ThreeKindsCycles =
    (h : Hyper) (k l workers : ℕ) (cycles : List Trace) (p q : List ℕ)
    → (AreCyclesBy (Label ∷ Search ∷ Flow ∷ []) h k l workers cycles p q ↔ AreCycles h k l workers cycles p q)
