-- Cycles by label propagation, searches and flows.
use Rattle.std.proofs.Common.{ℕ, List, [], ◌∷◌}
use Rattle.hg_defs.specs.Hypergraph.{Hyper}
use Rattle.round_log.specs.declared.record.Kind.{Kind}
use Rattle.round_log.specs.declared.record.Kind.TheVariants.{Label, Search, Flow}
use Rattle.round_log.specs.declared.record.LoggedRound.{LoggedRound}
use Rattle.round_log.specs.declared.record.Trace.{Trace}
use Rattle.round_log.specs.Trace.{Good, Refined, IsRefined, IsDescended}
use Rattle.round_log.specs.Cycles.{IsCycle, AreCycles}
use Rattle.uncoarsen.specs.Refined.{IsRefinedBy}
use Rattle.uncoarsen.proofs.LegalLaws.{three_kinds_refine, descent_by}
use Rattle.vcycle.specs.Cycles.{IsCycleBy, AreCyclesBy}
use Rattle.vcycle.specs.CycleLaws.{ThreeKindsCycle, ThreeKindsCycles}

abbrev three : List Kind
three = Label ∷ Search ∷ Flow ∷ []

-- a descent whose levels may also be refined in another way
descended_by : (refined other : Refined)
    → ((number : ℕ) (h : Hyper) (p : List ℕ) (rounds : List LoggedRound) (q : List ℕ) → refined number h p rounds q → other number h p rounds q)
    → (good : Good) (h : Hyper) (k l : ℕ) (trace : Trace) (swept q : List ℕ) → IsDescended good refined h k l trace swept q
    → IsDescended good other h k l trace swept q
descended_by refined other turned good h k l trace swept q d = record {
  maps = d.maps;
  stop = d.stop;
  level_rounds = d.level_rounds;
  sweeps = d.sweeps;
  rounds_are = d.rounds_are;
  descent = descent_by refined other turned h trace.maps trace.start trace.first d.level_rounds trace.last d.descent;
  settled = d.settled;
}

module _ (h : Hyper) (k l workers : ℕ) where
  cycle_to : (trace : Trace) (p q : List ℕ) → IsCycleBy three h k l workers trace p q → IsCycle h k l workers trace p q
  cycle_to trace p q c = record {
    start = c.start;
    first = c.first;
    chosen = c.chosen;
    descended =
        descended_by (IsRefinedBy three k l workers) (IsRefined k l workers)
        (λ number g r rounds s. (three_kinds_refine k l workers number g r rounds s).0) _ h k l trace trace.last q c.descended;
  }

  cycle_from : (trace : Trace) (p q : List ℕ) → IsCycle h k l workers trace p q → IsCycleBy three h k l workers trace p q
  cycle_from trace p q c = record {
    start = c.start;
    first = c.first;
    chosen = c.chosen;
    descended =
        descended_by (IsRefined k l workers) (IsRefinedBy three k l workers)
        (λ number g r rounds s. (three_kinds_refine k l workers number g r rounds s).1) _ h k l trace trace.last q c.descended;
  }

  cycles_to : (cycles : List Trace) (p q : List ℕ) → AreCyclesBy three h k l workers cycles p q → AreCycles h k l workers cycles p q
  cycles_to [] p q none = none
  cycles_to (trace ∷ cycles) p q s = (s.0, cycle_to trace p s.0 s.1, cycles_to cycles s.0 q s.2)

  cycles_from : (cycles : List Trace) (p q : List ℕ) → AreCycles h k l workers cycles p q → AreCyclesBy three h k l workers cycles p q
  cycles_from [] p q none = none
  cycles_from (trace ∷ cycles) p q s = (s.0, cycle_from trace p s.0 s.1, cycles_from cycles s.0 q s.2)

pub three_kinds_cycle : ThreeKindsCycle
three_kinds_cycle h k l workers trace p q = (cycle_to h k l workers trace p q, cycle_from h k l workers trace p q)

pub three_kinds_cycles : ThreeKindsCycles
three_kinds_cycles h k l workers cycles p q = (cycles_to h k l workers cycles p q, cycles_from h k l workers cycles p q)
