-- The laws of cycles by refiners of given kinds.
use Rattle.std.proofs.Common.{◌≡◌, ℕ, zero, suc, ◌<◌, ◌≤◌, List, [], ◌∷◌, length, All, refl, sym, ap, subst, ◌∙◌, arith}
use Rattle.std.proofs.lemmas.List.Elements.{All-nil, All-cons}
use Rattle.hg_defs.specs.Hypergraph.{Hyper, IsHypergraph, total_weight}
use Rattle.hg_defs.specs.Partition.{IsPartition, Fits, Obeys}
use Rattle.hg_defs.specs.Cost.{cost}
use Rattle.hg_defs.specs.Contraction.{contract, after}
use Rattle.hg_defs.specs.ContractionLaws.{IsContractible}
use Rattle.hg_defs.specs.Clustering.{cluster_count, cluster_cap, IsClustering, IsInside}
use Rattle.hg_defs.specs.Levels.{level, map_of, lifted, lifted_to}
use Rattle.hg_defs.specs.LevelLaws.{AreContractible}
use Rattle.hg_defs.proofs.ContractionLaws.{partition_lifted, fitting_lifted, fixes_lifted, cost_kept}
use Rattle.hg_defs.proofs.LevelLaws.{level_is_contraction, lifted-projected, lifted_follows, length-lifted}
use Rattle.round_log.specs.declared.record.Kind.{Kind}
use Rattle.round_log.specs.declared.record.Trace.{Trace}
use Rattle.round_log.specs.Trace.{AreContracted}
use Rattle.round_log.specs.Cycles.{IsInsideAt}
use Rattle.round_log.specs.TraceLaws.{IsSound, IsSettledPartition}
use Rattle.round_log.proofs.RoundLaws.{sweeps-no_dearer}
use Rattle.round_log.proofs.DescentLaws.{descends, swept_settled, good_level, level_contractible}
use Rattle.uncoarsen.specs.Refined.{IsRefinedBy}
use Rattle.uncoarsen.proofs.PassesLaws.{refined_by_leaves}
use Rattle.vcycle.specs.Cycles.{IsCycleBy, AreCyclesBy}
use Rattle.vcycle.specs.CycleLaws.{CycleByBeginsAtCost, CycleByRaisesNoCost, CycleByEndsSettled, CyclesByRaiseNoCost, CyclesByEndSettled}

pub inside_clustering : (k : ℕ) (maps : List (List ℕ)) (p : List ℕ) (number : ℕ) (h : Hyper) (c : List ℕ) → IsHypergraph h → IsInsideAt k maps p number h c →
    (cap : ℕ) × IsClustering h cap c
inside_clustering k maps p number h c sound inside = (cluster_cap (total_weight h) k, inside.clustering)

-- ---- a partition that is carried up, where each clustering is inside its blocks

module _ (h : Hyper) (k l : ℕ) (maps : List (List ℕ)) (p : List ℕ) (sound : IsHypergraph h) (contracted : AreContracted (IsInsideAt k maps p) 0 h k maps)
  where
    -- on a level and the next one
    module _ (i : ℕ) (low : i < length maps) (o : IsSound (level h maps i) k l (lifted_to p maps i)) where
      abbrev fine : Hyper
      fine = level h maps i

      abbrev coarse : Hyper
      coarse = contract fine (map_of maps i) (cluster_count (map_of maps i))

      abbrev above : List ℕ
      above = lifted (lifted_to p maps i) (map_of maps i) (cluster_count (map_of maps i))

      inside : IsInside fine (cluster_cap (total_weight fine) k) (lifted_to p maps i) (map_of maps i)
      inside = good_level (IsInsideAt k maps p) (inside_clustering k maps p) k h maps sound contracted i low

      at : IsContractible fine (map_of maps i) (cluster_count (map_of maps i))
      at = level_contractible (IsInsideAt k maps p) (inside_clustering k maps p) k h maps sound contracted i low

      back : after above (map_of maps i) ≡ lifted_to p maps i
      back = lifted-projected fine (map_of maps i) (cluster_count (map_of maps i)) (lifted_to p maps i) at o.partition.vertices inside.blocks

      long : length above ≡ cluster_count (map_of maps i)
      long = length-lifted (lifted_to p maps i) (map_of maps i) (cluster_count (map_of maps i))

      above_sound : IsSound coarse k l above × (cost coarse above ≡ cost fine (lifted_to p maps i))
      above_sound = (
        record {
          partition = partition_lifted fine (map_of maps i) (cluster_count (map_of maps i)) k above at long (subst (IsPartition fine k) (sym back) o.partition);
          obeys = fixes_lifted fine (map_of maps i) (cluster_count (map_of maps i)) above at (subst (Obeys fine) (sym back) o.obeys);
          fits = fitting_lifted fine (map_of maps i) (cluster_count (map_of maps i)) k l above at long (subst (Fits fine k l) (sym back) o.fits);
        },
        sym (cost_kept fine (map_of maps i) (cluster_count (map_of maps i)) above at) ∙ ap (cost fine) back,
      )

      lifted_sound : IsSound (level h maps (suc i)) k l (lifted_to p maps (suc i)) × (cost (level h maps (suc i)) (lifted_to p maps (suc i)) ≡ cost fine
          (lifted_to p maps i))
      lifted_sound =
          subst (λ (g : Hyper). IsSound g k l (lifted_to p maps (suc i)) × (cost g (lifted_to p maps (suc i)) ≡ cost fine (lifted_to p maps i)))
          (sym (level_is_contraction h maps i low))
          (subst (λ (q : List ℕ). IsSound coarse k l q × (cost coarse q ≡ cost fine (lifted_to p maps i))) (sym (lifted_follows p maps i low)) above_sound)

    pub carried_up : (i : ℕ) → i ≤ length maps → IsSound h k l p → IsSound (level h maps i) k l (lifted_to p maps i) ×
        (cost (level h maps i) (lifted_to p maps i) ≡ cost h p)
    carried_up zero low o = (o, refl)
    carried_up (suc i) low o = let below = carried_up i (omega arith) o in let here = lifted_sound i (omega arith) below.0 in (here.0, here.1 ∙ below.1)

-- ---- one cycle

-- the levels of a trace up to that of its first partition
abbrev pub HasLevels : Hyper → ℕ → Trace → Type 0
HasLevels h k trace =
    (trace.start ≤ length trace.maps)
    × AreContractible h trace.maps trace.start
    × IsPartition (level h trace.maps trace.start) k trace.first

module _ (kinds : List Kind) (h : Hyper) (k l workers : ℕ) (trace : Trace) (p q : List ℕ) (sound : IsHypergraph h) (o : IsSound h k l p)
    (cycle : IsCycleBy kinds h k l workers trace p q)
  where
    on_level : trace.start ≤ length trace.maps
    on_level = let e = cycle.start in omega arith

    pub first_sound : IsSound (level h trace.maps trace.start) k l trace.first × (cost (level h trace.maps trace.start) trace.first ≡ cost h p)
    first_sound =
        subst (λ (f : List ℕ). IsSound (level h trace.maps trace.start) k l f × (cost (level h trace.maps trace.start) f ≡ cost h p)) (sym cycle.first)
        (carried_up h k l trace.maps p sound cycle.descended.maps trace.start on_level o)

    last_is : IsSound h k l trace.last × (cost h trace.last ≤ cost (level h trace.maps trace.start) trace.first)
    last_is =
        descends (IsInsideAt k trace.maps p) (inside_clustering k trace.maps p) k h trace.maps sound cycle.descended.maps (IsRefinedBy kinds k l workers) l
        (refined_by_leaves kinds k l workers) trace.start on_level trace.first cycle.descended.level_rounds trace.last cycle.descended.descent first_sound.0

    end_is : IsSettledPartition h k l q × (cost h q ≤ cost h p)
    end_is =
        let swept = sweeps-no_dearer h k l trace.last cycle.descended.sweeps q cycle.descended.settled in
        let last = last_is.1 in
        let first = first_sound.1 in
        (swept_settled h k l trace.last cycle.descended.sweeps q last_is.0 cycle.descended.settled, omega arith)

    -- its levels lead up to that of a partition
    pub cycle_levels : HasLevels h k trace
    cycle_levels = (
      on_level,
      λ i low.
          level_contractible (IsInsideAt k trace.maps p) (inside_clustering k trace.maps p) k h trace.maps sound cycle.descended.maps i
          (let bound = on_level in omega arith),
      first_sound.0.partition,
    )

pub cycle_begins : CycleByBeginsAtCost
cycle_begins kinds h k l workers trace p q sound o cycle = (first_sound kinds h k l workers trace p q sound o cycle).1

pub cycle_no_dearer : CycleByRaisesNoCost
cycle_no_dearer kinds h k l workers trace p q sound o cycle = (end_is kinds h k l workers trace p q sound o cycle).1

pub cycle_settled : CycleByEndsSettled
cycle_settled kinds h k l workers trace p q sound o cycle = (end_is kinds h k l workers trace p q sound o cycle).0

-- ---- several cycles

pub cycles_settled : CyclesByEndSettled
cycles_settled kinds h k l workers [] p q sound o cycles = subst (IsSettledPartition h k l) (sym cycles) o
cycles_settled kinds h k l workers (trace ∷ rest) p q sound o cycles =
    cycles_settled kinds h k l workers rest cycles.0 q sound (cycle_settled kinds h k l workers trace p cycles.0 sound o.sound cycles.1) cycles.2

pub cycles_no_dearer : CyclesByRaiseNoCost
cycles_no_dearer kinds h k l workers [] p q sound o cycles = let e = ap (cost h) cycles in omega arith
cycles_no_dearer kinds h k l workers (trace ∷ rest) p q sound o cycles =
    let one = cycle_no_dearer kinds h k l workers trace p cycles.0 sound o cycles.1 in
    let reached = cycle_settled kinds h k l workers trace p cycles.0 sound o cycles.1 in
    let others = cycles_no_dearer kinds h k l workers rest cycles.0 q sound reached.sound cycles.2 in
    omega arith

-- the levels of each of them
pub cycles_levels : (kinds : List Kind) (h : Hyper) (k l workers : ℕ) (cycles : List Trace) (p q : List ℕ) → IsHypergraph h → IsSound h k l p →
    AreCyclesBy kinds h k l workers cycles p q → All (HasLevels h k) cycles
cycles_levels kinds h k l workers [] p q sound o cycles = All-nil (HasLevels h k)
cycles_levels kinds h k l workers (trace ∷ rest) p q sound o cycles =
    All-cons (HasLevels h k) trace rest (cycle_levels kinds h k l workers trace p cycles.0 sound o cycles.1)
    (cycles_levels kinds h k l workers rest cycles.0 q sound (cycle_settled kinds h k l workers trace p cycles.0 sound o cycles.1).sound cycles.2)
