-- The laws of cycles.
use Rattle.std.proofs.Common.{◌≡◌, ℕ, zero, suc, ◌<◌, ◌≤◌, List, [], ◌∷◌, length, refl, sym, ap, subst, ◌∙◌, arith}
use Rattle.hg_defs.specs.Hypergraph.{Hyper, IsHypergraph, total_weight}
use Rattle.hg_defs.specs.Partition.{IsPartition, Fits, Obeys}
use Rattle.hg_defs.specs.Cost.{cost}
use Rattle.hg_defs.specs.Contraction.{contract, after}
use Rattle.hg_defs.specs.ContractionLaws.{IsContractible}
use Rattle.hg_defs.specs.Clustering.{cluster_count, cluster_cap, IsClustering, IsInside}
use Rattle.hg_defs.specs.Levels.{level, map_of, lifted, lifted_to}
use Rattle.hg_defs.proofs.ContractionLaws.{partition_lifted, fitting_lifted, fixes_lifted, cost_kept}
use Rattle.hg_defs.proofs.LevelLaws.{level_is_contraction, lifted-projected, lifted_follows, length-lifted}
use Rattle.round_log.specs.declared.record.Trace.{Trace}
use Rattle.round_log.specs.Trace.{IsRefined, AreContracted}
use Rattle.round_log.specs.Cycles.{IsInsideAt, IsCycle}
use Rattle.round_log.specs.TraceLaws.{IsSound, IsSettledPartition, CycleBeginsAtCost, CycleRaisesNoCost}
use Rattle.round_log.specs.TraceLaws.{CycleEndsSettled, CyclesRaiseNoCost, CyclesEndSettled}
use Rattle.round_log.proofs.RoundLaws.{sweeps-no_dearer}
use Rattle.round_log.proofs.DescentLaws.{descends, swept_settled, good_level, level_contractible}
use Rattle.round_log.proofs.TraceLaws.{refined_keeps}

inside_clustering : (k : ℕ) (maps : List (List ℕ)) (p : List ℕ) (number : ℕ) (h : Hyper) (c : List ℕ) → IsHypergraph h → IsInsideAt k maps p number h c →
    (cap : ℕ) × IsClustering h cap c
inside_clustering k maps p number h c sound inside = (cluster_cap (total_weight h) k, inside.clustering)

-- ---- a partition that is carried up, where each clustering is inside its blocks

module _ (h : Hyper) (k l : ℕ) (maps : List (List ℕ)) (p : List ℕ) (sound : IsHypergraph h) (contracted : AreContracted (IsInsideAt k maps p) 0 h k maps)
  where
    -- on a level and the next one
    module _ (i : ℕ) (low : i < length maps) (o : IsSound (level h maps i) k l (lifted_to p maps i)) where
      inside : IsInside (level h maps i) (cluster_cap (total_weight (level h maps i)) k) (lifted_to p maps i) (map_of maps i)
      inside = good_level (IsInsideAt k maps p) (inside_clustering k maps p) k h maps sound contracted i low

      at : IsContractible (level h maps i) (map_of maps i) (cluster_count (map_of maps i))
      at = level_contractible (IsInsideAt k maps p) (inside_clustering k maps p) k h maps sound contracted i low

      abbrev above : List ℕ
      above = lifted (lifted_to p maps i) (map_of maps i) (cluster_count (map_of maps i))

      back : after above (map_of maps i) ≡ lifted_to p maps i
      back = lifted-projected (level h maps i) (map_of maps i) (cluster_count (map_of maps i)) (lifted_to p maps i) at o.partition.vertices inside.blocks

      long : length above ≡ cluster_count (map_of maps i)
      long = length-lifted (lifted_to p maps i) (map_of maps i) (cluster_count (map_of maps i))

      lifted_sound : IsSound (level h maps (suc i)) k l (lifted_to p maps (suc i)) × (cost (level h maps (suc i)) (lifted_to p maps (suc i)) ≡ cost
          (level h maps i) (lifted_to p maps i))
      lifted_sound =
          subst (λ (g : Hyper). IsSound g k l (lifted_to p maps (suc i)) × (cost g (lifted_to p maps (suc i)) ≡ cost (level h maps i) (lifted_to p maps i)))
          (sym (level_is_contraction h maps i low))
          (subst (λ (q : List ℕ). IsSound (contract (level h maps i) (map_of maps i) (cluster_count (map_of maps i))) k l q ×
          (cost (contract (level h maps i) (map_of maps i) (cluster_count (map_of maps i))) q ≡ cost (level h maps i) (lifted_to p maps i)))
          (sym (lifted_follows p maps i low)) (
            record {
              partition = partition_lifted (level h maps i) (map_of maps i) (cluster_count (map_of maps i)) k above at long
                  (subst (IsPartition (level h maps i) k) (sym back) o.partition);
              obeys = fixes_lifted (level h maps i) (map_of maps i) (cluster_count (map_of maps i)) above at
                  (subst (Obeys (level h maps i)) (sym back) o.obeys);
              fits = fitting_lifted (level h maps i) (map_of maps i) (cluster_count (map_of maps i)) k l above at long
                  (subst (Fits (level h maps i) k l) (sym back) o.fits);
            },
            sym (cost_kept (level h maps i) (map_of maps i) (cluster_count (map_of maps i)) above at) ∙ ap (cost (level h maps i)) back,
          ))

    carried_up : (i : ℕ) → i ≤ length maps → IsSound h k l p → IsSound (level h maps i) k l (lifted_to p maps i) ×
        (cost (level h maps i) (lifted_to p maps i) ≡ cost h p)
    carried_up zero low o = (o, refl)
    carried_up (suc i) low o = let below = carried_up i (omega arith) o in let here = lifted_sound i (omega arith) below.0 in (here.0, here.1 ∙ below.1)

-- ---- the laws

module _ (h : Hyper) (k l workers : ℕ) (trace : Trace) (p q : List ℕ) (sound : IsHypergraph h) (o : IsSound h k l p)
    (cycle : IsCycle h k l workers trace p q)
  where
    first_is : IsSound (level h trace.maps trace.start) k l trace.first × (cost (level h trace.maps trace.start) trace.first ≡ cost h p)
    first_is =
        subst (λ (f : List ℕ). IsSound (level h trace.maps trace.start) k l f × (cost (level h trace.maps trace.start) f ≡ cost h p)) (sym cycle.first)
        (carried_up h k l trace.maps p sound cycle.descended.maps trace.start (let e = cycle.start in omega arith) o)

    last_is : IsSound h k l trace.last × (cost h trace.last ≤ cost (level h trace.maps trace.start) trace.first)
    last_is =
        descends (IsInsideAt k trace.maps p) (inside_clustering k trace.maps p) k h trace.maps sound cycle.descended.maps (IsRefined k l workers) l
        (refined_keeps k l workers) trace.start
        (let e = cycle.start in omega arith) trace.first cycle.descended.level_rounds trace.last cycle.descended.descent first_is.0

    end_is : IsSettledPartition h k l q × (cost h q ≤ cost h p)
    end_is =
        let swept = sweeps-no_dearer h k l trace.last cycle.descended.sweeps q cycle.descended.settled in
        let last = last_is.1 in
        let first = first_is.1 in
        (swept_settled h k l trace.last cycle.descended.sweeps q last_is.0 cycle.descended.settled, omega arith)

pub cycle-begins : CycleBeginsAtCost
cycle-begins h k l workers trace p q sound o cycle = (first_is h k l workers trace p q sound o cycle).1

pub cycle-no_dearer : CycleRaisesNoCost
cycle-no_dearer h k l workers trace p q sound o cycle = (end_is h k l workers trace p q sound o cycle).1

pub cycle-settled : CycleEndsSettled
cycle-settled h k l workers trace p q sound o cycle = (end_is h k l workers trace p q sound o cycle).0

pub cycles-settled : CyclesEndSettled
cycles-settled h k l workers [] p q sound o cycles = subst (IsSettledPartition h k l) (sym cycles) o
cycles-settled h k l workers (trace ∷ rest) p q sound o cycles =
    cycles-settled h k l workers rest cycles.0 q sound (cycle-settled h k l workers trace p cycles.0 sound o.sound cycles.1) cycles.2

pub cycles-no_dearer : CyclesRaiseNoCost
cycles-no_dearer h k l workers [] p q sound o cycles = let e = ap (cost h) cycles in omega arith
cycles-no_dearer h k l workers (trace ∷ rest) p q sound o cycles =
    let one = cycle-no_dearer h k l workers trace p cycles.0 sound o.sound cycles.1 in
    let others = cycles-no_dearer h k l workers rest cycles.0 q sound (cycle-settled h k l workers trace p cycles.0 sound o.sound cycles.1) cycles.2 in
    omega arith
