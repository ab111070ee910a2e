-- What descents keep, whatever is asked of the clusterings and of the rounds of a level.
use Rattle.std.proofs.Common.{◌≡◌, ◌⊎◌, inl, inr, ℕ, zero, suc, ◌+◌, ◌<◌, ◌≤◌, List, [], ◌∷◌, ◌++◌, length, refl, sym, ap, subst, ◌∙◌, arith}
use Rattle.std.proofs.lemmas.Bool.{cases_lt}
use Rattle.hg_defs.specs.Hypergraph.{Hyper, IsHypergraph, IsFixedWithin}
use Rattle.hg_defs.specs.Cost.{cost}
use Rattle.hg_defs.specs.LeastLoaded.{greedy}
use Rattle.hg_defs.specs.Contraction.{contract, after, IsApart}
use Rattle.hg_defs.specs.ContractionLaws.{IsContractible}
use Rattle.hg_defs.specs.Clustering.{cluster_count, IsClustering, Shrinks}
use Rattle.hg_defs.specs.Levels.{level, coarsest, map_of}
use Rattle.hg_defs.proofs.ContractionLaws.{hypergraph_kept, partition_projected, fitting_projected, fixes_projected, fixes_within, cost_kept}
use Rattle.hg_defs.proofs.LevelLaws.{level_is_contraction, vertices_of_contraction}
use Rattle.hg_defs.proofs.PlacementLaws.{greedy-partition, greedy-obeys, greedy-fits}
use Rattle.round_log.specs.declared.record.Chosen.{Chosen}
use Rattle.round_log.specs.declared.record.Chosen.TheVariants.{Levels, Greedy}
use Rattle.round_log.specs.declared.record.LoggedRound.{LoggedRound}
use Rattle.round_log.specs.Rounds.{after_round, after_rounds}
use Rattle.round_log.specs.Trace.{IsLarge, AreContracted, IsDescent, IsChoice, AreSweeps}
use Rattle.round_log.specs.TraceLaws.{IsPlaceableWithin, IsSound, IsSettledPartition}
use Rattle.round_log.proofs.RoundLaws.{sweeps-partition, sweeps-obeys, sweeps-fits, sweeps-settled}
use Rattle.round_log.proofs.PassLaws.{AllKeep, rounds-partition, rounds-obeys, rounds-fits, rounds-no_dearer}

-- ---- rounds

pub keep_append : (h : Hyper) (k l : ℕ) (p : List ℕ) (xs ys : List LoggedRound) → AllKeep h k l p xs → AllKeep h k l (after_rounds p xs) ys →
    AllKeep h k l p (xs ++ ys)
keep_append h k l p [] ys a b = b
keep_append h k l p (r ∷ xs) ys a b = (a.0, keep_append h k l (after_round p r) xs ys a.1 b)

-- what rounds lead to is sound, and no dearer
unfoldable pub Leaves : Hyper → ℕ → ℕ → List ℕ → List ℕ → Type 0
Leaves h k l p q = IsSound h k l p → IsSound h k l q × (cost h q ≤ cost h p)

pub leaves_by : (h : Hyper) (k l : ℕ) (p : List ℕ) (rounds : List LoggedRound) (q : List ℕ) → AllKeep h k l p rounds → q ≡ after_rounds p rounds →
    Leaves h k l p q
unfolding Leaves
leaves_by h k l p rounds q keep e o =
    let less = rounds-no_dearer h k l p rounds o.partition o.fits keep in
    let same = ap (cost h) e in (
      subst (IsSound h k l) (sym e) (record {
        partition = rounds-partition h k l p rounds o.partition keep;
        obeys = rounds-obeys h k l p rounds o.obeys keep;
        fits = rounds-fits h k l p rounds o.partition o.fits keep;
      }),
      omega arith,
    )

-- ---- levels

-- a clustering can be contracted, and leaves each vertex that isn't free alone
pub contractible : (cap : ℕ) (h : Hyper) (c : List ℕ) → IsHypergraph h → IsClustering h cap c → IsContractible h c (cluster_count c)
contractible cap h c sound good = record { hypergraph = sound; full = good.full }

pub apart : (cap : ℕ) (h : Hyper) (c : List ℕ) → IsClustering h cap c → IsApart h c
apart cap h c good v u low low' same other = good.free v u (record { first = low; second = low'; different = other; cluster = same })

module _ (good : ℕ → Hyper → List ℕ → Type 0) (clustering : (number : ℕ) (h : Hyper) (c : List ℕ) → IsHypergraph h → good number h c →
    (cap : ℕ) × IsClustering h cap c) (k : ℕ) where
  good_at : (number : ℕ) (h : Hyper) (maps : List (List ℕ)) (i : ℕ) → AreContracted good number h k maps → i < length maps →
      good (number + i) (level h maps i)
      (map_of maps i)
  good_at number h [] i a low = absurd (omega arith)
  good_at number h (c ∷ maps) zero a low = let e : number ≡ number + zero = omega arith in subst (λ n. good n h c) e a.1
  good_at number h (c ∷ maps) (suc i) a low =
      let e : suc number + i ≡ number + suc i = omega arith in
      subst (λ n. good n (level (contract h c (cluster_count c)) maps i) (map_of maps i)) e (good_at (suc number) (contract h c (cluster_count c)) maps i
      a.3
      (omega arith))

  module _ (h : Hyper) (maps : List (List ℕ)) (sound : IsHypergraph h) (contracted : AreContracted good 0 h k maps) where
    pub good_level : (i : ℕ) → i < length maps → good i (level h maps i) (map_of maps i)
    good_level i low = let e : 0 + i ≡ i = omega arith in subst (λ n. good n (level h maps i) (map_of maps i)) e (good_at 0 h maps i contracted low)

    pub level_sound : (i : ℕ) → i ≤ length maps → IsHypergraph (level h maps i)
    level_sound zero low = sound
    level_sound (suc i) low =
        let here = level_sound i (omega arith) in
        let c = clustering i (level h maps i) (map_of maps i) here (good_level i (omega arith)) in
        subst IsHypergraph (sym (level_is_contraction h maps i (omega arith)))
        (hypergraph_kept (level h maps i) (map_of maps i) (cluster_count (map_of maps i)) (contractible c.0 (level h maps i) (map_of maps i) here c.1))

    pub level_clustering : (i : ℕ) → i < length maps → (cap : ℕ) × IsClustering (level h maps i) cap (map_of maps i)
    level_clustering i low = clustering i (level h maps i) (map_of maps i) (level_sound i (omega arith)) (good_level i low)

    pub level_contractible : (i : ℕ) → i < length maps → IsContractible (level h maps i) (map_of maps i) (cluster_count (map_of maps i))
    level_contractible i low = let c = level_clustering i low in contractible c.0 (level h maps i) (map_of maps i) (level_sound i (omega arith)) c.1

    pub level_fixed : IsFixedWithin h k → (i : ℕ) → i ≤ length maps → IsFixedWithin (level h maps i) k
    level_fixed fixed zero low = fixed
    level_fixed fixed (suc i) low =
        subst (λ (g : Hyper). IsFixedWithin g k) (sym (level_is_contraction h maps i (omega arith)))
        (fixes_within (level h maps i) (map_of maps i) (cluster_count (map_of maps i)) k (level_contractible i (omega arith))
        (level_fixed fixed i (omega arith)))

    -- a sound partition of a level is projected to a sound one, which costs as much
    pub level_projected : (l i : ℕ) → i < length maps → (q : List ℕ) → IsSound (level h maps (suc i)) k l q
        → IsSound (level h maps i) k l (after q (map_of maps i)) × (cost (level h maps i) (after q (map_of maps i)) ≡ cost (level h maps (suc i)) q)
    level_projected l i low q o = (
      record {
        partition = partition_projected (level h maps i) (map_of maps i) (cluster_count (map_of maps i)) k q at on.partition;
        obeys = fixes_projected (level h maps i) (map_of maps i) (cluster_count (map_of maps i)) q at (apart c.0 (level h maps i) (map_of maps i) c.1)
            on.obeys;
        fits = fitting_projected (level h maps i) (map_of maps i) (cluster_count (map_of maps i)) k l q at counted on.fits;
      },
      cost_kept (level h maps i) (map_of maps i) (cluster_count (map_of maps i)) q at ∙ ap (λ (g : Hyper). cost g q) (sym next),
    )
      where
        next : level h maps (suc i) ≡ contract (level h maps i) (map_of maps i) (cluster_count (map_of maps i))
        next = level_is_contraction h maps i low

        on : IsSound (contract (level h maps i) (map_of maps i) (cluster_count (map_of maps i))) k l q
        on = subst (λ (g : Hyper). IsSound g k l q) next o

        c : (cap : ℕ) × IsClustering (level h maps i) cap (map_of maps i)
        c = level_clustering i low

        at : IsContractible (level h maps i) (map_of maps i) (cluster_count (map_of maps i))
        at = level_contractible i low

        counted : length q ≡ cluster_count (map_of maps i)
        counted = on.partition.vertices ∙ vertices_of_contraction (level h maps i) (map_of maps i) (cluster_count (map_of maps i))

    -- what holds of the first partition holds of the file's
    module _ (refined : ℕ → Hyper → List ℕ → List LoggedRound → List ℕ → Type 0) (l : ℕ)
        (keeps : (number : ℕ) (g : Hyper) (p : List ℕ) (rounds : List LoggedRound) (q : List ℕ) → refined number g p rounds q → Leaves g k l p q)
      where
        pub descends : (i : ℕ) → i ≤ length maps → (p : List ℕ) (rounds : List LoggedRound) (q : List ℕ) → IsDescent refined h maps i p rounds q →
            IsSound (level h maps i) k l p
            → IsSound h k l q × (cost h q ≤ cost (level h maps i) p)
        unfolding Leaves
        descends zero low p rounds q d o = keeps 0 h p rounds q d o
        descends (suc i) low p rounds q d o =
            let here = keeps (suc i) (level h maps (suc i)) p d.0 d.2 d.4 o in
            let below = level_projected l i (omega arith) d.2 here.0 in
            let rest = descends i (omega arith) (after d.2 (map_of maps i)) d.1 q d.5 below.0 in
            let first = here.1 in
            let same = below.1 in
            let last = rest.1 in
            (rest.0, omega arith)

        -- rounds of one kind are rounds of another, where they are so on each level
        module _ (other : ℕ → Hyper → List ℕ → List LoggedRound → List ℕ → Type 0)
            (turned : (number : ℕ) (g : Hyper) (p : List ℕ) (rounds : List LoggedRound) (q : List ℕ) → refined number g p rounds q → IsSound g k l p →
            other number g p rounds q)
          where
            pub descends_by : (i : ℕ) → i ≤ length maps → (p : List ℕ) (rounds : List LoggedRound) (q : List ℕ) → IsDescent refined h maps i p rounds q →
                IsSound (level h maps i) k l p
                → IsDescent other h maps i p rounds q
            unfolding Leaves
            descends_by zero low p rounds q d o = turned 0 h p rounds q d o
            descends_by (suc i) low p rounds q d o =
                let here = keeps (suc i) (level h maps (suc i)) p d.0 d.2 d.4 o in
                let below = level_projected l i (omega arith) d.2 here.0 in (
                  d.0,
                  d.1,
                  d.2,
                  d.3,
                  turned (suc i) (level h maps (suc i)) p d.0 d.2 d.4 o,
                  descends_by i (omega arith) (after d.2 (map_of maps i)) d.1 q d.5
                      below.0,
                )

-- one clustering more on the coarsest level
pub contracted_more : (good : ℕ → Hyper → List ℕ → Type 0) (number k : ℕ) (h : Hyper) (maps : List (List ℕ)) (c : List ℕ) → AreContracted good number h k
    maps
    → IsLarge (coarsest h maps) k → good (number + length maps) (coarsest h maps) c → Shrinks (coarsest h maps) c → AreContracted good number h k
    (maps ++ c ∷ [])
contracted_more good number k h [] c a large is shrinks = let e : number + 0 ≡ number = omega arith in (large, subst (λ n. good n h c) e is, shrinks, tt)
contracted_more good number k h (d ∷ maps) c a large is shrinks =
    let e : number + suc (length maps) ≡ suc number + length maps = omega arith in (
      a.0,
      a.1,
      a.2,
      contracted_more good (suc number) k (contract h d (cluster_count d)) maps c a.3 large
          (subst (λ n. good n (coarsest (contract h d (cluster_count d)) maps) c) e is) shrinks,
    )

-- ---- the end of a trace

pub swept_settled : (h : Hyper) (k l : ℕ) (p : List ℕ) (rounds : List LoggedRound) (q : List ℕ) → IsSound h k l p → AreSweeps h k l p rounds q →
    IsSettledPartition h k l q
swept_settled h k l p rounds q o s = record {
  sound = record {
    partition = sweeps-partition h k l p rounds q o.partition s;
    obeys = sweeps-obeys h k l p rounds q o.obeys s;
    fits = sweeps-fits h k l p rounds q o.partition o.fits s;
  };
  settled = sweeps-settled h k l p rounds q s;
}

pub greedy_sound : (h : Hyper) (k l : ℕ) → IsPlaceableWithin h k l → IsSound h k l (greedy h k)
greedy_sound h k l ready = record {
  partition = greedy-partition h k ready.hypergraph ready.fixed ready.blocks;
  obeys = greedy-obeys h k ready.hypergraph ready.fixed ready.blocks;
  fits = greedy-fits h k l ready.hypergraph ready.fixed ready.blocks ready.placed;
}

-- the partition that is swept is sound, and no dearer than both that it is chosen of
module _ (h : Hyper) (k l : ℕ) (ready : IsPlaceableWithin h k l) (last : List ℕ) (o : IsSound h k l last) (swept : List ℕ) where
  pub chosen_sound : (c : Chosen) → IsChoice h k last c swept → IsSound h k l swept × (cost h swept ≤ cost h last) × (cost h swept ≤ cost h (greedy h k))
  chosen_sound Greedy choice =
      let same = choice.greedy_is_swept refl in
      let cheaper = choice.greedy_where_cheaper.0 refl in
      let cost_is = ap (cost h) same in
      (subst (IsSound h k l) (sym same) (greedy_sound h k l ready), omega arith, omega arith)
  chosen_sound Levels choice =
      let same = choice.last_is_swept refl in
      let cost_is = ap (cost h) same in
      (subst (IsSound h k l) (sym same) o, omega arith, above (cases_lt (cost h (greedy h k)) (cost h last)))
    where
      differ : Levels ≡ Greedy → ⊥
      differ x = cc

      above : (cost h (greedy h k) < cost h last) ⊎ (cost h last ≤ cost h (greedy h k)) → cost h swept ≤ cost h (greedy h k)
      above (inl less) = absurd (differ (choice.greedy_where_cheaper.1 less))
      above (inr low) = let cost_is = ap (cost h) (choice.last_is_swept refl) in omega arith
