-- The laws of levels, and of partitions carried up to them.
use Rattle.std.proofs.Common.{◌≡◌, ◌≢◌, ◌⊎◌, inl, inr, ℕ, zero, suc, ◌<◌, ◌≤◌, Bool, true, false, nat_eq, if◌then◌else◌, List}
use Rattle.std.proofs.Common.{[], ◌∷◌, length, get_or, Contains, refl, sym, ap, ◌∙◌, arith, ext_get_or}
use Rattle.std.proofs.lemmas.Bool.{cases_eq, eqb-true, eqb-false}
use Rattle.std.proofs.lemmas.List.{get_or_default}
use Rattle.std.proofs.lemmas.List.FromFn.{get_or-map-range_with_len, length-map-range_with_len}
use Rattle.hg_defs.specs.Hypergraph.{Hyper, vertex_count}
use Rattle.hg_defs.specs.Cost.{cost}
use Rattle.hg_defs.specs.Partition.{block_of, weight_in}
use Rattle.hg_defs.specs.Contraction.{contract, after}
use Rattle.hg_defs.specs.Clustering.{cluster_count}
use Rattle.hg_defs.specs.Levels.{level, map_of, cluster_block, lifted, lifted_to, projected_from}
use Rattle.hg_defs.specs.LevelLaws.{LevelsAreOneMore, LevelsAreListed, LevelIsContraction, LevelsStay, LevelIsAdded, LiftedIsProjected}
use Rattle.hg_defs.specs.LevelLaws.{OnlyLiftedIsProjected, LiftedFollows, ProjectionKeepsCost, LiftedIsProjectedBack}
use Rattle.hg_defs.proofs.ContractionLaws.{length-after, block_of-after, cost_kept}

pub levels_one_more : LevelsAreOneMore
levels_one_more h [] = refl
levels_one_more h (c ∷ maps) = ap suc (levels_one_more (contract h c (cluster_count c)) maps)

pub levels_listed : LevelsAreListed
levels_listed h g [] zero low = refl
levels_listed h g [] (suc i) low = absurd (omega arith)
levels_listed h g (c ∷ maps) zero low = refl
levels_listed h g (c ∷ maps) (suc i) low = levels_listed (contract h c (cluster_count c)) g maps i (omega arith)

pub level_is_contraction : LevelIsContraction
level_is_contraction h [] i low = absurd (omega arith)
level_is_contraction h (c ∷ maps) zero low = refl
level_is_contraction h (c ∷ maps) (suc i) low = level_is_contraction (contract h c (cluster_count c)) maps i (omega arith)

pub levels_stay : LevelsStay
levels_stay h maps c zero low = refl
levels_stay h [] c (suc i) low = absurd (omega arith)
levels_stay h (d ∷ maps) c (suc i) low = levels_stay (contract h d (cluster_count d)) maps c i (omega arith)

pub level_is_added : LevelIsAdded
level_is_added h [] c = refl
level_is_added h (d ∷ maps) c = level_is_added (contract h d (cluster_count d)) maps c

-- ---- lifted partitions

-- some vertex of a cluster has the block that is found
found_in : (p clusters : List ℕ) (i v : ℕ) → v < length p → v < length clusters → get_or clusters v 0 ≡ i
    → (u : ℕ) × (u < length p) × (u < length clusters) × (get_or clusters u 0 ≡ i) × (cluster_block p clusters i ≡ get_or p u 0)
found_in [] clusters i v l m e = absurd (omega arith)
found_in (b ∷ p) [] i v l m e = absurd (omega arith)
found_in (b ∷ p) (c ∷ clusters) i v l m e = by (nat_eq c i) refl (found_in p clusters i)
  where
    by : (t : Bool) → nat_eq c i ≡ t
        → ((w : ℕ) → w < length p → w < length clusters → get_or clusters w 0 ≡ i → (u : ℕ) × (u < length p) × (u < length clusters) ×
        (get_or clusters u 0 ≡ i) × (cluster_block p clusters i ≡ get_or p u 0))
        → (u : ℕ) × (u < suc (length p)) × (u < suc (length clusters)) × (get_or (c ∷ clusters) u 0 ≡ i) ×
        ((if nat_eq c i then b else cluster_block p clusters i) ≡ get_or (b ∷ p) u 0)
    by true f rest = (0, omega arith, omega arith, eqb-true c i f, ap (λ (t : Bool). if t then b else cluster_block p clusters i) f)
    by false f rest = later v l m e
      where
        later : (w : ℕ) → w < suc (length p) → w < suc (length clusters) → get_or (c ∷ clusters) w 0 ≡ i
            → (u : ℕ) × (u < suc (length p)) × (u < suc (length clusters)) × (get_or (c ∷ clusters) u 0 ≡ i) ×
            ((if nat_eq c i then b else cluster_block p clusters i) ≡ get_or (b ∷ p) u 0)
        later zero x y g = absurd (eqb-false c i f g)
        later (suc w) x y g =
            let r = rest w (omega arith) (omega arith) g in (
              suc r.0,
              (let s = r.1 in omega arith),
              (let s = r.2 in omega arith),
              r.3,
              ap (λ (t : Bool). if t then b else cluster_block p clusters i) f ∙
                  r.4,
            )

pub length-lifted : (p clusters : List ℕ) (count : ℕ) → length (lifted p clusters count) ≡ count
length-lifted p clusters count = length-map-range_with_len (cluster_block p clusters) 0 count

pub block_of-lifted : (p clusters : List ℕ) (count i : ℕ) → i < count → block_of (lifted p clusters count) i ≡ cluster_block p clusters i
block_of-lifted p clusters count i low = get_or-map-range_with_len (cluster_block p clusters) 0 count i i 0 low (omega arith)

pub lifted-projected : LiftedIsProjected
lifted-projected h clusters count p good long same =
    ext_get_or 0 (after (lifted p clusters count) clusters) p (length-after (lifted p clusters count) clusters ∙ good.full.vertices ∙ sym long)
    (λ v low. each v (let a = length-after (lifted p clusters count) clusters in let n = good.full.vertices in omega arith))
  where
    each : (v : ℕ) → v < length clusters → get_or (after (lifted p clusters count) clusters) v 0 ≡ get_or p v 0
    each v low =
        block_of-after (lifted p clusters count) clusters v low
        ∙ block_of-lifted p clusters count (get_or clusters v 0) (good.full.below v 0 low)
        ∙ by (found_in p clusters (get_or clusters v 0) v (let n = good.full.vertices in omega arith) low refl)
      where
        by : (u : ℕ) × (u < length p) × (u < length clusters) × (get_or clusters u 0 ≡ get_or clusters v 0) ×
            (cluster_block p clusters (get_or clusters v 0) ≡
            get_or p u 0)
            → cluster_block p clusters (get_or clusters v 0) ≡ get_or p v 0
        by x = x.4 ∙ one (cases_eq x.0 v)
          where
            one : (x.0 ≡ v) ⊎ (x.0 ≢ v) → get_or p x.0 0 ≡ get_or p v 0
            one (inl e) = ap (λ w. get_or p w 0) e
            one (inr d) = same x.0 v (record {
              first = (let a = x.1 in omega arith);
              second = (let n = good.full.vertices in omega arith);
              different = d;
              cluster = x.3;
            })

pub only_lifted : OnlyLiftedIsProjected
only_lifted h clusters count p q good long e =
    ext_get_or 0 q (lifted p clusters count) (long ∙ sym (length-lifted p clusters count))
    (λ i low. by i (let n = long in omega arith) (good.full.used i (let n = long in omega arith)))
  where
    same_length : length clusters ≡ length p
    same_length = sym (length-after q clusters) ∙ ap length e

    by : (i : ℕ) → i < count → Contains clusters i → get_or q i 0 ≡ get_or (lifted p clusters count) i 0
    by i low c = found (found_in p clusters i c.0 (let a = c.1 in let n = same_length in omega arith) c.1 at)
      where
        at : get_or clusters c.0 0 ≡ i
        at = here c.0 c.1 c.2
          where
            here : (k : ℕ) → k < length clusters → get_or clusters k i ≡ i → get_or clusters k 0 ≡ i
            here k l f = get_or_default clusters k 0 i l ∙ f

        found : (u : ℕ) × (u < length p) × (u < length clusters) × (get_or clusters u 0 ≡ i) × (cluster_block p clusters i ≡ get_or p u 0) →
            get_or q i 0 ≡ get_or (lifted p clusters count) i 0
        found x =
            ap (λ j. get_or q j 0) (sym x.3)
            ∙ sym (block_of-after q clusters x.0 x.2)
            ∙ ap (λ r. get_or r x.0 0) e
            ∙ sym x.4
            ∙ sym (block_of-lifted p clusters count i low)

pub lifted_follows : LiftedFollows
lifted_follows p [] i low = absurd (omega arith)
lifted_follows p (c ∷ maps) zero low = refl
lifted_follows p (c ∷ maps) (suc i) low = lifted_follows (lifted p c (cluster_count c)) maps i (omega arith)

-- ---- through several levels

-- as many vertices as clusters
pub vertices_of_contraction : (h : Hyper) (clusters : List ℕ) (count : ℕ) → vertex_count (contract h clusters count) ≡ count
vertices_of_contraction h clusters count = length-map-range_with_len (weight_in h.weights clusters) 0 count

pub length-lifted_to : (h : Hyper) (maps : List (List ℕ)) (i : ℕ) (p : List ℕ) → i ≤ length maps → length p ≡ vertex_count h → length (lifted_to p maps i) ≡
    vertex_count (level h maps i)
length-lifted_to h maps zero p low long = long
length-lifted_to h [] (suc i) p low long = absurd (omega arith)
length-lifted_to h (c ∷ maps) (suc i) p low long =
    length-lifted_to (contract h c (cluster_count c)) maps i (lifted p c (cluster_count c)) (omega arith)
    (length-lifted p c (cluster_count c) ∙ sym (vertices_of_contraction h c (cluster_count c)))

pub projection_keeps_cost : ProjectionKeepsCost
projection_keeps_cost h maps zero p low good = refl
projection_keeps_cost h maps (suc i) p low good =
    projection_keeps_cost h maps i (after p (map_of maps i)) (omega arith) (λ j l. good j (omega arith))
    ∙ cost_kept (level h maps i) (map_of maps i) (cluster_count (map_of maps i)) p (good i (omega arith))
    ∙ ap (λ (g : Hyper). cost g p) (sym (level_is_contraction h maps i low))

pub lifted_projected_back : LiftedIsProjectedBack
lifted_projected_back h maps zero p low long good within = refl
lifted_projected_back h maps (suc i) p low long good within =
    ap (λ q. projected_from q maps i)
    (ap (λ q. after q (map_of maps i)) (lifted_follows p maps i low)
    ∙ lifted-projected (level h maps i) (map_of maps i) (cluster_count (map_of maps i)) (lifted_to p maps i) (good i (omega arith))
    (length-lifted_to h maps i p (omega arith) long) (within i (omega arith)))
    ∙ lifted_projected_back h maps i p (omega arith) long (λ j l. good j (omega arith)) (λ j l. within j (omega arith))
