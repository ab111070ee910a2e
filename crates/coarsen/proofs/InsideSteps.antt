-- Laws of levels inside the blocks of a partition.
use Rattle.std.proofs.Common.{◌≡◌, ◌≢◌, ◌⊎◌, inl, inr, ⊎_elim, ℕ, zero, suc, ◌+◌, ◌-◌, ◌*◌, ◌<◌, ◌≤◌, Bool, true, false, if◌then◌else◌}
use Rattle.std.proofs.Common.{nat_eq, List, [], ◌∷◌, ◌++◌, length, map, drop, get_or, set, replicate, slice_index, slice_set, All, refl, sym}
use Rattle.std.proofs.Common.{ap, ap₂, ◌∙◌, subst, arith, length-set, get_or-set_same, get_or-set_other}
use Rattle.std.specs.List.{range_with_len}
use Rattle.std.proofs.lemmas.Bool.{cases_lt, cases_eq, eq-eqb, ne_eqb}
use Rattle.std.proofs.lemmas.List.{length-replicate, get_or-replicate, drop_more, drop_all, length_push, get_or_push}
use Rattle.std.proofs.lemmas.List.FromFn.{fill_by_all}
use Rattle.hg_defs.specs.Hypergraph.{Hyper, vertex_count, total_weight, IsHypergraph}
use Rattle.hg_defs.specs.Partition.{IsPartition, block_of}
use Rattle.hg_defs.specs.Contraction.{contract, after}
use Rattle.hg_defs.specs.Clustering.{cluster_count, cluster_cap, IsClustering, IsInside, Shrinks}
use Rattle.hg_defs.specs.Pairing.{split_by}
use Rattle.hg_defs.specs.Levels.{coarsest, map_of, cluster_block, lifted, lifted_to}
use Rattle.hg_defs.proofs.ContractionLaws.{partition_lifted}
use Rattle.hg_defs.proofs.LevelLaws.{level_is_added, length-lifted, lifted-projected, lifted_follows}
use Rattle.round_log.specs.Trace.{AreContracted, IsLarge}
use Rattle.round_log.specs.Cycles.{IsInsideAt}
use Rattle.round_log.proofs.DescentLaws.{contracted_more}
use Rattle.contract_nets.proofs.VertexLaws.{map-range-set}

-- ---- the blocks of clusters

pub blocks_none : (p cs : List ℕ) (v n : ℕ) → length p ≤ v → replicate n 0 ≡ map (cluster_block (drop v p) (drop v cs)) (range_with_len 0 n)
blocks_none p cs v n h =
    fill_by_all (cluster_block (drop v p) (drop v cs)) (replicate n 0) n 0 (length-replicate n 0)
    (λ k l. get_or-replicate n k 0 0 l ∙ sym (ap (λ ps. cluster_block ps (drop v cs) k) (drop_all v p h)))

block_more : (p cs : List ℕ) (v i : ℕ) → v < length p → v < length cs
    → cluster_block (drop v p) (drop v cs) i ≡ (if nat_eq (slice_index cs v) i then slice_index p v else cluster_block (drop (v + 1) p) (drop (v + 1) cs) i)
block_more p cs v i h k =
    ap (λ ps. cluster_block ps (drop v cs) i) (drop_more p v 0 h) ∙ ap (λ ds. cluster_block (slice_index p v ∷ drop (v + 1) p) ds i) (drop_more cs v 0 k)

pub blocks_more : (p cs xs : List ℕ) (v n : ℕ) → xs ≡ map (cluster_block (drop (v + 1) p) (drop (v + 1) cs)) (range_with_len 0 n) → v < length p →
    v < length cs → slice_index cs v < n
    → slice_set xs (slice_index cs v) (slice_index p v) ≡ map (cluster_block (drop v p) (drop v cs)) (range_with_len 0 n)
blocks_more p cs xs v n same h k below =
    let i = slice_index cs v in
    let b = slice_index p v in
    map-range-set (cluster_block (drop (v + 1) p) (drop (v + 1) cs)) (cluster_block (drop v p) (drop v cs)) n xs same i b below
    (sym (block_more p cs v i h k ∙ ap (λ (t : Bool). if t then b else cluster_block (drop (v + 1) p) (drop (v + 1) cs) i) (eq-eqb i i refl)))
    (λ j l o. sym (block_more p cs v j h k ∙ ap (λ (t : Bool). if t then b else cluster_block (drop (v + 1) p) (drop (v + 1) cs) j)
    (ne_eqb i j (λ e. o (sym e)))))

-- ---- roots in other blocks given up

abbrev pub split_at : List ℕ → List ℕ → ℕ → ℕ
split_at p roots v = if nat_eq (block_of p (slice_index roots v)) (block_of p v) then slice_index roots v else v

pub record IsSplitting (p start : List ℕ) (v : ℕ) (roots : List ℕ) : Type 0 where
  pub long : length roots ≡ length start
  pub done : (u : ℕ) → u < v → slice_index roots u ≡ split_at p start u
  pub rest : (u : ℕ) → v ≤ u → slice_index roots u ≡ slice_index start u

pub splitting_none : (p start : List ℕ) → IsSplitting p start 0 start
splitting_none p start = record { long = refl; done = λ u l. absurd (omega arith); rest = λ u l. refl }

module _ (p start roots : List ℕ) (v : ℕ) (s : IsSplitting p start v roots) where
  pub splitting_same : block_of p (slice_index roots v) ≡ block_of p v → IsSplitting p start (v + 1) roots
  splitting_same same = record {
    long = s.long;
    done = λ u l. ⊎_elim (λ (k : u < v). s.done u k) (λ (k : v ≤ u). at u (omega arith)) (cases_lt u v);
    rest = λ u l. s.rest u (omega arith);
  }
    where
      here : slice_index roots v ≡ split_at p start v
      here =
          s.rest v (omega arith)
          ∙ ap (λ (t : Bool). if t then slice_index start v else v)
          (sym (eq-eqb (block_of p (slice_index start v)) (block_of p v) (ap (block_of p) (sym (s.rest v (omega arith))) ∙ same)))

      at : (u : ℕ) → u ≡ v → slice_index roots u ≡ split_at p start u
      at u e = subst (λ (x : ℕ). slice_index roots x ≡ split_at p start x) (sym e) here

  pub splitting_other : block_of p (slice_index roots v) ≢ block_of p v → v < length start → IsSplitting p start (v + 1) (set roots v v)
  splitting_other other low = record {
    long = length-set roots v v ∙ s.long;
    done = λ u l. ⊎_elim (λ (k : u < v). get_or-set_other roots v u v 0 (λ e. absurd (omega arith)) ∙ s.done u k) (λ (k : v ≤ u). at u (omega arith))
        (cases_lt u v);
    rest = λ u l. get_or-set_other roots v u v 0 (λ e. absurd (omega arith)) ∙ s.rest u (omega arith);
  }
    where
      here : slice_index (set roots v v) v ≡ split_at p start v
      here =
          get_or-set_same roots v v 0 (let n = s.long in omega arith)
          ∙ ap (λ (t : Bool). if t then slice_index start v else v)
          (sym (ne_eqb (block_of p (slice_index start v)) (block_of p v) (λ e. other (ap (block_of p) (s.rest v (omega arith)) ∙ e))))

      at : (u : ℕ) → u ≡ v → slice_index (set roots v v) u ≡ split_at p start u
      at u e = subst (λ (x : ℕ). slice_index (set roots v v) x ≡ split_at p start x) (sym e) here

pub splitting_end : (p start roots : List ℕ) (v : ℕ) → IsSplitting p start v roots → length start ≤ v → roots ≡ split_by p start
splitting_end p start roots v s l = fill_by_all (split_at p start) roots (length start) 0 s.long (λ k m. s.done k (omega arith))

-- ---- one level more

lifted_stays : (p : List ℕ) (maps : List (List ℕ)) (c : List ℕ) (i : ℕ) → i ≤ length maps → lifted_to p (maps ++ c ∷ []) i ≡ lifted_to p maps i
lifted_stays p maps c zero l = refl
lifted_stays p [] c (suc i) l = absurd (omega arith)
lifted_stays p (d ∷ maps) c (suc i) l = lifted_stays (lifted p d (cluster_count d)) maps c i (omega arith)

contracted_weaker : (good also : ℕ → Hyper → List ℕ → Type 0) (number k : ℕ) (h : Hyper) (maps : List (List ℕ)) →
    ((n : ℕ) (f : Hyper) (c : List ℕ) → n < number + length maps → good n f c → also n f c)
    → AreContracted good number h k maps → AreContracted also number h k maps
contracted_weaker good also number k h [] f a = tt
contracted_weaker good also number k h (d ∷ maps) f a = (
  a.0,
  f number h d (omega arith) a.1,
  a.2,
  contracted_weaker good also (suc number) k (contract h d (cluster_count d)) maps
      (λ n g c l. f n g c (omega arith)) a.3,
)

module _ (k : ℕ) (h : Hyper) (p : List ℕ) (maps : List (List ℕ)) (c : List ℕ) where
  -- the levels with one clustering more
  pub inside_more : AreContracted (IsInsideAt k maps p) 0 h k maps → IsLarge (coarsest h maps) k
      → IsInside (coarsest h maps) (cluster_cap (total_weight (coarsest h maps)) k) (lifted_to p maps (length maps)) c → Shrinks (coarsest h maps) c
      → AreContracted (IsInsideAt k (maps ++ c ∷ []) p) 0 h k (maps ++ c ∷ [])
  inside_more a large good shrinks =
      contracted_more (IsInsideAt k (maps ++ c ∷ []) p) 0 k h maps c
      (contracted_weaker (IsInsideAt k maps p) (IsInsideAt k (maps ++ c ∷ []) p) 0 k h maps
      (λ n f d l is. subst (λ (q : List ℕ). IsInside f (cluster_cap (total_weight f) k) q d) (sym (lifted_stays p maps c n (omega arith))) is) a)
      large
      (subst (λ (q : List ℕ). IsInside (coarsest h maps) (cluster_cap (total_weight (coarsest h maps)) k) q c) (sym same) good)
      shrinks
    where
      same : lifted_to p (maps ++ c ∷ []) (0 + length maps) ≡ lifted_to p maps (length maps)
      same = ap (lifted_to p (maps ++ c ∷ [])) (let n = length maps in let z : 0 + n ≡ n = omega arith in z) ∙ lifted_stays p maps c (length maps)
          (omega arith)

  -- the partition of the next level
  pub lifted_more : lifted (lifted_to p maps (length maps)) c (cluster_count c) ≡ lifted_to p (maps ++ c ∷ []) (length (maps ++ c ∷ []))
  lifted_more =
      let e : length (maps ++ c ∷ []) ≡ suc (length maps) = (let n = length_push maps c in omega arith) in
      let here : map_of (maps ++ c ∷ []) (length maps) ≡ c = get_or_push maps c [] (length maps) refl in
      sym
      (ap (lifted_to p (maps ++ c ∷ [])) e
      ∙ lifted_follows p (maps ++ c ∷ []) (length maps) (omega arith)
      ∙ ap₂ (λ (q d : List ℕ). lifted q d (cluster_count d)) (lifted_stays p maps c (length maps) (omega arith)) here)

-- it is a partition
pub lifted_partition : (h : Hyper) (cap k : ℕ) (p c : List ℕ) → IsHypergraph h → IsPartition h k p → IsInside h cap p c →
    IsPartition (contract h c (cluster_count c)) k (lifted p c (cluster_count c))
lifted_partition h cap k p c sound whole inside =
    partition_lifted h c (cluster_count c) k (lifted p c (cluster_count c)) (record { hypergraph = sound; full = inside.clustering.full })
    (length-lifted p c (cluster_count c))
    (subst (IsPartition h k) (sym (lifted-projected h c (cluster_count c) p (record { hypergraph = sound; full = inside.clustering.full }) whole.vertices
    inside.blocks)) whole)
