-- Laws of the descent from level to level.
use Rattle.std.proofs.Common.{◌≡◌, ℕ, zero, suc, ◌+◌, ◌-◌, ◌<◌, ◌≤◌, ◌⊎◌, inl, inr, List, [], ◌++◌}
use Rattle.std.proofs.Common.{length, All, Some, None, refl, sym, ap, subst, ◌∙◌, arith}
use Rattle.std.proofs.lemmas.Bool.{cases_lt}
use Rattle.std.proofs.lemmas.List.{append_assoc, append-nil}
use Rattle.hg_defs.specs.Hypergraph.{Hyper, vertex_count, total_weight, IsHypergraph, IsFixedWithin}
use Rattle.hg_defs.specs.Partition.{IsPartition, Fits, Obeys, load}
use Rattle.hg_defs.specs.Cost.{cost}
use Rattle.hg_defs.specs.Contraction.{IsFull, contract, after}
use Rattle.hg_defs.specs.Clustering.{cluster_count, cluster_cap, IsClustering}
use Rattle.hg_defs.specs.Levels.{level, coarsest, map_of}
use Rattle.hg_defs.specs.Placement.{named, named_best}
use Rattle.hg_defs.specs.NamedLaws.{IsCheapestAt, partition_at}
use Rattle.hg_defs.proofs.NamedLaws.{cheapest_is_first}
use Rattle.hg_defs.proofs.PairingLaws.{paired-clustering}
use Rattle.hg_defs.proofs.LevelLaws.{level_is_contraction, vertices_of_contraction}
use Rattle.pin_plain.specs.Parted.{Parted, KeepsCost}
use Rattle.round_log.specs.declared.record.LoggedRound.{LoggedRound}
use Rattle.round_log.specs.declared.record.Stop.{Stop}
use Rattle.round_log.specs.declared.record.Trace.{Trace}
use Rattle.round_log.specs.Trace.{AreContracted, IsStop, IsDescent}
use Rattle.round_log.specs.TraceLaws.{IsSound}
use Rattle.round_log.specs.Deterministic.{IsPairing, IsSynced, det_last}
use Rattle.round_log.proofs.DescentLaws.{level_fixed, descends}
use Rattle.round_log.proofs.SyncLaws.{synced_keeps}
use Rattle.round_log.proofs.DetLaws.{descent_at_function}
use Rattle.det_sync.specs.Rounds.{LogsSynced}
use Rattle.det_sync.specs.Descent.{AreDetLevels, IsDetDescent, IsFirstPlaced, LogsDescent}

-- ---- what levels keep

pairing_clustering : (k number : ℕ) (h : Hyper) (c : List ℕ) → IsHypergraph h → IsPairing k number h c → (cap : ℕ) × IsClustering h cap c
pairing_clustering k number h c sound e = (
  cluster_cap (total_weight h) k,
  subst (IsClustering h (cluster_cap (total_weight h) k)) (sym e) (paired-clustering h (cluster_cap (total_weight h) k) sound),
)

pub all_fixed : (h : Hyper) (k : ℕ) (maps : List (List ℕ)) → IsHypergraph h → AreContracted (IsPairing k) 0 h k maps → IsFixedWithin h k → (i : ℕ) →
    i ≤ length maps → IsFixedWithin (level h maps i) k
all_fixed h k maps sound a fixed = level_fixed (IsPairing k) (pairing_clustering k) k h maps sound a fixed

pub last_sound : (h : Hyper) (k l workers start : ℕ) (maps : List (List ℕ)) (first last : List ℕ) (rounds : List LoggedRound) → 0 < workers →
    IsHypergraph h → AreContracted (IsPairing k) 0 h k maps → start ≤ length maps → IsDescent (IsSynced k l workers) h maps start first rounds last →
    IsSound (level h maps start) k l first → IsSound h k l last
last_sound h k l workers start maps first last rounds some sound a low d s =
    (descends (IsPairing k) (pairing_clustering k) k h maps sound a (IsSynced k l workers) l
    (λ number g p rs q x. synced_keeps k l workers number g p rs q some x) start low first rounds last d s).0

-- the clusters of a level are the vertices of the next one
pub places_above : (h coarse : Hyper) (maps : List (List ℕ)) (i n : ℕ) (clusters : List ℕ) → i < length maps → n ≡ suc i → coarse ≡ level h maps n →
    clusters ≡ map_of maps i
    → All (λ c. c < cluster_count clusters) clusters → All (λ v. v < vertex_count coarse) clusters
places_above h coarse maps i n clusters low one is same below =
    let number : vertex_count coarse ≡ cluster_count (map_of maps i) =
    ap vertex_count (is ∙ ap (level h maps) one ∙ level_is_contraction h maps i low) ∙ vertices_of_contraction (level h maps i) (map_of maps i)
    (cluster_count (map_of maps i)) in
    subst (λ m. All (λ v. v < m) clusters) (ap cluster_count same ∙ sym number) below

module _ (h coarse fine : Hyper) (maps : List (List ℕ)) (i n : ℕ) (clusters p q : List ℕ) (low : i < length maps) (one : n ≡ suc i)
    (is : coarse ≡ level h maps n) (on : fine ≡ level h maps i) (same : clusters ≡ map_of maps i) (sound : IsHypergraph fine)
    (full : IsFull fine clusters (cluster_count clusters)) (keeps : KeepsCost coarse p fine clusters q) where
  kept : (cost fine q ≡ cost coarse p) × ((b : ℕ) → load fine q b ≡ load coarse p b)
  kept =
      keeps (cluster_count clusters) (record { hypergraph = sound; full = full })
      (is ∙ ap (level h maps) one ∙ level_is_contraction h maps i low
      ∙ ap (λ (g : Hyper). contract g (map_of maps i) (cluster_count (map_of maps i))) (sym on)
      ∙ ap (λ c. contract fine c (cluster_count c)) (sym same))

  -- a projection costs as much as the partition that it is made of
  pub cost_below : cost fine q ≡ cost coarse p
  cost_below = kept.0

  -- and fits as that one does
  pub fits_below : (k l : ℕ) → Fits coarse k l p → Fits fine k l q
  fits_below k l fits b few =
      let equal = kept.1 b in
      let below = fits b few in
      omega arith

-- ---- the start

-- a best named placement fits
pub best_sound : (h : Hyper) (k l seed : ℕ) (first : List ℕ) → named_best h k l seed ≡ Some first → IsPartition h k first → Obeys h first →
    IsSound h k l first
best_sound h k l seed first best partition obeys = by (cheapest_is_first h k l (named h k seed) first best)
  where
    by : (i : ℕ) × IsCheapestAt h k l (named h k seed) i × (first ≡ partition_at (named h k seed) i) → IsSound h k l first
    by x = record { partition = partition; obeys = obeys; fits = subst (Fits h k l) (sym x.2) x.1.fits }

-- ---- down the levels

module _ (h : Hyper) (maps : List (List ℕ)) (k l workers : ℕ) where
  -- what is left to do from the partition p, which the level of a number ends with
  abbrev IsLeft : ℕ → List ℕ → List LoggedRound → List ℕ → Type 0
  IsLeft zero p rounds q = (rounds ≡ []) × (q ≡ p)
  IsLeft (suc i) p rounds q = IsDescent (IsSynced k l workers) h maps i (after p (map_of maps i)) rounds q

  joined : (i : ℕ) (p : List ℕ) (here : List LoggedRound) (q : List ℕ) (below : List LoggedRound) (r : List ℕ)
      → IsSynced k l workers i (level h maps i) p here q → IsLeft i q below r → IsDescent (IsSynced k l workers) h maps i p (here ++ below) r
  joined zero p here q below r s left =
      subst (λ (rs : List LoggedRound). IsSynced k l workers zero h p rs r) (sym (append-nil here) ∙ ap (λ (rs : List LoggedRound). here ++ rs) (sym left.0))
      (subst (λ x. IsSynced k l workers zero h p here x) (sym left.1) s)
  joined (suc i) p here q below r s left = (here, below, q, refl, s, left)

  -- the levels from the first one down to that of a number have their rounds, which stand in the log and lead to q
  pub record IsComingDown (start : ℕ) (first : List ℕ) (old : List LoggedRound) (i : ℕ) (q : List ℕ) (new : List LoggedRound) : Type 0 where
    pub rounds : List LoggedRound
    pub log : new ≡ old ++ rounds
    pub goes_on : (below : List LoggedRound) (r : List ℕ) → IsLeft i q below r → IsDescent (IsSynced k l workers) h maps start first (rounds ++ below) r

  pub comes_first : (start : ℕ) (first q : List ℕ) (old new : List LoggedRound) → LogsSynced (level h maps start) k l workers start first q old new →
      IsComingDown start first old start q new
  comes_first start first q old new s = record {
    rounds = s.rounds;
    log = s.log;
    goes_on = λ below r left. joined start first s.rounds q below r s.synced left;
  }

  pub comes_next : (start : ℕ) (first : List ℕ) (old : List LoggedRound) (i : ℕ) (q r : List ℕ) (now new : List LoggedRound) →
      IsComingDown start first old (suc i) q now → LogsSynced (level h maps i) k l workers i (after q (map_of maps i)) r now new →
      IsComingDown start first old i r new
  comes_next start first old i q r now new c s = record {
    rounds = c.rounds ++ s.rounds;
    log = s.log ∙ ap (λ (rs : List LoggedRound). rs ++ s.rounds) c.log ∙ append_assoc old c.rounds s.rounds;
    goes_on = λ below last left.
        subst (λ (rs : List LoggedRound). IsDescent (IsSynced k l workers) h maps start first rs last) (sym (append_assoc c.rounds s.rounds below))
        (c.goes_on (s.rounds ++ below) last (joined i (after q (map_of maps i)) s.rounds r below last s.synced left));
  }

  pub comes_down : (start : ℕ) (first : List ℕ) (old : List LoggedRound) (q : List ℕ) (new : List LoggedRound) → IsComingDown start first old 0 q new →
      LogsDescent h maps k l workers start first q old new
  comes_down start first old q new c = record {
    rounds = c.rounds;
    log = c.log;
    descent = subst (λ (rs : List LoggedRound). IsDescent (IsSynced k l workers) h maps start first rs q) (append-nil c.rounds) (c.goes_on [] q (refl, refl));
  }

-- ---- the partition on its way down

-- the partition now is one of the level of a number, to which the rounds so far lead from the first one
pub record IsDown (h : Hyper) (maps : List (List ℕ)) (workers start : ℕ) (first : Parted) (old : List LoggedRound) (i : ℕ) (now : Parted)
    (new : List LoggedRound) : Type 0 where
  pub shape : now ≡ record first { hyper = level h maps i; blocks = now.blocks }
  pub fits : Fits (level h maps i) first.k first.limit now.blocks
  pub coming : IsComingDown h maps first.k first.limit workers start first.blocks old i now.blocks new

module _ (h : Hyper) (maps : List (List ℕ)) (workers start : ℕ) (first : Parted) (old : List LoggedRound) where
  pub down_first : (g : Hyper) (next : Parted) (new : List LoggedRound) (i : ℕ) → i ≡ start → first.hyper ≡ level h maps start → g ≡ level h maps start →
      next ≡ record first { blocks = next.blocks } → Fits g first.k first.limit next.blocks →
      LogsSynced g first.k first.limit workers start first.blocks next.blocks old new → IsDown h maps workers start first old i next new
  down_first g next new i same on lent shape fits logs =
      subst (λ n. IsDown h maps workers start first old n next new) (sym same) (record {
        shape = shape ∙ ap (λ (x : Hyper). record first { hyper = x; blocks = next.blocks }) on;
        fits = subst (λ (x : Hyper). Fits x first.k first.limit next.blocks) lent fits;
        coming = comes_first h maps first.k first.limit workers start first.blocks next.blocks old new
            (subst (λ (x : Hyper). LogsSynced x first.k first.limit workers start first.blocks next.blocks old new) lent logs);
      })

  module _ (n i : ℕ) (now : Parted) (between : List LoggedRound) (is : IsDown h maps workers start first old n now between) (one : n ≡ suc i)
      (fine : Hyper) (on : fine ≡ level h maps i) (clusters : List ℕ) (same : clusters ≡ map_of maps i) where
    pub places_down : i < length maps → All (λ c. c < cluster_count clusters) clusters → All (λ v. v < vertex_count now.hyper) clusters
    places_down low below = places_above h now.hyper maps i n clusters low one (ap (λ (x : Parted). x.hyper) is.shape) same below

    pub fits_down : (q : List ℕ) → i < length maps → IsHypergraph fine → IsFull fine clusters (cluster_count clusters) →
        KeepsCost now.hyper now.blocks fine clusters q → Fits fine now.k now.limit q
    fits_down q low sound full keeps =
        subst (λ m. Fits fine m now.limit q) (sym (ap (λ (x : Parted). x.k) is.shape))
        (subst (λ m. Fits fine first.k m q) (sym (ap (λ (x : Parted). x.limit) is.shape))
        (fits_below h now.hyper fine maps i n clusters now.blocks q low one (ap (λ (x : Parted). x.hyper) is.shape) on same sound full keeps
        first.k first.limit
        (subst (λ (x : Hyper). Fits x first.k first.limit now.blocks) (sym (ap (λ (x : Parted). x.hyper) is.shape)) is.fits)))

    pub cost_down : (q : List ℕ) → i < length maps → IsHypergraph fine → IsFull fine clusters (cluster_count clusters) →
        KeepsCost now.hyper now.blocks fine clusters q → cost fine q ≡ cost now.hyper now.blocks
    cost_down q low sound full keeps =
        cost_below h now.hyper fine maps i n clusters now.blocks q low one (ap (λ (x : Parted). x.hyper) is.shape) on same sound full keeps

    pub down_next : (made next : Parted) (new : List LoggedRound) (m : ℕ) → m ≡ i
        → made ≡ record { hyper = fine; k = now.k; limit = now.limit; blocks = after now.blocks clusters }
        → next ≡ record made { blocks = next.blocks } → Fits fine made.k made.limit next.blocks
        → LogsSynced fine made.k made.limit workers i made.blocks next.blocks between new → IsDown h maps workers start first old m next new
    down_next made next new m end projected shape fits logs =
        subst (λ x. IsDown h maps workers start first old x next new) (sym end) (record {
          shape =
              shape
              ∙ ap (λ (x : Parted). record x { blocks = next.blocks }) projected
              ∙ ap (λ (x : ℕ). record { hyper = fine; k = x; limit = now.limit; blocks = next.blocks }) k_is
              ∙ ap (λ (x : ℕ). record { hyper = fine; k = first.k; limit = x; blocks = next.blocks }) limit_is
              ∙ ap (λ (x : Hyper). record { hyper = x; k = first.k; limit = first.limit; blocks = next.blocks }) on;
          fits =
              subst (λ (x : Hyper). Fits x first.k first.limit next.blocks) on
              (subst (λ x. Fits fine first.k x next.blocks) (ap (λ (x : Parted). x.limit) projected ∙ limit_is)
              (subst (λ x. Fits fine x made.limit next.blocks) (ap (λ (x : Parted). x.k) projected ∙ k_is) fits));
          coming = comes_next h maps first.k first.limit workers start first.blocks old i now.blocks next.blocks between new
              (subst (λ x. IsComingDown h maps first.k first.limit workers start first.blocks old x now.blocks between) one is.coming)
              (subst (λ (x : Hyper). LogsSynced x first.k first.limit workers i (after now.blocks (map_of maps i)) next.blocks between new) on
              (subst (λ (x : List ℕ). LogsSynced fine first.k first.limit workers i x next.blocks between new)
              (ap (λ (x : Parted). x.blocks) projected ∙ ap (after now.blocks) same)
              (subst (λ x. LogsSynced fine first.k x workers i made.blocks next.blocks between new) (ap (λ (x : Parted). x.limit) projected ∙ limit_is)
              (subst (λ x. LogsSynced fine x made.limit workers i made.blocks next.blocks between new) (ap (λ (x : Parted). x.k) projected ∙ k_is) logs))));
        })
      where
        k_is : now.k ≡ first.k
        k_is = ap (λ (x : Parted). x.k) is.shape

        limit_is : now.limit ≡ first.limit
        limit_is = ap (λ (x : Parted). x.limit) is.shape

-- one more level where none of the named placements fits
pub one_more : (P : ℕ → Type 0) (depth above last : ℕ) → ((i : ℕ) → depth ≤ i + above → i ≤ last → P i) → P (depth - 1 - above) → (i : ℕ) →
    depth ≤ i + (above + 1) → i ≤ last → P i
one_more P depth above last kept here i far within = by (cases_lt (i + above) depth)
  where
    by : (i + above < depth) ⊎ (depth ≤ i + above) → P i
    by (inl less) = let same : depth - 1 - above ≡ i = omega arith in subst P same here
    by (inr more) = kept i more within

-- ---- the trace so far

module _ (h : Hyper) (k l seed workers : ℕ) (maps : List (List ℕ)) (stop : Stop) (trace : Trace) where
  pub descent_is : trace.maps ≡ maps → trace.stop ≡ stop → IsFirstPlaced h maps k l seed trace.start trace.first
      → LogsDescent h maps k l workers trace.start trace.first trace.last [] trace.rounds → IsDetDescent h k l seed workers maps stop trace
  descent_is e f placed logs = record {
    same_maps = e;
    same_stop = f;
    start = record {
      on_level = subst (λ (ms : List (List ℕ)). trace.start ≤ length ms) (sym e) placed.on_level;
      none_above = subst (λ (ms : List (List ℕ)). (i : ℕ) → trace.start < i → i ≤ length ms → named_best (level h ms i) k l seed ≡ None) (sym e)
          placed.none_above;
      best = subst (λ (ms : List (List ℕ)). named_best (level h ms trace.start) k l seed ≡ Some trace.first) (sym e) placed.best;
    };
    descent =
        subst (λ (rs : List LoggedRound). IsDescent (IsSynced k l workers) h trace.maps trace.start trace.first rs trace.last) (sym logs.log)
        (subst (λ (ms : List (List ℕ)). IsDescent (IsSynced k l workers) h ms trace.start trace.first logs.rounds trace.last) (sym e) logs.descent);
  }

  pub function_is : AreDetLevels h k maps stop → IsDetDescent h k l seed workers maps stop trace → det_last h k l seed ≡ Some trace.last
  function_is levels d =
      descent_at_function h k l seed workers trace trace.rounds
      (subst (AreContracted (IsPairing k) 0 h k) (sym d.same_maps) levels.contracted)
      (subst (λ (ms : List (List ℕ)). IsStop (IsPairing k) (length ms) (coarsest h ms) k trace.stop) (sym d.same_maps)
      (subst (IsStop (IsPairing k) (length maps) (coarsest h maps) k) (sym d.same_stop) levels.stopped)) d.start d.descent

  pub sound_is : 0 < workers → IsHypergraph h → AreDetLevels h k maps stop → IsFirstPlaced h maps k l seed trace.start trace.first
      → IsDetDescent h k l seed workers maps stop trace → IsSound h k l trace.last
  sound_is some sound levels placed d =
      last_sound h k l workers trace.start maps trace.first trace.last trace.rounds some sound levels.contracted placed.on_level
      (subst (λ (ms : List (List ℕ)). IsDescent (IsSynced k l workers) h ms trace.start trace.first trace.rounds trace.last) d.same_maps d.descent)
      placed.sound

-- what the rounds log, for a partition that was made of its parts
pub logged_as : (h : Hyper) (maps : List (List ℕ)) (k l workers start : ℕ) (first last : List ℕ) (g : Hyper) (placed : Parted) (log : List LoggedRound) →
    placed ≡ record { hyper = g; k = k; limit = l; blocks = first }
    → LogsDescent h maps placed.k placed.limit workers start placed.blocks last [] log → LogsDescent h maps k l workers start first last [] log
logged_as h maps k l workers start first last g placed log e d =
    subst (λ (x : Parted). LogsDescent h maps x.k x.limit workers start x.blocks last [] log) e d
