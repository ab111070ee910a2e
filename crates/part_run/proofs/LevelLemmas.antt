-- The levels of a coarsening, what a legal trace is put together of, and what the refiners tally of it.
use Rattle.std.proofs.Common.{◌≡◌, ◌≤◌, ℕ, List, length, sym, ap, subst, ◌∙◌, arith}
use Rattle.hg_defs.specs.Hypergraph.{Hyper, total_weight, IsHypergraph, IsFixedWithin, Suits}
use Rattle.hg_defs.specs.Partition.{Fits}
use Rattle.hg_defs.specs.Clustering.{cluster_cap, IsClustering}
use Rattle.hg_defs.specs.Levels.{level, coarsest}
use Rattle.hg_defs.proofs.PairingLaws.{paired-clustering}
use Rattle.pin_plain.specs.Parted.{Parted}
use Rattle.round_log.specs.declared.record.Kind.{Kind}
use Rattle.round_log.specs.declared.record.Stop.{Stop}
use Rattle.round_log.specs.declared.record.Job.{Job}
use Rattle.round_log.specs.declared.record.LoggedRound.{LoggedRound}
use Rattle.round_log.specs.declared.record.Trace.{Trace}
use Rattle.round_log.specs.Deterministic.{IsPairing}
use Rattle.round_log.specs.Trace.{Good, Refined, AreContracted, IsStop, IsGoodClustering, IsTraced, limit_of}
use Rattle.round_log.specs.TraceLaws.{IsPlaceableWithin, IsPlaceableFor, IsSound}
use Rattle.round_log.proofs.DescentLaws.{level_contractible}
use Rattle.refiner.specs.declared.pass.Tally.{Tally}
use Rattle.level_stack.specs.Stack.{Stack}
use Rattle.uncoarsen.specs.Start.{ArePartable, IsStartAt}
use Rattle.uncoarsen.specs.Settled.{SettlesBest}
use Rattle.uncoarsen.specs.Refined.{IsRefinedBy, IsRefinedDown, IsLegalBy, tallies_with}
use Rattle.uncoarsen.proofs.LegalLaws.{traced}
use Rattle.uncoarsen.proofs.EndLemmas.{levels_partable, tallies_swept}
use Rattle.trace_text.specs.Report.{IsPrintable}

pub clustered : (k number : ℕ) (h : Hyper) (c : List ℕ) → IsHypergraph h → IsGoodClustering k number h c → (cap : ℕ) × IsClustering h cap c
clustered k number h c sound good = (cluster_cap (total_weight h) k, good.clustering)

-- a trace from a named placement on can be printed
pub traced_printable : (refined : Refined) (job : Job) (h : Hyper) (trace : Trace) (q : List ℕ) → IsPlaceableFor h job →
    IsTraced refined h job.k (limit_of h job) job.seed trace q → IsPrintable h job.k trace
traced_printable refined job h trace q ready traced = record {
  start = traced.start.on_level;
  levels = λ i low.
      level_contractible (IsGoodClustering job.k) (clustered job.k) job.k h trace.maps ready.hypergraph traced.descended.maps i
      (let bound = traced.start.on_level in omega arith);
  first = traced.start.partition;
}

-- the end of a run, told in other words
pub settles_told : (h g : Hyper) (k k' l l' : ℕ) (old new : Trace) (q : List ℕ) → g ≡ h → k' ≡ k → l' ≡ l → SettlesBest g k' l' old new q →
    SettlesBest h k l old new q
settles_told h g k k' l l' old new q same_g same_k same_l best =
    subst (λ (x : Hyper). SettlesBest x k l old new q) same_g
    (subst (λ (x : ℕ). SettlesBest g x l old new q) same_k (subst (λ (x : ℕ). SettlesBest g k' x old new q) same_l best))

-- ---- a run put together

module _ (kinds : List Kind) (s : Stack) (stop : Stop) (number : ℕ) (first : List ℕ) (job : Job) (old new : Trace) (q : List ℕ) where
  -- what the coarsening, the start, the way down and the end tell of the levels of h
  pub run_legal : (h : Hyper) → IsPlaceableFor h job → s.base ≡ h → AreContracted (IsGoodClustering job.k) 0 h job.k s.maps →
      IsStop (IsGoodClustering job.k) (length s.maps) (coarsest h s.maps) job.k stop → IsStartAt s job.k (limit_of h job) job.seed number first →
      IsRefinedDown kinds s stop number first job.k (limit_of h job) job.workers old → IsSound s.base job.k (limit_of h job) old.last →
      SettlesBest s.base job.k (limit_of h job) old new q → IsLegalBy kinds h job new q
  run_legal h ready base contracted stopped start down sound best =
      subst (λ (g : Hyper). IsTraced (IsRefinedBy kinds job.k (limit_of h job) job.workers) g job.k (limit_of h job) job.seed new q) base
      (traced kinds s stop number first job.k (limit_of h job) job.seed job.workers old new q
      (subst (λ (g : Hyper). IsPlaceableWithin g job.k (limit_of h job)) (sym base) ready)
      (subst (λ (g : Hyper). AreContracted (IsGoodClustering job.k) 0 g job.k s.maps) (sym base) contracted)
      (subst (λ (g : Hyper). IsStop (IsGoodClustering job.k) (length s.maps) (coarsest g s.maps) job.k stop) (sym base) stopped)
      start down sound best)

  pub run_tallies : (l : ℕ) (ts : List Tally) → IsRefinedDown kinds s stop number first job.k l job.workers old →
      SettlesBest s.base job.k l old new q → tallies_with old.rounds kinds ts ≡ tallies_with new.rounds kinds ts
  run_tallies l ts down best =
      sym (tallies_swept kinds s.base job.k l job.workers s.maps number first old.last best.swept q old.rounds best.sweeps ts down.descent best.settled)
      ∙ ap (λ (rs : List LoggedRound). tallies_with rs kinds ts) (sym (ap (λ (t : Trace). t.rounds) best.trace))

  -- the same, where the numbers are told in other words
  pub run_told : (h g : Hyper) (l k' l' : ℕ) → IsPlaceableFor h job → l ≡ limit_of h job → s.base ≡ h → g ≡ s.base → k' ≡ job.k → l' ≡ l →
      AreContracted (IsGoodClustering job.k) 0 h job.k s.maps → IsStop (IsGoodClustering job.k) (length s.maps) (coarsest h s.maps) job.k stop →
      IsStartAt s job.k l job.seed number first → IsRefinedDown kinds s stop number first job.k l job.workers old → IsSound s.base job.k l old.last →
      SettlesBest g k' l' old new q → IsLegalBy kinds h job new q
  run_told h g l k' l' ready is base same_g same_k same_l contracted stopped start down sound best =
      run_legal h ready base contracted stopped
      (subst (λ (x : ℕ). IsStartAt s job.k x job.seed number first) is start)
      (subst (λ (x : ℕ). IsRefinedDown kinds s stop number first job.k x job.workers old) is down)
      (subst (λ (x : ℕ). IsSound s.base job.k x old.last) is sound)
      (settles_told s.base g job.k k' (limit_of h job) l' old new q same_g same_k (same_l ∙ is) best)

  pub tallies_told : (g : Hyper) (l k' l' : ℕ) (ts : List Tally) → g ≡ s.base → k' ≡ job.k → l' ≡ l →
      IsRefinedDown kinds s stop number first job.k l job.workers old → SettlesBest g k' l' old new q →
      tallies_with old.rounds kinds ts ≡ tallies_with new.rounds kinds ts
  tallies_told g l k' l' ts same_g same_k same_l down best =
      run_tallies l ts down (settles_told s.base g job.k k' l l' old new q same_g same_k same_l best)

-- what holds of the file's hypergraph holds of the base of its stack
partable_by : (good : Good) → ((number : ℕ) (h : Hyper) (c : List ℕ) → IsHypergraph h → good number h c → (cap : ℕ) × IsClustering h cap c) →
    (k : ℕ) (s : Stack) (h : Hyper) → s.base ≡ h → IsHypergraph h → AreContracted good 0 h k s.maps → Suits h k → IsFixedWithin h k → ArePartable s k
partable_by good clustering k s h base sound contracted suits fixed =
    levels_partable good clustering k s (subst IsHypergraph (sym base) sound)
    (subst (λ (g : Hyper). AreContracted good 0 g k s.maps) (sym base) contracted)
    (subst (λ (g : Hyper). Suits g k) (sym base) suits)
    (subst (λ (g : Hyper). IsFixedWithin g k) (sym base) fixed)

pub partable_over : (k : ℕ) (s : Stack) (h : Hyper) → s.base ≡ h → IsHypergraph h → AreContracted (IsGoodClustering k) 0 h k s.maps → Suits h k →
    IsFixedWithin h k → ArePartable s k
partable_over k s h base sound contracted suits fixed = partable_by (IsGoodClustering k) (clustered k) k s h base sound contracted suits fixed

paired_clustering : (k number : ℕ) (h : Hyper) (c : List ℕ) → IsHypergraph h → IsPairing k number h c → (cap : ℕ) × IsClustering h cap c
paired_clustering k number h c sound e = (
  cluster_cap (total_weight h) k,
  subst (IsClustering h (cluster_cap (total_weight h) k)) (sym e) (paired-clustering h (cluster_cap (total_weight h) k) sound),
)

pub pairings_suit : (k : ℕ) (s : Stack) (h : Hyper) → s.base ≡ h → IsHypergraph h → AreContracted (IsPairing k) 0 h k s.maps → Suits h k →
    IsFixedWithin h k → (i : ℕ) → i ≤ length s.maps → Suits (level s.base s.maps i) k
pairings_suit k s h base sound contracted suits fixed i low =
    let partable = partable_by (IsPairing k) (paired_clustering k) k s h base sound contracted suits fixed i low in partable.suits

-- the same partition, told in other words
pub parted_told : (p : Parted) (h g : Hyper) (k l m : ℕ) → g ≡ h → l ≡ m → p ≡ record { hyper = g; k = k; limit = l; blocks = p.blocks } →
    p ≡ record { hyper = h; k = k; limit = m; blocks = p.blocks }
parted_told p h g k l m same_h same_l is =
    is
    ∙ ap (λ (x : Hyper). let r : Parted = record { hyper = x; k = k; limit = l; blocks = p.blocks } in r) same_h
    ∙ ap (λ (x : ℕ). let r : Parted = record { hyper = h; k = k; limit = x; blocks = p.blocks } in r) same_l

-- one that was reached from another of the same hypergraph
pub parted_from : (p last : Parted) (h : Hyper) (k l : ℕ) (blocks : List ℕ) → p ≡ record last { blocks = p.blocks } →
    last ≡ record { hyper = h; k = k; limit = l; blocks = blocks } → p ≡ record { hyper = h; k = k; limit = l; blocks = p.blocks }
parted_from p last h k l blocks is last_is = is ∙ ap (λ (x : Parted). let r : Parted = record x { blocks = p.blocks } in r) last_is

pub fits_over : (h g : Hyper) (k k' l l' : ℕ) (p : List ℕ) → g ≡ h → k' ≡ k → l' ≡ l → Fits h k l p → Fits g k' l' p
fits_over h g k k' l l' p same_g same_k same_l fits =
    subst (λ (x : Hyper). Fits x k' l' p) (sym same_g)
    (subst (λ (x : ℕ). Fits h x l' p) (sym same_k) (subst (λ (x : ℕ). Fits h k x p) (sym same_l) fits))
