-- The laws of legal traces.
use Rattle.std.proofs.Common.{ℕ, ◌≤◌, true, List, ◌++◌, sym, subst, arith}
use Rattle.hg_defs.specs.Hypergraph.{Hyper, IsHypergraph, total_weight}
use Rattle.hg_defs.specs.Cost.{cost}
use Rattle.hg_defs.specs.LeastLoaded.{greedy}
use Rattle.hg_defs.specs.Clustering.{IsClustering, cluster_cap}
use Rattle.hg_defs.specs.Levels.{level}
use Rattle.round_log.specs.declared.record.Kind.TheVariants.{Label, Search, Flow}
use Rattle.round_log.specs.declared.record.LoggedRound.{LoggedRound}
use Rattle.round_log.specs.declared.record.Trace.{Trace}
use Rattle.round_log.specs.Rounds.{after_rounds}
use Rattle.round_log.specs.Trace.{IsGoodClustering, IsRefined, IsTraced, limit_of}
use Rattle.round_log.specs.TraceLaws.{IsPlaceableWithin, IsSound, IsSettledPartition, TraceEndsSettled}
use Rattle.round_log.specs.TraceLaws.{DescentRaisesNoCost, TraceEndsBelowLast, TraceEndsBelowGreedy}
use Rattle.round_log.proofs.RoundLaws.{sweeps-no_dearer}
use Rattle.round_log.proofs.PassLaws.{AllKeep, pass_keeps}
use Rattle.round_log.proofs.DescentLaws.{keep_append, Leaves, leaves_by, descends, swept_settled, chosen_sound}

pub refined_keeps : (k l workers number : ℕ) (h : Hyper) (p : List ℕ) (rounds : List LoggedRound) (q : List ℕ) → IsRefined k l workers number h p rounds q →
    Leaves h k l p q
refined_keeps k l workers number h p rounds q s = leaves_by h k l p rounds q keep s.result
  where
    keep : AllKeep h k l p rounds
    keep =
        subst (AllKeep h k l p) (sym s.rounds_are)
        (keep_append h k l p (s.label_rounds ++ s.search_rounds) s.flow_rounds
        (keep_append h k l p s.label_rounds s.search_rounds (pass_keeps true Label h k l workers p s.label_rounds s.label)
        (pass_keeps true Search h k l workers (after_rounds p s.label_rounds) s.search_rounds s.search))
        (pass_keeps true Flow h k l workers (after_rounds p (s.label_rounds ++ s.search_rounds)) s.flow_rounds s.flow))

pub good_clustering : (k number : ℕ) (h : Hyper) (c : List ℕ) → IsHypergraph h → IsGoodClustering k number h c → (cap : ℕ) × IsClustering h cap c
good_clustering k number h c sound good = (cluster_cap (total_weight h) k, good.clustering)

-- ---- a trace whose levels keep partitions sound

module _ (refined : ℕ → Hyper → List ℕ → List LoggedRound → List ℕ → Type 0) (h : Hyper) (k l seed : ℕ) (trace : Trace) (q : List ℕ)
    (keeps : (number : ℕ) (g : Hyper) (p : List ℕ) (rounds : List LoggedRound) (r : List ℕ) → refined number g p rounds r → Leaves g k l p r)
    (ready : IsPlaceableWithin h k l) (legal : IsTraced refined h k l seed trace q)
  where
    pub last_sound : IsSound h k l trace.last × (cost h trace.last ≤ cost (level h trace.maps trace.start) trace.first)
    last_sound =
        descends (IsGoodClustering k) (good_clustering k) k h trace.maps ready.hypergraph legal.descended.maps refined l keeps trace.start
        legal.start.on_level
        trace.first
        legal.descended.level_rounds trace.last legal.descended.descent
        (record { partition = legal.start.partition; obeys = legal.start.obeys; fits = legal.start.fits })

    swept_sound : IsSound h k l legal.swept × (cost h legal.swept ≤ cost h trace.last) × (cost h legal.swept ≤ cost h (greedy h k))
    swept_sound = chosen_sound h k l ready trace.last last_sound.0 legal.swept trace.chosen legal.choice

    end_below : cost h q ≤ cost h legal.swept
    end_below = sweeps-no_dearer h k l legal.swept legal.descended.sweeps q legal.descended.settled

    pub ends_settled : IsSettledPartition h k l q
    ends_settled = swept_settled h k l legal.swept legal.descended.sweeps q swept_sound.0 legal.descended.settled

    pub ends_below_last : cost h q ≤ cost h trace.last
    ends_below_last = let a = swept_sound.1 in let b = end_below in omega arith

    pub ends_below_greedy : cost h q ≤ cost h (greedy h k)
    ends_below_greedy = let a = swept_sound.2 in let b = end_below in omega arith

pub trace-settled : TraceEndsSettled
trace-settled h job trace q ready legal =
    ends_settled (IsRefined job.k (limit_of h job) job.workers) h job.k (limit_of h job) job.seed trace q (refined_keeps job.k (limit_of h job) job.workers)
    ready legal

pub descent-no_dearer : DescentRaisesNoCost
descent-no_dearer h job trace q ready legal =
    (last_sound (IsRefined job.k (limit_of h job) job.workers) h job.k (limit_of h job) job.seed trace q (refined_keeps job.k (limit_of h job) job.workers)
    ready legal).1

pub trace-below_last : TraceEndsBelowLast
trace-below_last h job trace q ready legal =
    ends_below_last (IsRefined job.k (limit_of h job) job.workers) h job.k (limit_of h job) job.seed trace q
    (refined_keeps job.k (limit_of h job) job.workers)
    ready legal

pub trace-below_greedy : TraceEndsBelowGreedy
trace-below_greedy h job trace q ready legal =
    ends_below_greedy (IsRefined job.k (limit_of h job) job.workers) h job.k (limit_of h job) job.seed trace q
    (refined_keeps job.k (limit_of h job) job.workers) ready legal
