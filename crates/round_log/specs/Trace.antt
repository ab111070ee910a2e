-- Whole descents: the levels, the first partition, a pass of each refiner a level, the choice on the file, and the sweeps at the end.
use Rattle.std.specs.Prelude.{◌≡◌, ℕ, zero, suc, ◌*◌, ◌-◌, ◌<◌, ◌≤◌, List, [], ◌∷◌, ◌++◌, length, All, false, ◌↔◌}
use Rattle.hg_defs.specs.Hypergraph.{Hyper, vertex_count, total_weight}
use Rattle.hg_defs.specs.Partition.{IsPartition, Fits, Obeys, limit}
use Rattle.hg_defs.specs.Cost.{cost}
use Rattle.hg_defs.specs.LeastLoaded.{greedy}
use Rattle.hg_defs.specs.Moves.{IsSettled}
use Rattle.hg_defs.specs.Contraction.{contract, after}
use Rattle.hg_defs.specs.Levels.{level, coarsest, map_of}
use Rattle.hg_defs.specs.Clustering.{cluster_count, cluster_cap, IsClustering, IsMaximal, Shrinks}
use Rattle.hg_defs.specs.Placement.{named}
use Rattle.round_log.specs.declared.record.Kind.TheVariants.{Label, Search, Flow, Sweep}
use Rattle.round_log.specs.declared.record.Stop.{Stop}
use Rattle.round_log.specs.declared.record.Stop.TheVariants.{Small, Stuck}
use Rattle.round_log.specs.declared.record.Chosen.{Chosen}
use Rattle.round_log.specs.declared.record.Chosen.TheVariants.{Levels, Greedy}
use Rattle.round_log.specs.declared.record.LoggedRound.{LoggedRound}
use Rattle.round_log.specs.declared.record.Job.{Job}
use Rattle.round_log.specs.declared.record.Trace.{Trace}
use Rattle.round_log.specs.Rounds.{after_round, after_rounds, IsSwept}
use Rattle.round_log.specs.Passes.{IsPass}

-- a level with more vertices than this is coarsened
abbrev pub IsLarge : Hyper → ℕ → Type 0
IsLarge h k = 32 * k < vertex_count h

-- what may be asked of a clustering, by the number of its level
abbrev pub Good : Type 1
Good = ℕ → Hyper → List ℕ → Type 0

-- the clusterings of a coarsening from the level of a number on, where `good` says which may be made: each removes a twentieth of a large level
abbrev pub AreContracted : Good → ℕ → Hyper → ℕ → List (List ℕ) → Type 0
AreContracted good number h k [] = Unit {0}
AreContracted good number h k (clusters ∷ maps) =
    IsLarge h k
    × good number h clusters
    × Shrinks h clusters
    × AreContracted good (suc number) (contract h clusters (cluster_count clusters)) k maps

-- coarsening stopped at the level of a number: it isn't large, or a clustering of it removes too little
abbrev pub IsStop : Good → ℕ → Hyper → ℕ → Stop → Type 0
IsStop good number h k Small = vertex_count h ≤ 32 * k
IsStop good number h k (Stuck clusters) =
    IsLarge h k × good number h clusters × (20 * (vertex_count h - cluster_count clusters) < vertex_count h)

-- a maximal clustering within the cap of k blocks
pub record IsGoodClustering (k number : ℕ) (h : Hyper) (clusters : List ℕ) : Type 0 where
  pub clustering : IsClustering h (cluster_cap (total_weight h) k) clusters
  pub maximal : IsMaximal h (cluster_cap (total_weight h) k) clusters

-- the rounds of a level: a pass of each refiner, in turn
pub record IsRefined (k l workers number : ℕ) (h : Hyper) (p : List ℕ) (rounds : List LoggedRound) (q : List ℕ) : Type 0 where
  pub label_rounds : List LoggedRound
  pub search_rounds : List LoggedRound
  pub flow_rounds : List LoggedRound
  pub rounds_are : rounds ≡ label_rounds ++ search_rounds ++ flow_rounds
  pub bear_level : All (λ r. r.level ≡ number) rounds
  pub label : IsPass Label h k l workers p label_rounds
  pub search : IsPass Search h k l workers (after_rounds p label_rounds) search_rounds
  pub flow : IsPass Flow h k l workers (after_rounds p (label_rounds ++ search_rounds)) flow_rounds
  pub result : q ≡ after_rounds p rounds

-- which rounds a level may have, by its number, and where they lead
abbrev pub Refined : Type 1
Refined = ℕ → Hyper → List ℕ → List LoggedRound → List ℕ → Type 0

-- from the level of a number down to the file: the rounds of each level, and between two levels the projection
abbrev pub IsDescent : Refined → Hyper → List (List ℕ) → ℕ → List ℕ → List LoggedRound → List ℕ → Type 0
IsDescent refined h maps zero p rounds q = refined zero h p rounds q
IsDescent refined h maps (suc i) p rounds q =
    (here : List LoggedRound) × (below : List LoggedRound) × (reached : List ℕ)
    × (rounds ≡ here ++ below)
    × refined (suc i) (level h maps (suc i)) p here reached
    × IsDescent refined h maps i (after reached (map_of maps i)) below q

-- sweeps of the file from p, until the partition is settled
abbrev pub AreSweeps : Hyper → ℕ → ℕ → List ℕ → List LoggedRound → List ℕ → Type 0
AreSweeps h k l p [] q = (q ≡ p) × IsSettled h k l p
AreSweeps h k l p (r ∷ rounds) q =
    (r.kind ≡ Sweep)
    × (r.level ≡ 0)
    × (r.tabled ≡ false)
    × IsSwept h k l p r
    × AreSweeps h k l (after_round p r) rounds q

-- the partition that is swept: the greedy one exactly where it is cheaper
pub record IsChoice (h : Hyper) (k : ℕ) (last : List ℕ) (chosen : Chosen) (p : List ℕ) : Type 0 where
  pub greedy_where_cheaper : (chosen ≡ Greedy) ↔ (cost h (greedy h k) < cost h last)
  pub greedy_is_swept : chosen ≡ Greedy → p ≡ greedy h k
  pub last_is_swept : chosen ≡ Levels → p ≡ last

-- the first partition: on the coarsest level where a named placement fits, and no dearer than any of them that fits
pub record IsStart (h : Hyper) (k l seed : ℕ) (trace : Trace) : Type 0 where
  pub on_level : trace.start ≤ length trace.maps
  pub none_above : (i : ℕ) → trace.start < i → i ≤ length trace.maps
      → All (λ p. Fits (level h trace.maps i) k l p → ⊥) (named (level h trace.maps i) k seed)
  pub partition : IsPartition (level h trace.maps trace.start) k trace.first
  pub fits : Fits (level h trace.maps trace.start) k l trace.first
  pub obeys : Obeys (level h trace.maps trace.start) trace.first
  pub cheapest : All
      (λ p. Fits (level h trace.maps trace.start) k l p
      → cost (level h trace.maps trace.start) trace.first ≤ cost (level h trace.maps trace.start) p)
      (named (level h trace.maps trace.start) k seed)

-- what all traces have in common, for the clusterings and the rounds that levels may have, and for the partition of the file that is swept
pub record IsDescended (good : Good) (refined : Refined) (h : Hyper) (k l : ℕ) (trace : Trace) (swept q : List ℕ) : Type 0 where
  pub maps : AreContracted good 0 h k trace.maps
  pub stop : IsStop good (length trace.maps) (coarsest h trace.maps) k trace.stop
  pub level_rounds : List LoggedRound
  pub sweeps : List LoggedRound
  pub rounds_are : trace.rounds ≡ level_rounds ++ sweeps
  pub descent : IsDescent refined h trace.maps trace.start trace.first level_rounds trace.last
  pub settled : AreSweeps h k l swept sweeps q

-- a trace from a named placement on, whose levels have the rounds that are asked for, ends with the partition q
pub record IsTraced (refined : Refined) (h : Hyper) (k l seed : ℕ) (trace : Trace) (q : List ℕ) : Type 0 where
  pub start : IsStart h k l seed trace
  pub swept : List ℕ
  pub choice : IsChoice h k trace.last trace.chosen swept
  pub descended : IsDescended (IsGoodClustering k) refined h k l trace swept q
  pub last_obeys : Obeys h trace.last
  pub obeys : Obeys h q

abbrev pub limit_of : Hyper → Job → ℕ
limit_of h job = limit (total_weight h) job.k job.eps

-- the trace of a run that ends with the partition q
abbrev pub IsLegal : Hyper → Job → Trace → List ℕ → Type 0
IsLegal h job trace q = IsTraced (IsRefined job.k (limit_of h job) job.workers) h job.k (limit_of h job) job.seed trace q
