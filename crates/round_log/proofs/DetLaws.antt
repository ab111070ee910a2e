-- The laws of the deterministic mode: its trace is legal, and ends where the function says.
use Rattle.std.proofs.Common.{◌≡◌, ◌⊎◌, inl, inr, ℕ, zero, suc, ◌-◌, ◌*◌, ◌<◌, ◌≤◌, Bool, true, false, ◌&&◌, nat_lt, nat_le, if◌then◌else◌, List, []}
use Rattle.std.proofs.Common.{◌∷◌, length, get_or, Option, Some, None, option_map, refl, sym, ap, subst, ◌∙◌, arith, true≢false}
use Rattle.std.proofs.lemmas.Bool.{and_from, ltb-true, lt-ltb, leb-true, le-leb, cases_lt}
use Rattle.std.proofs.lemmas.List.{get_or_default}
use Rattle.hg_defs.specs.declared.moves.Move.{Move}
use Rattle.hg_defs.specs.Hypergraph.{Hyper, IsHypergraph, IsFixedWithin, vertex_count, total_weight}
use Rattle.hg_defs.specs.Partition.{IsPartition, Fits, Obeys}
use Rattle.hg_defs.specs.Cost.{cost}
use Rattle.hg_defs.specs.LeastLoaded.{greedy}
use Rattle.hg_defs.specs.Moves.{IsSettled, sweep}
use Rattle.hg_defs.specs.Replay.{replay}
use Rattle.hg_defs.specs.Contraction.{contract, after}
use Rattle.hg_defs.specs.Clustering.{cluster_count, cluster_cap, IsClustering}
use Rattle.hg_defs.specs.Levels.{level, coarsest, map_of}
use Rattle.hg_defs.specs.Placement.{named, named_best}
use Rattle.hg_defs.specs.NamedLaws.{IsCheapestAt, partition_at}
use Rattle.hg_defs.proofs.MoveLaws.{empty_sweep, settled_sweep, sweep_lowers}
use Rattle.hg_defs.proofs.NamedLaws.{named-partitions, named-obey, cheapest_is_first, none_is_cheapest}
use Rattle.hg_defs.proofs.PairingLaws.{paired-clustering, paired-maximal}
use Rattle.hg_defs.proofs.ContractionLaws.{hypergraph_kept}
use Rattle.hg_defs.proofs.LevelLaws.{vertices_of_contraction}
use Rattle.round_log.specs.declared.record.Stop.{Stop}
use Rattle.round_log.specs.declared.record.Stop.TheVariants.{Small, Stuck}
use Rattle.round_log.specs.declared.record.Chosen.{Chosen}
use Rattle.round_log.specs.declared.record.Chosen.TheVariants.{Levels, Greedy}
use Rattle.round_log.specs.declared.record.LoggedRound.{LoggedRound}
use Rattle.round_log.specs.declared.record.Trace.{Trace}
use Rattle.round_log.specs.Rounds.{after_round}
use Rattle.round_log.specs.Trace.{IsGoodClustering, AreContracted, IsStop, IsDescent, IsChoice, IsStart, AreSweeps, IsTraced, limit_of}
use Rattle.round_log.specs.Deterministic.{level_pairing, is_pairing_contracted, contracted_pairings, det_maps}
use Rattle.round_log.specs.Deterministic.{placed_or, first_placed, synced_down, cheaper_of}
use Rattle.round_log.specs.Deterministic.{swept_often, swept_until_settled, IsPairing, IsSynced, IsDetRefined, IsDetStart, IsDetTrace}
use Rattle.round_log.specs.TraceLaws.{IsPlaceableWithin, IsSound, SweepsEndAtFunction, FunctionEndsSettled, DetDescentEndsAtFunction}
use Rattle.round_log.specs.TraceLaws.{DetTraceEndsAtFunction, DetTraceIsLegal, DetEndsSettled, DetEndsBelowGreedy}
use Rattle.round_log.proofs.RoundLaws.{swept_to, swept_less}
use Rattle.round_log.proofs.DescentLaws.{level_sound, level_fixed, descends, descends_by, swept_settled, chosen_sound}
use Rattle.round_log.proofs.SyncLaws.{synced_to, det_refined_keeps, synced_refined, synced_keeps}
use Rattle.round_log.proofs.TraceLaws.{ends_settled, ends_below_greedy}

-- ---- sweeps

swept-settled : (n : ℕ) (h : Hyper) (k l : ℕ) (p : List ℕ) → IsSettled h k l p → swept_often n h k l p ≡ p
swept-settled zero h k l p s = refl
swept-settled (suc n) h k l p s = ap (λ (moves : List Move). swept_often n h k l (replay p moves)) (settled_sweep h k l p s) ∙ swept-settled n h k l p s

sweeps_often : (n : ℕ) (h : Hyper) (k l : ℕ) (p : List ℕ) (rounds : List LoggedRound) (q : List ℕ) → cost h p ≤ n → AreSweeps h k l p rounds q →
    q ≡ swept_often n h k l p
sweeps_often n h k l p [] q low s = s.0 ∙ sym (swept-settled n h k l p s.1)
sweeps_often zero h k l p (r ∷ rounds) q low s = absurd (let less = swept_less h k l p r s.3 in omega arith)
sweeps_often (suc n) h k l p (r ∷ rounds) q low s =
    sweeps_often n h k l (after_round p r) rounds q (let less = swept_less h k l p r s.3 in omega arith) s.4 ∙
    ap (swept_often n h k l) (swept_to h k l p r s.3)

pub sweeps_at_function : SweepsEndAtFunction
sweeps_at_function h k l p rounds q s = sweeps_often (cost h p) h k l p rounds q (omega arith) s

often_settled : (n : ℕ) (h : Hyper) (k l : ℕ) (p : List ℕ) → cost h p ≤ n → IsSettled h k l (swept_often n h k l p)
often_settled zero h k l p low = λ v b a. omega arith
often_settled (suc n) h k l p low = by (sweep h k l p) refl (often_settled n h k l)
  where
    by : (moves : List Move) → sweep h k l p ≡ moves → ((q : List ℕ) → cost h q ≤ n → IsSettled h k l (swept_often n h k l q)) →
        IsSettled h k l (swept_often n h k l (replay p (sweep h k l p)))
    by [] e rest =
        let still = empty_sweep h k l p e in
        subst (IsSettled h k l) (sym (ap (λ (moves : List Move). swept_often n h k l (replay p moves)) e ∙ swept-settled n h k l p still)) still
    by (m ∷ moves) e rest =
        rest (replay p (sweep h k l p)) (let less = sweep_lowers h k l p (subst (λ (ms : List Move). 0 < length ms) (sym e) (omega arith)) in omega arith)

pub function_settled : FunctionEndsSettled
function_settled h k l p = often_settled (cost h p) h k l p (omega arith)

-- ---- the levels

not_below : (a b : ℕ) → b ≤ a → nat_lt a b ≡ false
not_below a b low = by (nat_lt a b) refl
  where
    by : (t : Bool) → nat_lt a b ≡ t → t ≡ false
    by true e = absurd (let m = ltb-true a b e in omega arith)
    by false e = refl

not_upto : (a b : ℕ) → b < a → nat_le a b ≡ false
not_upto a b low = by (nat_le a b) refl
  where
    by : (t : Bool) → nat_le a b ≡ t → t ≡ false
    by true e = absurd (let m = leb-true a b e in omega arith)
    by false e = refl

and_false : (a b : Bool) → (a ≡ false) ⊎ (b ≡ false) → (a && b) ≡ false
and_false true b (inl e) = absurd (true≢false e)
and_false true b (inr e) = e
and_false false b e = refl

stops : (number : ℕ) (h : Hyper) (k : ℕ) (stop : Stop) → IsStop (IsPairing k) number h k stop → is_pairing_contracted h k ≡ false
stops number h k Small s = and_false (nat_lt (32 * k) (vertex_count h))
    (nat_le (vertex_count h) (20 * (vertex_count h - cluster_count (level_pairing h k))))
    (inl (not_below (32 * k) (vertex_count h) s))
stops number h k (Stuck c) s =
    and_false (nat_lt (32 * k) (vertex_count h)) (nat_le (vertex_count h) (20 * (vertex_count h - cluster_count (level_pairing h k))))
    (inr (subst (λ (d : List ℕ). nat_le (vertex_count h) (20 * (vertex_count h - cluster_count d)) ≡ false) s.1
    (not_upto (vertex_count h) (20 * (vertex_count h - cluster_count c)) s.2)))

-- the clusterings of the levels are those of the function, however many it may have
maps_are : (n : ℕ) (h : Hyper) (k : ℕ) (number last : ℕ) (maps : List (List ℕ)) (stop : Stop) → vertex_count h ≤ n → AreContracted (IsPairing k) number h k
    maps → IsStop (IsPairing k) last (coarsest h maps) k stop
    → contracted_pairings n h k ≡ maps
maps_are zero h k number last [] stop low a s = refl
maps_are (suc n) h k number last [] stop low a s =
    ap (λ (t : Bool). if t then level_pairing h k ∷ contracted_pairings n (contract h (level_pairing h k) (cluster_count (level_pairing h k))) k else [])
    (stops last h k stop s)
maps_are zero h k number last (c ∷ maps) stop low a s = absurd (let large = a.0 in omega arith)
maps_are (suc n) h k number last (c ∷ maps) stop low a s =
    ap (λ (t : Bool). if t then level_pairing h k ∷ contracted_pairings n (contract h (level_pairing h k) (cluster_count (level_pairing h k))) k else [])
    (and_from (nat_lt (32 * k) (vertex_count h)) (nat_le (vertex_count h) (20 * (vertex_count h - cluster_count (level_pairing h k))))
    (lt-ltb (32 * k) (vertex_count h) a.0)
    (subst (λ (d : List ℕ). nat_le (vertex_count h) (20 * (vertex_count h - cluster_count d)) ≡ true) a.1
    (le-leb (vertex_count h) (20 * (vertex_count h - cluster_count c)) a.2)))
    ∙ ap (λ (d : List ℕ). d ∷ contracted_pairings n (contract h d (cluster_count d)) k) (sym a.1)
    ∙ ap (λ (ds : List (List ℕ)). c ∷ ds)
    (maps_are n (contract h c (cluster_count c)) k (suc number) last maps stop
    (let few = vertices_of_contraction h c (cluster_count c) in let large = a.0 in let shrinks : vertex_count h ≤ 20 * (vertex_count h - cluster_count c) =
    a.2 in omega arith) a.3 s)

-- ---- the start

starts : (h : Hyper) (k l seed : ℕ) (trace : Trace) → IsDetStart h k l seed trace → (i : ℕ) → trace.start ≤ i → i ≤ length trace.maps →
    first_placed h trace.maps k l seed i ≡ Some (trace.start, trace.first)
starts h k l seed trace s zero low high = ap (λ (o : Option (List ℕ)). placed_or 0 o None)
    (subst (λ i. named_best (level h trace.maps i) k l seed ≡ Some trace.first) none s.best) ∙ ap (λ i. Some (i, trace.first)) (sym none)
  where
    none : trace.start ≡ 0
    none = omega arith
starts h k l seed trace s (suc i) low high = by (cases_lt trace.start (suc i)) (starts h k l seed trace s i)
  where
    by : (trace.start < suc i) ⊎ (suc i ≤ trace.start) → (trace.start ≤ i → i ≤ length trace.maps → first_placed h trace.maps k l seed i ≡ Some
        (trace.start, trace.first))
        → first_placed h trace.maps k l seed (suc i) ≡ Some (trace.start, trace.first)
    by (inl m) rest =
        ap (λ (o : Option (List ℕ)). placed_or (suc i) o (first_placed h trace.maps k l seed i)) (s.none_above (suc i) m high) ∙
        rest (omega arith) (omega arith)
    by (inr m) rest =
        let here : trace.start ≡ suc i = omega arith in
        ap (λ (o : Option (List ℕ)). placed_or (suc i) o (first_placed h trace.maps k l seed i))
        (subst (λ j. named_best (level h trace.maps j) k l seed ≡ Some trace.first) here s.best)
        ∙ ap (λ j. Some (j, trace.first)) (sym here)

-- ---- the descent

comes_down : (h : Hyper) (maps : List (List ℕ)) (k l workers i : ℕ) (p : List ℕ) (rounds : List LoggedRound) (q : List ℕ) →
    IsDescent (IsSynced k l workers) h
    maps i p rounds q → q ≡ synced_down h maps k l i p
comes_down h maps k l workers zero p rounds q d = synced_to k l workers 0 h p rounds q d
comes_down h maps k l workers (suc i) p rounds q d =
    comes_down h maps k l workers i (after d.2 (map_of maps i)) d.1 q d.5
    ∙ ap (λ (r : List ℕ). synced_down h maps k l i (after r (map_of maps i))) (synced_to k l workers (suc i) (level h maps (suc i)) p d.0 d.2 d.4)

pub descent_at_function : DetDescentEndsAtFunction
descent_at_function h k l seed workers trace rounds a s start d =
    ap (λ (maps : List (List ℕ)). option_map (λ (x : ℕ × List ℕ). synced_down h maps k l x.0 x.1) (first_placed h maps k l seed (length maps))) maps
    ∙ ap (option_map (λ (x : ℕ × List ℕ). synced_down h trace.maps k l x.0 x.1)) (starts h k l seed trace start (length trace.maps) start.on_level
    (omega arith))
    ∙ ap Some (sym (comes_down h trace.maps k l workers trace.start trace.first rounds trace.last d))
  where
    maps : det_maps h k ≡ trace.maps
    maps = maps_are (vertex_count h) h k 0 (length trace.maps) trace.maps trace.stop (omega arith) a s

-- ---- the choice

chosen_is : (h : Hyper) (k : ℕ) (last : List ℕ) (c : Chosen) (p : List ℕ) → IsChoice h k last c p → p ≡ cheaper_of h k last
chosen_is h k last Greedy p choice =
    choice.greedy_is_swept refl ∙ ap (λ (t : Bool). if t then greedy h k else last)
    (sym (lt-ltb (cost h (greedy h k)) (cost h last) (choice.greedy_where_cheaper.0 refl)))
chosen_is h k last Levels p choice =
    choice.last_is_swept refl ∙ ap (λ (t : Bool). if t then greedy h k else last) (sym (dearer (nat_lt (cost h (greedy h k)) (cost h last)) refl))
  where
    differ : Levels ≡ Greedy → ⊥
    differ x = cc

    dearer : (t : Bool) → nat_lt (cost h (greedy h k)) (cost h last) ≡ t → t ≡ false
    dearer true e = absurd (differ (choice.greedy_where_cheaper.1 (ltb-true (cost h (greedy h k)) (cost h last) e)))
    dearer false e = refl

pub trace_at_function : DetTraceEndsAtFunction
trace_at_function h k l seed workers trace q t =
    ap (option_map (λ (p : List ℕ). swept_until_settled h k l (cheaper_of h k p)))
    (descent_at_function h k l seed workers trace t.descended.level_rounds t.descended.maps t.descended.stop t.start t.descended.descent)
    ∙ ap Some (ap (swept_until_settled h k l) (sym (chosen_is h k trace.last trace.chosen t.swept t.choice)) ∙
    sym (sweeps_at_function h k l t.swept t.descended.sweeps q t.descended.settled))

-- ---- the trace is legal

pairing_clustering : (k number : ℕ) (h : Hyper) (c : List ℕ) → IsHypergraph h → IsPairing k number h c → (cap : ℕ) × IsClustering h cap c
pairing_clustering k number h c sound e = (
  cluster_cap (total_weight h) k,
  subst (IsClustering h (cluster_cap (total_weight h) k)) (sym e)
      (paired-clustering h (cluster_cap (total_weight h) k) sound),
)

pairing_good : (k number : ℕ) (h : Hyper) (c : List ℕ) → IsHypergraph h → IsPairing k number h c → IsGoodClustering k number h c
pairing_good k number h c sound e =
    subst (IsGoodClustering k number h) (sym e)
    (record { clustering = paired-clustering h (cluster_cap (total_weight h) k) sound; maximal = paired-maximal h (cluster_cap (total_weight h) k) sound })

contracted_good : (k number : ℕ) (h : Hyper) (maps : List (List ℕ)) → IsHypergraph h → AreContracted (IsPairing k) number h k maps →
    AreContracted (IsGoodClustering k) number h k maps
contracted_good k number h [] sound a = tt
contracted_good k number h (c ∷ maps) sound a =
    let good = pairing_good k number h c sound a.1 in (
      a.0,
      good,
      a.2,
      contracted_good k (suc number) (contract h c (cluster_count c)) maps
          (hypergraph_kept h c (cluster_count c) (record { hypergraph = sound; full = good.clustering.full })) a.3,
    )

stop_good : (k number : ℕ) (h : Hyper) (stop : Stop) → IsHypergraph h → IsStop (IsPairing k) number h k stop → IsStop (IsGoodClustering k) number h k stop
stop_good k number h Small sound s = s
stop_good k number h (Stuck c) sound s = (s.0, pairing_good k number h c sound s.1, s.2)

module _ (h : Hyper) (k l seed workers : ℕ) (trace : Trace) (q : List ℕ) (ready : IsPlaceableWithin h k l) (some : 0 < workers)
    (t : IsDetTrace h k l seed workers trace q) where
  sound_at : (i : ℕ) → i ≤ length trace.maps → IsHypergraph (level h trace.maps i)
  sound_at = level_sound (IsPairing k) (pairing_clustering k) k h trace.maps ready.hypergraph t.descended.maps

  start_is : IsStart h k l seed trace
  start_is = by (cheapest_is_first (level h trace.maps trace.start) k l (named (level h trace.maps trace.start) k seed) trace.first t.start.best)
    where
      good : IsHypergraph (level h trace.maps trace.start)
      good = sound_at trace.start t.start.on_level

      fixed : IsFixedWithin (level h trace.maps trace.start) k
      fixed = level_fixed (IsPairing k) (pairing_clustering k) k h trace.maps ready.hypergraph t.descended.maps ready.fixed trace.start t.start.on_level

      by : (i : ℕ) × IsCheapestAt (level h trace.maps trace.start) k l (named (level h trace.maps trace.start) k seed) i ×
          (trace.first ≡ partition_at (named (level h trace.maps trace.start) k seed) i) → IsStart h k l seed trace
      by x = record {
        on_level = t.start.on_level;
        none_above = λ i m n. none_is_cheapest (level h trace.maps i) k l (named (level h trace.maps i) k seed) (t.start.none_above i m n);
        partition = subst (IsPartition (level h trace.maps trace.start) k) (sym x.2) (named-partitions (level h trace.maps trace.start) k seed good fixed
            ready.blocks x.0 [] x.1.within);
        fits = subst (Fits (level h trace.maps trace.start) k l) (sym x.2) x.1.fits;
        obeys = subst (Obeys (level h trace.maps trace.start)) (sym x.2) (named-obey (level h trace.maps trace.start) k seed good fixed ready.blocks x.0 []
            x.1.within);
        cheapest = λ i d m f. subst (λ (p : List ℕ). cost (level h trace.maps trace.start) p ≤ cost (level h trace.maps trace.start)
            (get_or (named (level h trace.maps trace.start) k seed) i d)) (sym x.2)
            (subst (λ (p : List ℕ). cost (level h trace.maps trace.start) (partition_at (named (level h trace.maps trace.start) k seed) x.0) ≤ cost
            (level h trace.maps trace.start) p) (get_or_default (named (level h trace.maps trace.start) k seed) i [] d m)
            (x.1.cheapest i m (subst (Fits (level h trace.maps trace.start) k l) (get_or_default (named (level h trace.maps trace.start) k seed) i d [] m)
            f)));
      }

  first_sound : IsSound (level h trace.maps trace.start) k l trace.first
  first_sound = record { partition = start_is.partition; obeys = start_is.obeys; fits = start_is.fits }

  last_is : IsSound h k l trace.last × (cost h trace.last ≤ cost (level h trace.maps trace.start) trace.first)
  last_is =
      descends (IsPairing k) (pairing_clustering k) k h trace.maps ready.hypergraph t.descended.maps (IsSynced k l workers) l
      (λ number g p rounds r s. synced_keeps k l workers number g p rounds r some s)
      trace.start t.start.on_level trace.first t.descended.level_rounds trace.last t.descended.descent first_sound

  swept_is : IsSound h k l t.swept × (cost h t.swept ≤ cost h trace.last) × (cost h t.swept ≤ cost h (greedy h k))
  swept_is = chosen_sound h k l ready trace.last last_is.0 t.swept trace.chosen t.choice

  is_legal : IsTraced (IsDetRefined k l workers) h k l seed trace q
  is_legal = record {
    start = start_is;
    swept = t.swept;
    choice = t.choice;
    descended = record {
      maps = contracted_good k 0 h trace.maps ready.hypergraph t.descended.maps;
      stop = stop_good k (length trace.maps) (coarsest h trace.maps) trace.stop (sound_at (length trace.maps) (omega arith)) t.descended.stop;
      level_rounds = t.descended.level_rounds;
      sweeps = t.descended.sweeps;
      rounds_are = t.descended.rounds_are;
      descent =
          descends_by (IsPairing k) (pairing_clustering k) k h trace.maps ready.hypergraph t.descended.maps (IsSynced k l workers) l
          (λ number g p rounds r s. synced_keeps k l workers number g p rounds r some s)
          (IsDetRefined k l workers) (λ number g p rounds r s o. synced_refined k l workers number g p rounds r some s o)
          trace.start t.start.on_level trace.first t.descended.level_rounds trace.last t.descended.descent first_sound;
      settled = t.descended.settled;
    };
    last_obeys = last_is.0.obeys;
    obeys = (swept_settled h k l t.swept t.descended.sweeps q swept_is.0 t.descended.settled).sound.obeys;
  }

pub det-legal : DetTraceIsLegal
det-legal h job trace q ready some t = is_legal h job.k (limit_of h job) job.seed job.workers trace q ready some t

pub det-settled : DetEndsSettled
det-settled h job trace q ready legal =
    ends_settled (IsDetRefined job.k (limit_of h job) job.workers) h job.k (limit_of h job) job.seed trace q
    (det_refined_keeps job.k (limit_of h job) job.workers) ready legal

pub det-below_greedy : DetEndsBelowGreedy
det-below_greedy h job trace q ready legal =
    ends_below_greedy (IsDetRefined job.k (limit_of h job) job.workers) h job.k (limit_of h job) job.seed trace q
    (det_refined_keeps job.k (limit_of h job) job.workers) ready legal
