-- How many rounds of a kind a cycle makes, and how much they save.
use Rattle.std.proofs.Common.{◌≡◌, ◌≢◌, ℕ, zero, suc, ◌+◌, ◌*◌, ◌<◌, ◌≤◌, ◌^◌, List, [], ◌∷◌, length, All, AllPairs}
use Rattle.std.proofs.Common.{sym, ap, subst, ◌∙◌, arith}
use Rattle.std.proofs.lemmas.List.{length-append}
use Rattle.hg_defs.specs.Sums.{total}
use Rattle.hg_defs.specs.Hypergraph.{Hyper, vertex_count, IsHypergraph, IsWithinLimits}
use Rattle.hg_defs.specs.Cost.{cost}
use Rattle.hg_defs.specs.Contraction.{contract, after}
use Rattle.hg_defs.specs.Clustering.{cluster_count}
use Rattle.hg_defs.specs.Levels.{level, map_of}
use Rattle.hg_defs.proofs.SumLaws.{total-append}
use Rattle.hg_defs.proofs.LevelLaws.{vertices_of_contraction}
use Rattle.hg_base.proofs.CountLaws.{cost-lt}
use Rattle.round_log.specs.declared.record.Kind.{Kind}
use Rattle.round_log.specs.declared.record.LoggedRound.{LoggedRound}
use Rattle.round_log.specs.declared.record.Trace.{Trace}
use Rattle.round_log.specs.Passes.{saved}
use Rattle.round_log.specs.Trace.{Good, AreContracted, IsDescent, IsDescended}
use Rattle.round_log.specs.Cycles.{IsInsideAt}
use Rattle.round_log.specs.TraceLaws.{IsSound}
use Rattle.round_log.proofs.PassLaws.{rounds-save}
use Rattle.round_log.proofs.DescentLaws.{Leaves, level_projected}
use Rattle.refiner.specs.declared.pass.Tally.{Tally}
use Rattle.uncoarsen.specs.Refined.{IsRefinedBy, rounds_of, tallies_with}
use Rattle.uncoarsen.proofs.TallyLemmas.{rounds_of-append, tallies_within}
use Rattle.uncoarsen.proofs.PassesLaws.{passes_keep, passes_few, refined_by_leaves}
use Rattle.uncoarsen.proofs.EndLemmas.{tallies_swept}
use Rattle.vcycle.specs.Cycles.{IsCycleBy}
use Rattle.vcycle.proofs.CycleLaws.{inside_clustering, first_sound}

-- each clustering removes a vertex at least
pub contracted_few : (good : Good) (number k : ℕ) (h : Hyper) (maps : List (List ℕ)) → AreContracted good number h k maps → length maps ≤ vertex_count h
contracted_few good number k h [] a = omega arith
contracted_few good number k h (c ∷ maps) a =
    let large = a.0 in
    let shrinks = a.2 in
    let same = vertices_of_contraction h c (cluster_count c) in
    let rest = contracted_few good (suc number) k (contract h c (cluster_count c)) maps a.3 in
    omega arith

-- ---- descents

-- each level has few rounds of a kind
pub descent_few : (other : Kind) (kinds : List Kind) (h : Hyper) (k l workers : ℕ) (maps : List (List ℕ)) → k ≤ 256 → AllPairs (λ (a b : Kind). a ≢ b) kinds
    → (i : ℕ) (p : List ℕ) (rounds : List LoggedRound) (q : List ℕ) → IsDescent (IsRefinedBy kinds k l workers) h maps i p rounds q
    → length (rounds_of other rounds) ≤ suc i * 2 ^ 15
descent_few other kinds h k l workers maps small differ zero p rounds q d =
    let few = passes_few other kinds h k l workers p rounds small differ d.passes in omega arith
descent_few other kinds h k l workers maps small differ (suc i) p rounds q d =
    let here = passes_few other kinds (level h maps (suc i)) k l workers p d.0 small differ d.4.passes in
    let below = descent_few other kinds h k l workers maps small differ i (after d.2 (map_of maps i)) d.1 q d.5 in
    let parts = ap (λ (rs : List LoggedRound). length (rounds_of other rs)) d.3 ∙ ap length (rounds_of-append other d.0 d.1)
    ∙ length-append (rounds_of other d.0) (rounds_of other d.1) in
    omega arith

-- a level's rounds save what it becomes cheaper
pub level_saves : (kinds : List Kind) (h : Hyper) (k l workers number : ℕ) (p : List ℕ) (rounds : List LoggedRound) (q : List ℕ) → IsSound h k l p
    → IsRefinedBy kinds k l workers number h p rounds q → total saved rounds + cost h q ≡ cost h p
level_saves kinds h k l workers number p rounds q o refined =
    ap (λ (r : List ℕ). total saved rounds + cost h r) refined.result
    ∙ rounds-save h k l p rounds o.partition o.fits (passes_keep kinds h k l workers p rounds refined.passes)

module _ (kinds : List Kind) (h : Hyper) (k l workers : ℕ) (maps : List (List ℕ)) (blocks : List ℕ) (sound : IsHypergraph h)
    (contracted : AreContracted (IsInsideAt k maps blocks) 0 h k maps)
  where
    -- and so do those of all levels
    descent_saves : (i : ℕ) → i ≤ length maps → (p : List ℕ) (rounds : List LoggedRound) (q : List ℕ)
        → IsDescent (IsRefinedBy kinds k l workers) h maps i p rounds q → IsSound (level h maps i) k l p
        → total saved rounds + cost h q ≡ cost (level h maps i) p
    unfolding Leaves
    descent_saves zero low p rounds q d o = level_saves kinds h k l workers 0 p rounds q o d
    descent_saves (suc i) low p rounds q d o =
        let here = level_saves kinds (level h maps (suc i)) k l workers (suc i) p d.0 d.2 o d.4 in
        let reached = refined_by_leaves kinds k l workers (suc i) (level h maps (suc i)) p d.0 d.2 d.4 o in
        let lower =
        level_projected (IsInsideAt k maps blocks) (inside_clustering k maps blocks) k h maps sound contracted l i (omega arith) d.2 reached.0 in
        let same = lower.1 in
        let below = descent_saves i (omega arith) (after d.2 (map_of maps i)) d.1 q d.5 lower.0 in
        let parts = ap (total saved) d.3 ∙ total-append saved d.0 d.1 in
        omega arith

-- ---- a cycle

module _ (kinds : List Kind) (h : Hyper) (k l workers : ℕ) (trace : Trace) (p q : List ℕ) (sound : IsHypergraph h) (bounds : IsWithinLimits h)
    (small : k ≤ 256) (differ : AllPairs (λ (a b : Kind). a ≢ b) kinds) (o : IsSound h k l p) (cycle : IsCycleBy kinds h k l workers trace p q)
  where
    abbrev d : IsDescended (IsInsideAt k trace.maps p) (IsRefinedBy kinds k l workers) h k l trace trace.last q
    d = cycle.descended

    few : (kind : Kind) → length (rounds_of kind d.level_rounds) ≤ 2 ^ 57
    few kind =
        let rounds = descent_few kind kinds h k l workers trace.maps small differ trace.start trace.first d.level_rounds trace.last d.descent in
        let levels = contracted_few (IsInsideAt k trace.maps p) 0 k h trace.maps d.maps in
        let start = cycle.start in
        let vertices = bounds.vertices in
        omega arith

    low_gain : total saved d.level_rounds ≤ 2 ^ 57
    low_gain =
        let first = first_sound kinds h k l workers trace p q sound o cycle in
        let same = first.1 in
        let spent = descent_saves kinds h k l workers trace.maps p sound d.maps trace.start (let start = cycle.start in omega arith) trace.first
        d.level_rounds trace.last d.descent first.0 in
        let most = cost-lt h p bounds in
        omega arith

    -- it raises no tally by more than 2^57
    pub cycle_within : (bound : ℕ) (ts : List Tally) → All (λ (t : Tally). (t.rounds < bound) × (t.gain < bound)) ts
        → All (λ (t : Tally). (t.rounds < bound + 2 ^ 57) × (t.gain < bound + 2 ^ 57)) (tallies_with trace.rounds kinds ts)
    cycle_within bound ts low =
        subst (All (λ (t : Tally). (t.rounds < bound + 2 ^ 57) × (t.gain < bound + 2 ^ 57)))
        (sym (ap (λ (rs : List LoggedRound). tallies_with rs kinds ts) d.rounds_are
        ∙ tallies_swept kinds h k l workers trace.maps trace.start trace.first trace.last trace.last q d.level_rounds d.sweeps ts d.descent d.settled))
        (tallies_within d.level_rounds bound (2 ^ 57) (bound + 2 ^ 57) kinds ts (omega arith) few low_gain low)
