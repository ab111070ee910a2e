-- How many rounds of a kind a descent makes, and how much they save: its refiners' tallies stay low.
use Rattle.std.proofs.Common.{◌≡◌, ◌≢◌, ℕ, zero, suc, ◌+◌, ◌*◌, ◌<◌, ◌≤◌, ◌^◌, List, [], ◌∷◌, length, map, All, AllPairs}
use Rattle.std.proofs.Common.{sym, ap, subst, ◌∙◌, arith}
use Rattle.std.proofs.lemmas.List.Elements.{All-map}
use Rattle.hg_defs.specs.Sums.{total}
use Rattle.hg_defs.specs.Hypergraph.{Hyper, IsHypergraph, IsWithinLimits}
use Rattle.hg_defs.specs.Cost.{cost}
use Rattle.hg_defs.specs.Contraction.{after}
use Rattle.hg_defs.specs.Levels.{level, map_of}
use Rattle.hg_defs.proofs.SumLaws.{total-append}
use Rattle.hg_base.proofs.CountLaws.{cost-lt}
use Rattle.round_log.specs.declared.record.Kind.{Kind}
use Rattle.round_log.specs.declared.record.LoggedRound.{LoggedRound}
use Rattle.round_log.specs.Passes.{saved}
use Rattle.round_log.specs.Trace.{AreContracted, IsGoodClustering, IsDescent}
use Rattle.round_log.specs.TraceLaws.{IsSound}
use Rattle.round_log.proofs.DescentLaws.{Leaves, level_projected}
use Rattle.refiner.specs.declared.pass.Tally.{Tally}
use Rattle.uncoarsen.specs.Refined.{IsRefinedBy, tallies_with}
use Rattle.uncoarsen.proofs.TallyLemmas.{tallies_within, all_mapped}
use Rattle.uncoarsen.proofs.PassesLaws.{refined_by_leaves}
use Rattle.vcycle.proofs.CountLemmas.{contracted_few, descent_few, level_saves}
use Rattle.part_run.proofs.LevelLemmas.{clustered}

module _ (kinds : List Kind) (h : Hyper) (k l workers : ℕ) (maps : List (List ℕ)) (sound : IsHypergraph h)
    (contracted : AreContracted (IsGoodClustering k) 0 h k maps)
  where
    projected : (i : ℕ) → i < length maps → (q : List ℕ) → IsSound (level h maps (suc i)) k l q
        → IsSound (level h maps i) k l (after q (map_of maps i)) × (cost (level h maps i) (after q (map_of maps i)) ≡ cost (level h maps (suc i)) q)
    projected i low q o = level_projected (IsGoodClustering k) (clustered k) k h maps sound contracted l i low q o

    -- and so do those of all levels
    descent_saves : (i : ℕ) → i ≤ length maps → (p : List ℕ) (rounds : List LoggedRound) (q : List ℕ)
        → IsDescent (IsRefinedBy kinds k l workers) h maps i p rounds q → IsSound (level h maps i) k l p
        → total saved rounds + cost h q ≡ cost (level h maps i) p
    unfolding Leaves
    descent_saves zero low p rounds q d o = level_saves kinds h k l workers 0 p rounds q o d
    descent_saves (suc i) low p rounds q d o =
        let here = level_saves kinds (level h maps (suc i)) k l workers (suc i) p d.0 d.2 o d.4 in
        let reached = refined_by_leaves kinds k l workers (suc i) (level h maps (suc i)) p d.0 d.2 d.4 o in
        let lower = projected i (omega arith) d.2 reached.0 in
        let same = lower.1 in
        let below = descent_saves i (omega arith) (after d.2 (map_of maps i)) d.1 q d.5 lower.0 in
        let parts = ap (total saved) d.3 ∙ total-append saved d.0 d.1 in
        omega arith

    -- no partition of a level costs more than one of the file may
    level_cost : IsWithinLimits h → (i : ℕ) → i ≤ length maps → (p : List ℕ) → IsSound (level h maps i) k l p → cost (level h maps i) p < 2 ^ 57
    level_cost bounds zero low p o = cost-lt h p bounds
    level_cost bounds (suc i) low p o =
        let lower = projected i (omega arith) p o in
        let same = lower.1 in
        let below = level_cost bounds i (omega arith) (after p (map_of maps i)) lower.0 in
        omega arith

    -- the tallies of boxes that were low stay low
    pub tallies_low : {B : Type 0} (tally : B → Tally) (old new : List B) (i : ℕ) (p : List ℕ) (rounds : List LoggedRound) (q : List ℕ)
        → IsWithinLimits h → k ≤ 256 → AllPairs (λ (a b : Kind). a ≢ b) kinds → i ≤ length maps → IsSound (level h maps i) k l p
        → IsDescent (IsRefinedBy kinds k l workers) h maps i p rounds q → map tally new ≡ tallies_with rounds kinds (map tally old)
        → All (λ (b : B). ((tally b).rounds < 2 ^ 59) × ((tally b).gain < 2 ^ 59)) old
        → All (λ (b : B). ((tally b).rounds < 2 ^ 60) × ((tally b).gain < 2 ^ 60)) new
    tallies_low tally old new i p rounds q bounds small differ low o d counted few =
        all_mapped (λ (t : Tally). (t.rounds < 2 ^ 60) × (t.gain < 2 ^ 60)) tally new
        (subst (All (λ (t : Tally). (t.rounds < 2 ^ 60) × (t.gain < 2 ^ 60))) (sym counted)
        (tallies_within rounds (2 ^ 59) (2 ^ 58) (2 ^ 60) kinds (map tally old) (omega arith)
        (λ x.
        let made = descent_few x kinds h k l workers maps small differ i p rounds q d in
        let levels = contracted_few (IsGoodClustering k) 0 k h maps contracted in
        let vertices = bounds.vertices in
        omega arith)
        (let spent = descent_saves i low p rounds q d o in let most = level_cost bounds i low p o in omega arith)
        (All-map (λ (t : Tally). (t.rounds < 2 ^ 59) × (t.gain < 2 ^ 59)) tally old few)))
