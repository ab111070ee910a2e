-- One level more, or the stop.
use Rattle.std.proofs.Common.{◌≡◌, ℕ, ◌<◌, List, length, sym, ap, ◌∙◌, subst, arith}
use Rattle.std.proofs.lemmas.List.{length_push}
use Rattle.hg_defs.specs.Hypergraph.{Hyper, vertex_count, total_weight, IsWithinLimits}
use Rattle.hg_defs.specs.Contraction.{IsFull}
use Rattle.hg_defs.specs.Clustering.{cluster_count, cluster_cap, IsClustering, Shrinks}
use Rattle.hg_defs.specs.Levels.{coarsest}
use Rattle.hg_defs.specs.Pairing.{paired}
use Rattle.round_log.specs.Trace.{AreContracted}
use Rattle.round_log.specs.Deterministic.{IsPairing, level_pairing}
use Rattle.round_log.proofs.DescentLaws.{contracted_more}
use Rattle.level_stack.specs.Stack.{Stack}
use Rattle.coarsen.proofs.LevelSteps.{count_within, all_small, leads_from, not_fewer, large_at, fewer_at}
use Rattle.det_sync.proofs.levels.det_levels.Goals as goal

clustering_at : (top h : Hyper) (cap : ℕ) (clusters : List ℕ) → IsClustering top cap clusters → top ≡ h → IsClustering h cap clusters
clustering_at top h cap clusters good same = subst (λ (x : Hyper). IsClustering x cap clusters) same good

pairing_at : (top h : Hyper) (k weight cap : ℕ) (clusters : List ℕ) → clusters ≡ paired top cap → cap ≡ cluster_cap weight k → weight ≡ total_weight top →
    top ≡ h → clusters ≡ level_pairing h k
pairing_at top h k weight cap clusters is capped weighs same =
    is ∙ ap (paired top) (capped ∙ ap (λ w. cluster_cap w k) weighs) ∙ ap (λ (x : Hyper). level_pairing x k) same

pub count_clusters-count-requires : goal.count_clusters-count-requires
count_clusters-count-requires g c =
    let h = coarsest c.levels.stack.base c.levels.stack.maps in
    let good = clustering_at c.top-level.result.now h c.cluster_cap-cap.result c.in_ok-clusters.clusters c.in_ok-clusters.ensures.clustering
    c.top-level.ensures in
    all_small h c.cluster_cap-cap.result c.in_ok-clusters.clusters c.slice.result.now good (subst IsWithinLimits c.top.ensures c.vertices.ensures.bounds)
    c.slice.ensures

pub is_twentieth_fewer-requires : goal.is_twentieth_fewer-requires
is_twentieth_fewer-requires g c =
    let h = coarsest c.levels.stack.base c.levels.stack.maps in
    let good = clustering_at c.top-level.result.now h c.cluster_cap-cap.result c.in_ok-clusters.clusters c.in_ok-clusters.ensures.clustering
    c.top-level.ensures in
    let most = count_within h c.cluster_cap-cap.result c.in_ok-clusters.clusters good in
    let count = c.count_clusters-count.ensures ∙ ap cluster_count c.slice.ensures in
    let top = ap (λ (x : Hyper). vertex_count x) c.top-level.ensures in
    omega arith

pub returns-then-not-is_twentieth_fewer-clause-levels : goal.returns-then-not-is_twentieth_fewer-clause-levels
returns-then-not-is_twentieth_fewer-clause-levels g c =
    let maps = c.levels.stack.maps in
    let h = coarsest c.args.h maps in
    let same = c.top-level.ensures ∙ ap (λ (x : Hyper). coarsest x maps) c.levels.invariant.base in
    let count = c.count_clusters-count.ensures ∙ ap cluster_count c.slice.ensures in
    let top = ap (λ (x : Hyper). vertex_count x) same in
    let less = not_fewer c.is_twentieth_fewer.result (vertex_count c.top-level.result.now) c.count_clusters-count.result
    c.is_twentieth_fewer.ensures.1 c.if-not-is_twentieth_fewer.true in
    record {
      contracted = c.levels.invariant.levels;
      stopped = (
        large_at c.levels.stack.base c.args.h c.top.result.now maps c.args.k c.from.result c.from-in-levels.result c.vertices.result c.levels.invariant.base
            c.top.ensures c.vertices.ensures.count c.from.ensures c.from-in-levels.ensures c.levels-test.true,
        pairing_at c.top-level.result.now h c.args.k c.total_weight.result c.cluster_cap-cap.result c.in_ok-clusters.clusters
            c.in_ok-clusters.ensures.paired c.cluster_cap-cap.ensures c.total_weight.ensures same,
        omega arith,
      );
    }

pub contract-requires-clause-full : goal.contract-requires-clause-full
contract-requires-clause-full g c κs within =
    let h = coarsest c.levels.stack.base c.levels.stack.maps in
    let good = clustering_at c.top-level.result.now h c.cluster_cap-cap.result c.in_ok-clusters.clusters c.in_ok-clusters.ensures.clustering
    c.top-level.ensures in
    subst (λ (x : Hyper). IsFull x c.slice-in-levels.result.now (cluster_count c.slice-in-levels.result.now)) (sym c.top-level.ensures)
    (subst (λ (x : List ℕ). IsFull h x (cluster_count x)) (sym c.slice-in-levels.ensures) good.full)

pub push-requires-clause-books : goal.push-requires-clause-books
push-requires-clause-books g c =
    let h = coarsest c.levels.stack.base c.levels.stack.maps in
    let good = clustering_at c.top-level.result.now h c.cluster_cap-cap.result c.in_ok-clusters.clusters c.in_ok-clusters.ensures.clustering
    c.top-level.ensures in
    leads_from h c.top-level.result.now c.in_ok-coarse.coarse c.cluster_cap-cap.result c.in_ok-clusters.clusters c.slice-in-levels.result.now
    c.in_ok-coarse.ledger good c.top-level.ensures c.slice-in-levels.ensures c.in_ok-coarse.ensures.ledger

pub levels-smaller : goal.levels-smaller
levels-smaller g c =
    let same = ap (λ (x : Hyper). vertex_count x) (c.top.ensures ∙ sym c.top-level.ensures) in
    let some : 0 < vertex_count c.top-level.result.now = omega (arith, c.levels-test.true, c.from.ensures, c.vertices.ensures.count) in
    fewer_at c.levels.stack c.push.new.self c.in_ok-clusters.clusters c.count_clusters-count.result c.top-level.result.now
    (ap (λ (x : Stack). x.base) c.in_ok-push.ensures.ok) (ap (λ (x : Stack). x.maps) c.in_ok-push.ensures.ok) c.top-level.ensures
    (c.count_clusters-count.ensures ∙ ap cluster_count c.slice.ensures) (c.is_twentieth_fewer.ensures.0 c.if-not-is_twentieth_fewer.false) some

pub levels-preserved : goal.levels-preserved
levels-preserved g c =
    let maps = c.levels.stack.maps in
    let clusters = c.in_ok-clusters.clusters in
    let h = coarsest c.args.h maps in
    let same = c.top-level.ensures ∙ ap (λ (x : Hyper). coarsest x maps) c.levels.invariant.base in
    let count = c.count_clusters-count.ensures ∙ ap cluster_count c.slice.ensures in
    let top = ap (λ (x : Hyper). vertex_count x) same in
    let fewer = c.is_twentieth_fewer.ensures.0 c.if-not-is_twentieth_fewer.false in
    let shrinks : Shrinks h clusters = omega arith in
    let large = large_at c.levels.stack.base c.args.h c.top.result.now maps c.args.k c.from.result c.from-in-levels.result c.vertices.result
    c.levels.invariant.base c.top.ensures c.vertices.ensures.count c.from.ensures c.from-in-levels.ensures c.levels-test.true in
    let good = pairing_at c.top-level.result.now h c.args.k c.total_weight.result c.cluster_cap-cap.result clusters c.in_ok-clusters.ensures.paired
    c.cluster_cap-cap.ensures c.total_weight.ensures same in
    let ok = c.in_ok-push.ensures.ok in
    let longer = ap (λ (x : Stack). length x.maps) ok ∙ length_push maps clusters in
    let smaller = levels-smaller g c in
    let depth = c.levels.invariant.depth in
    record {
      base = ap (λ (x : Stack). x.base) ok ∙ c.levels.invariant.base;
      levels = subst (AreContracted (IsPairing c.args.k) 0 c.args.h c.args.k) (sym (ap (λ (x : Stack). x.maps) ok))
          (contracted_more (IsPairing c.args.k) 0 c.args.k c.args.h maps clusters c.levels.invariant.levels large good shrinks);
      depth = omega arith;
    }
