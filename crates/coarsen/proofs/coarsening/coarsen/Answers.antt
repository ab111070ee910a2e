-- One level more, or the stop.
use Rattle.std.proofs.Common.{◌≡◌, ℕ, suc, ◌+◌, ◌-◌, ◌*◌, ◌<◌, ◌≤◌, Bool, true, false, List, [], ◌∷◌, ◌++◌, length, All, refl, sym, ap, ◌∙◌, subst, arith}
use Rattle.std.proofs.lemmas.List.{length_push}
use Rattle.std.proofs.lemmas.List.Elements.{All-push}
use Rattle.hg_defs.specs.Hypergraph.{Hyper, vertex_count, total_weight, IsWithinLimits}
use Rattle.hg_defs.specs.Contraction.{IsFull, contract}
use Rattle.hg_defs.specs.Clustering.{cluster_count, cluster_cap, IsClustering, Shrinks}
use Rattle.hg_defs.specs.Levels.{coarsest}
use Rattle.round_log.specs.Trace.{IsGoodClustering, IsLarge, AreContracted}
use Rattle.round_log.proofs.DescentLaws.{contracted_more}
use Rattle.level_stack.specs.Stack.{Stack, LeadsUp}
use Rattle.coarsen.specs.Numbers.{IsByRoot}
use Rattle.coarsen.proofs.LevelSteps.{count_within, all_small, leads_from, not_fewer, large_at, fewer_at}
use Rattle.coarsen.proofs.coarsening.coarsen.Goals as goal

good_at : (top h : Hyper) (k : ℕ) (clusters : List ℕ) → ((number : ℕ) → IsGoodClustering k number top clusters) → top ≡ h → (number : ℕ) →
    IsGoodClustering k number h clusters
good_at top h k clusters good same number = subst (λ (x : Hyper). IsGoodClustering k number x clusters) same (good number)

pub count_clusters-count-requires : goal.count_clusters-count-requires
count_clusters-count-requires g c =
    let h = coarsest c.levels.stack.base c.levels.stack.maps in
    let good = good_at c.top-in-levels.result.now h c.args.k c.in_ok-clusters.clusters c.in_ok-clusters.ensures.good c.top-in-levels.ensures 0 in
    all_small h _ c.in_ok-clusters.clusters c.slice.result.now good.clustering (subst IsWithinLimits c.top.ensures c.vertices.ensures.bounds)
    c.slice.ensures

pub is_twentieth_fewer-requires : goal.is_twentieth_fewer-requires
is_twentieth_fewer-requires g c =
    let h = coarsest c.levels.stack.base c.levels.stack.maps in
    let good = good_at c.top-in-levels.result.now h c.args.k c.in_ok-clusters.clusters c.in_ok-clusters.ensures.good c.top-in-levels.ensures 0 in
    let most = count_within h _ c.in_ok-clusters.clusters good.clustering in
    let count = c.count_clusters-count.ensures ∙ ap cluster_count c.slice.ensures in
    let top = ap (λ (x : Hyper). vertex_count x) c.top-in-levels-2.ensures in
    omega arith

pub returns-then-not-is_twentieth_fewer-clause-stop : goal.returns-then-not-is_twentieth_fewer-clause-stop
returns-then-not-is_twentieth_fewer-clause-stop g c =
    let maps = c.levels.stack.maps in
    let h = coarsest c.args.h maps in
    let same = c.top-in-levels.ensures ∙ ap (λ (x : Hyper). coarsest x maps) c.levels.invariant.base in
    let count = c.count_clusters-count.ensures ∙ ap cluster_count c.slice.ensures in
    let top = ap (λ (x : Hyper). vertex_count x) (c.top-in-levels-2.ensures ∙ ap (λ (x : Hyper). coarsest x maps) c.levels.invariant.base) in
    let less = not_fewer c.is_twentieth_fewer.result (vertex_count c.top-in-levels-2.result.now) c.count_clusters-count.result
    c.is_twentieth_fewer.ensures.1
    c.if-not-is_twentieth_fewer.true in (
      large_at c.levels.stack.base c.args.h c.top.result.now maps c.args.k c.from.result c.from-in-levels.result c.vertices.result c.levels.invariant.base
          c.top.ensures c.vertices.ensures.count c.from.ensures c.from-in-levels.ensures c.levels-test.true,
      good_at c.top-in-levels.result.now h c.args.k c.in_ok-clusters.clusters c.in_ok-clusters.ensures.good same (length maps),
      omega arith,
    )

pub contract-requires-clause-full : goal.contract-requires-clause-full
contract-requires-clause-full g c κs within =
    let h = coarsest c.levels.stack.base c.levels.stack.maps in
    let good = good_at c.top-in-levels.result.now h c.args.k c.in_ok-clusters.clusters c.in_ok-clusters.ensures.good c.top-in-levels.ensures 0 in
    subst (λ (x : Hyper). IsFull x c.slice-in-levels.result.now (cluster_count c.slice-in-levels.result.now)) (sym c.top-in-levels-3.ensures)
    (subst (λ (x : List ℕ). IsFull h x (cluster_count x)) (sym c.slice-in-levels.ensures) good.clustering.full)

pub push-requires-clause-books : goal.push-requires-clause-books
push-requires-clause-books g c =
    let h = coarsest c.levels.stack.base c.levels.stack.maps in
    let good = good_at c.top-in-levels.result.now h c.args.k c.in_ok-clusters.clusters c.in_ok-clusters.ensures.good c.top-in-levels.ensures 0 in
    leads_from h c.top-in-levels-3.result.now c.in_ok-coarse.coarse _ c.in_ok-clusters.clusters c.slice-in-levels.result.now c.in_ok-coarse.ledger
    good.clustering c.top-in-levels-3.ensures c.slice-in-levels.ensures c.in_ok-coarse.ensures.ledger

pub levels-smaller : goal.levels-smaller
levels-smaller g c =
    let same = ap (λ (x : Hyper). vertex_count x) (c.top.ensures ∙ sym c.top-in-levels-2.ensures) in
    let some : 0 < vertex_count c.top-in-levels-2.result.now = omega (arith, c.levels-test.true, c.from.ensures, c.vertices.ensures.count) in
    fewer_at c.levels.stack c.push.new.self c.in_ok-clusters.clusters c.count_clusters-count.result c.top-in-levels-2.result.now
    (ap (λ (x : Stack). x.base) c.in_ok-push.ensures.ok) (ap (λ (x : Stack). x.maps) c.in_ok-push.ensures.ok) c.top-in-levels-2.ensures
    (c.count_clusters-count.ensures ∙ ap cluster_count c.slice.ensures) (c.is_twentieth_fewer.ensures.0 c.if-not-is_twentieth_fewer.false) some

pub levels-preserved : goal.levels-preserved
levels-preserved g c =
    let maps = c.levels.stack.maps in
    let clusters = c.in_ok-clusters.clusters in
    let h = coarsest c.args.h maps in
    let same = c.top-in-levels.ensures ∙ ap (λ (x : Hyper). coarsest x maps) c.levels.invariant.base in
    let count = c.count_clusters-count.ensures ∙ ap cluster_count c.slice.ensures in
    let top = ap (λ (x : Hyper). vertex_count x) (c.top-in-levels-2.ensures ∙ ap (λ (x : Hyper). coarsest x maps) c.levels.invariant.base) in
    let fewer = c.is_twentieth_fewer.ensures.0 c.if-not-is_twentieth_fewer.false in
    let shrinks : Shrinks h clusters = omega arith in
    let large = large_at c.levels.stack.base c.args.h c.top.result.now maps c.args.k c.from.result c.from-in-levels.result c.vertices.result
    c.levels.invariant.base c.top.ensures c.vertices.ensures.count c.from.ensures c.from-in-levels.ensures c.levels-test.true in
    let good = good_at c.top-in-levels.result.now h c.args.k clusters c.in_ok-clusters.ensures.good same (0 + length maps) in
    let ok = c.in_ok-push.ensures.ok in
    let longer = ap (λ (x : Stack). length x.maps) ok ∙ length_push maps clusters in
    let smaller = levels-smaller g c in
    let depth = c.levels.invariant.depth in
    record {
      base = ap (λ (x : Stack). x.base) ok ∙ c.levels.invariant.base;
      levels = subst (AreContracted (IsGoodClustering c.args.k) 0 c.args.h c.args.k) (sym (ap (λ (x : Stack). x.maps) ok))
          (contracted_more (IsGoodClustering c.args.k) 0 c.args.k c.args.h maps clusters c.levels.invariant.levels large good shrinks);
      numbered = subst (All IsByRoot) (sym (ap (λ (x : Stack). x.maps) ok))
          (All-push IsByRoot maps clusters c.levels.invariant.numbered c.in_ok-clusters.ensures.by_root);
      depth = omega arith;
    }
