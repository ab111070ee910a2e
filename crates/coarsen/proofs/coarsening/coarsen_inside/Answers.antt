-- One level more inside the blocks.
use Rattle.std.proofs.Common.{◌≡◌, ℕ, suc, ◌+◌, ◌-◌, ◌*◌, ◌<◌, ◌≤◌, Bool, true, false, List, [], ◌∷◌, ◌++◌, length, All, refl, sym, ap, ◌∙◌, subst, arith}
use Rattle.std.proofs.lemmas.List.{length_push}
use Rattle.std.proofs.lemmas.List.Elements.{All-push}
use Rattle.hg_defs.specs.Hypergraph.{Hyper, vertex_count, total_weight, IsHypergraph, IsWithinLimits}
use Rattle.hg_defs.specs.Partition.{IsPartition}
use Rattle.hg_defs.specs.Contraction.{IsFull, contract}
use Rattle.hg_defs.specs.Clustering.{cluster_count, cluster_cap, IsInside, Shrinks}
use Rattle.hg_defs.specs.Levels.{coarsest, lifted, lifted_to}
use Rattle.hg_defs.proofs.LevelLaws.{level_is_added}
use Rattle.round_log.specs.Trace.{IsLarge, AreContracted}
use Rattle.round_log.specs.Cycles.{IsInsideAt}
use Rattle.level_stack.specs.Stack.{Stack, LeadsUp}
use Rattle.coarsen.specs.Numbers.{IsByRoot}
use Rattle.coarsen.proofs.LevelSteps.{count_within, all_small, leads_from, large_at, fewer_at}
use Rattle.coarsen.proofs.InsideSteps.{inside_more, lifted_more, lifted_partition}
use Rattle.coarsen.proofs.coarsening.coarsen_inside.Goals as goal

inside_at : (top h : Hyper) (k : ℕ) (lent current clusters : List ℕ) → IsInside top (cluster_cap (total_weight top) k) lent clusters → top ≡ h →
    lent ≡ current → IsInside h (cluster_cap (total_weight h) k) current clusters
inside_at top h k lent current clusters inside same read =
    subst (λ (x : Hyper). IsInside x (cluster_cap (total_weight x) k) current clusters) same
    (subst (λ (p : List ℕ). IsInside top (cluster_cap (total_weight top) k) p clusters) read inside)

pub count_clusters-count-requires : goal.count_clusters-count-requires
count_clusters-count-requires g c =
    let h = coarsest c.levels.stack.base c.levels.stack.maps in
    let good = inside_at c.top-in-levels.result.now h c.args.k c.deref.result.now c.levels.current.items c.in_ok-clusters.clusters
    c.in_ok-clusters.ensures.inside c.top-in-levels.ensures c.deref.ensures.value in
    all_small h _ c.in_ok-clusters.clusters c.slice.result.now good.clustering (subst IsWithinLimits c.top.ensures c.vertices.ensures.bounds)
    c.slice.ensures

pub is_twentieth_fewer-requires : goal.is_twentieth_fewer-requires
is_twentieth_fewer-requires g c =
    let h = coarsest c.levels.stack.base c.levels.stack.maps in
    let good = inside_at c.top-in-levels.result.now h c.args.k c.deref.result.now c.levels.current.items c.in_ok-clusters.clusters
    c.in_ok-clusters.ensures.inside c.top-in-levels.ensures c.deref.ensures.value in
    let most = count_within h _ c.in_ok-clusters.clusters good.clustering in
    let count = c.count_clusters-count.ensures ∙ ap cluster_count c.slice.ensures in
    let top = ap (λ (x : Hyper). vertex_count x) c.top-in-levels-2.ensures in
    omega arith

pub lift_blocks-requires-clause-below : goal.lift_blocks-requires-clause-below
lift_blocks-requires-clause-below g c =
    let h = coarsest c.levels.stack.base c.levels.stack.maps in
    let good = inside_at c.top-in-levels.result.now h c.args.k c.deref.result.now c.levels.current.items c.in_ok-clusters.clusters
    c.in_ok-clusters.ensures.inside c.top-in-levels.ensures c.deref.ensures.value in
    subst (λ (n : ℕ). All (λ i. i < n) c.slice-in-levels.result.now) (sym (c.count_clusters-count.ensures ∙ ap cluster_count c.slice.ensures))
    (subst (All (λ i. i < cluster_count c.in_ok-clusters.clusters)) (sym c.slice-in-levels.ensures) good.clustering.full.below)

pub push-requires-clause-books : goal.push-requires-clause-books
push-requires-clause-books g c =
    let h = coarsest c.levels.stack.base c.levels.stack.maps in
    let good = inside_at c.top-in-levels.result.now h c.args.k c.deref.result.now c.levels.current.items c.in_ok-clusters.clusters
    c.in_ok-clusters.ensures.inside c.top-in-levels.ensures c.deref.ensures.value in
    leads_from h c.top-in-levels-3.result.now c.in_ok-coarse.coarse _ c.in_ok-clusters.clusters c.slice-in-levels-2.result.now c.in_ok-coarse.ledger
    good.clustering c.top-in-levels-3.ensures c.slice-in-levels-2.ensures c.in_ok-coarse.ensures.ledger

pub levels-smaller : goal.levels-smaller
levels-smaller g c =
    let same = ap (λ (x : Hyper). vertex_count x) (c.top.ensures ∙ sym c.top-in-levels-2.ensures) in
    let some : 0 < vertex_count c.top-in-levels-2.result.now = omega (arith, c.levels-test.true, c.from.ensures, c.vertices.ensures.count) in
    fewer_at c.levels.stack c.push.new.self c.in_ok-clusters.clusters c.count_clusters-count.result c.top-in-levels-2.result.now
    (ap (λ (x : Stack). x.base) c.in_ok-push.ensures.ok) (ap (λ (x : Stack). x.maps) c.in_ok-push.ensures.ok) c.top-in-levels-2.ensures
    (c.count_clusters-count.ensures ∙ ap cluster_count c.slice.ensures) (c.is_twentieth_fewer.ensures.0 c.if-not-is_twentieth_fewer.false) some

pub levels-preserved : goal.levels-preserved
levels-preserved g c =
    let maps = c.levels.stack.maps in
    let clusters = c.in_ok-clusters.clusters in
    let h = coarsest c.args.h maps in
    let below = coarsest c.levels.stack.base maps in
    let moved : below ≡ h = ap (λ (x : Hyper). coarsest x maps) c.levels.invariant.base in
    let same = c.top-in-levels.ensures ∙ moved in
    let count = c.count_clusters-count.ensures ∙ ap cluster_count c.slice.ensures in
    let top = ap (λ (x : Hyper). vertex_count x) (c.top-in-levels-2.ensures ∙ moved) in
    let fewer = c.is_twentieth_fewer.ensures.0 c.if-not-is_twentieth_fewer.false in
    let shrinks : Shrinks h clusters = omega arith in
    let large = large_at c.levels.stack.base c.args.h c.top.result.now maps c.args.k c.from.result c.from-in-levels.result c.vertices.result
    c.levels.invariant.base c.top.ensures c.vertices.ensures.count c.from.ensures c.from-in-levels.ensures c.levels-test.true in
    let p = lifted_to c.args.blocks.now maps (length maps) in
    let good = inside_at c.top-in-levels.result.now h c.args.k c.deref.result.now p clusters c.in_ok-clusters.ensures.inside same (c.deref.ensures.value ∙
    c.levels.invariant.top) in
    let ok = c.in_ok-push.ensures.ok in
    let here : c.in_ok-above.above.items ≡ lifted p clusters (cluster_count clusters) =
    c.in_ok-above.ensures
    ∙ ap (λ (q : List ℕ). lifted q c.slice-in-levels.result.now c.count_clusters-count.result) (c.deref-in-levels.ensures.value ∙ c.levels.invariant.top)
    ∙ ap (λ (d : List ℕ). lifted p d c.count_clusters-count.result) c.slice-in-levels.ensures
    ∙ ap (lifted p clusters) count
    in
    let longer = ap (λ (x : Stack). length x.maps) ok ∙ length_push maps clusters in
    let smaller = levels-smaller g c in
    let depth = c.levels.invariant.depth in
    let base : c.push.new.self.base ≡ c.args.h = ap (λ (x : Stack). x.base) ok ∙ c.levels.invariant.base in
    let longer_maps = ap (λ (x : Stack). x.maps) ok in
    let whole : IsPartition h c.args.k p = subst (λ (q : List ℕ). IsPartition h c.args.k q) c.levels.invariant.top
    (subst (λ (x : Hyper). IsPartition x c.args.k c.levels.current.items) moved c.levels.invariant.partition) in
    let sound : IsHypergraph h = subst IsHypergraph (c.top.ensures ∙ moved) c.vertices.ensures.sound in
    let next : coarsest c.push.new.self.base c.push.new.self.maps ≡ contract h clusters (cluster_count clusters) =
    ap (λ (x : Hyper). coarsest x c.push.new.self.maps) base ∙ ap (coarsest c.args.h) longer_maps ∙ level_is_added c.args.h maps clusters
    in
    record {
      base = base;
      levels = subst (λ (ms : List (List ℕ)). AreContracted (IsInsideAt c.args.k ms c.args.blocks.now) 0 c.args.h c.args.k ms) (sym longer_maps)
          (inside_more c.args.k c.args.h c.args.blocks.now maps clusters c.levels.invariant.levels large good shrinks);
      top = here ∙ lifted_more c.args.k c.args.h c.args.blocks.now maps clusters ∙ ap (λ (ms : List (List ℕ)). lifted_to c.args.blocks.now ms (length ms))
          (sym longer_maps);
      partition = subst (λ (x : Hyper). IsPartition x c.args.k c.in_ok-above.above.items) (sym next)
          (subst (IsPartition (contract h clusters (cluster_count clusters)) c.args.k) (sym here) (lifted_partition h _ c.args.k p clusters sound whole
          good));
      numbered = subst (All IsByRoot) (sym (ap (λ (x : Stack). x.maps) ok))
          (All-push IsByRoot maps clusters c.levels.invariant.numbered c.in_ok-clusters.ensures.by_root);
      depth = omega arith;
    }
