use Rattle.std.proofs.Common.{◌≡◌, ◌<◌, ◌+◌, ◌∙◌, ⊎_elim, length, All, refl, sym, ap, subst, arith}
use Rattle.hg_defs.specs.Hypergraph.{vertex_count, IsHypergraph, IsWithinLimits}
use Rattle.hg_defs.specs.Partition.{IsPartition, Fits}
use Rattle.flow_net.specs.Flow.{IsFilledCut}
use Rattle.round_log.specs.Rounds.{region}
use Rattle.flow_pair.specs.PairNetwork.{source_node, sink_node}
use Rattle.flow_pair.specs.ShortNetwork.{short_network, fixed_cost}
use Rattle.flow_pair.proofs.ShortLaws.{built_pays}
use Rattle.flow_pair.proofs.EndLaws.{region_pair, region_vertices, end_value-small, pair_end}
use Rattle.flow_pair.proofs.solve.solve_region.Goals as goal

pub balanced_side-side-requires-clause-region : goal.balanced_side-side-requires-clause-region
balanced_side-side-requires-clause-region c =
    let p = c.args.p.now in
    let sound : IsHypergraph c.args.pair.h.now = subst IsHypergraph c.requires.belongs c.blocks-blocks.ensures.parted.sound in
    subst (All (λ v. v < vertex_count c.args.pair.h.now)) (sym c.requires.region)
    (region_vertices c.args.pair.h.now p.limit p.blocks c.args.pair.first
    c.args.pair.second sound)

pub overflow_cast-result : goal.overflow_cast-result
overflow_cast-result c =
    let h = c.args.pair.h.now in
    let p = c.args.p.now in
    let a = c.args.pair.first in
    let b = c.args.pair.second in
    let parted = c.blocks-blocks.ensures.parted in
    let inside = c.args.pair.region.now in
    let fixed = c.in_ok-short.ensures.fixed ∙ ap (λ q. fixed_cost h q a b inside) (sym c.requires.blocks)
    ∙ ap (fixed_cost h p.blocks a b) c.requires.region in
    let network = c.in_ok-short.ensures.network ∙ ap (λ q. short_network h q a b inside) (sym c.requires.blocks)
    ∙ ap (short_network h p.blocks a b) c.requires.region in
    let nodes = c.in_ok-cut.ensures.kept.0 ∙ ap (λ n. n.nodes) network in
    let filled = IsFilledCut c.max_flow_in.new.self source_node sink_node c.in_ok-cut.cut.value in
    let cut : filled c.balanced_side-side.result.now =
    ⊎_elim (λ (e : c.balanced_side-side.result.now ≡ c.slice-near.result.now). subst filled (sym (e ∙ c.slice-near.ensures)) c.in_ok-cut.ensures.near)
    (λ (e : c.balanced_side-side.result.now ≡ c.slice-far.result.now). subst filled (sym (e ∙ c.slice-far.ensures)) c.in_ok-cut.ensures.cut)
    c.balanced_side-side.ensures in
    let pays =
    built_pays h p.blocks a b (region h p.limit p.blocks a b) c.in_ok-short.short.network c.max_flow_in.new.self.arcs c.in_ok-short.short.fixed
    c.requires.order (region_pair h p.limit p.blocks a b) network c.in_ok-cut.ensures.kept.1 fixed in
    let small =
    end_value-small h p.k p.limit p.blocks a b c.in_ok-blocks.blocks c.max_flow_in.new.self c.in_ok-cut.cut.value c.balanced_side-side.result.now c.in_ok-short.short.fixed
    (subst IsHypergraph c.requires.belongs parted.sound) (subst IsWithinLimits c.requires.belongs parted.bounds)
    (subst (λ x. IsPartition x p.k p.blocks) c.requires.belongs parted.partition) (subst (λ x. Fits x p.k p.limit p.blocks) c.requires.belongs
    c.requires.fits) c.requires.order c.requires.second (omega arith) pays
    c.in_ok-cut.ensures.sound c.in_ok-cut.ensures.flow cut
    (c.in_ok-blocks.ensures.count ∙ ap length c.requires.region)
    c.in_ok-blocks.ensures.each in
    omega arith

pub overflow_add-result : goal.overflow_add-result
overflow_add-result c =
    let h = c.args.pair.h.now in
    let p = c.args.p.now in
    let a = c.args.pair.first in
    let b = c.args.pair.second in
    let parted = c.blocks-blocks.ensures.parted in
    let inside = c.args.pair.region.now in
    let fixed = c.in_ok-short.ensures.fixed ∙ ap (λ q. fixed_cost h q a b inside) (sym c.requires.blocks)
    ∙ ap (fixed_cost h p.blocks a b) c.requires.region in
    let network = c.in_ok-short.ensures.network ∙ ap (λ q. short_network h q a b inside) (sym c.requires.blocks)
    ∙ ap (short_network h p.blocks a b) c.requires.region in
    let nodes = c.in_ok-cut.ensures.kept.0 ∙ ap (λ n. n.nodes) network in
    let filled = IsFilledCut c.max_flow_in.new.self source_node sink_node c.in_ok-cut.cut.value in
    let cut : filled c.balanced_side-side.result.now =
    ⊎_elim (λ (e : c.balanced_side-side.result.now ≡ c.slice-near.result.now). subst filled (sym (e ∙ c.slice-near.ensures)) c.in_ok-cut.ensures.near)
    (λ (e : c.balanced_side-side.result.now ≡ c.slice-far.result.now). subst filled (sym (e ∙ c.slice-far.ensures)) c.in_ok-cut.ensures.cut)
    c.balanced_side-side.ensures in
    let pays =
    built_pays h p.blocks a b (region h p.limit p.blocks a b) c.in_ok-short.short.network c.max_flow_in.new.self.arcs c.in_ok-short.short.fixed
    c.requires.order (region_pair h p.limit p.blocks a b) network c.in_ok-cut.ensures.kept.1 fixed in
    let small =
    end_value-small h p.k p.limit p.blocks a b c.in_ok-blocks.blocks c.max_flow_in.new.self c.in_ok-cut.cut.value c.balanced_side-side.result.now c.in_ok-short.short.fixed
    (subst IsHypergraph c.requires.belongs parted.sound) (subst IsWithinLimits c.requires.belongs parted.bounds)
    (subst (λ x. IsPartition x p.k p.blocks) c.requires.belongs parted.partition) (subst (λ x. Fits x p.k p.limit p.blocks) c.requires.belongs
    c.requires.fits) c.requires.order c.requires.second (omega arith) pays
    c.in_ok-cut.ensures.sound c.in_ok-cut.ensures.flow cut
    (c.in_ok-blocks.ensures.count ∙ ap length c.requires.region)
    c.in_ok-blocks.ensures.each in
    omega arith

pub returns : goal.returns
returns c =
    let h = c.args.pair.h.now in
    let p = c.args.p.now in
    let a = c.args.pair.first in
    let b = c.args.pair.second in
    let parted = c.blocks-blocks.ensures.parted in
    let inside = c.args.pair.region.now in
    let fixed = c.in_ok-short.ensures.fixed ∙ ap (λ q. fixed_cost h q a b inside) (sym c.requires.blocks)
    ∙ ap (fixed_cost h p.blocks a b) c.requires.region in
    let network = c.in_ok-short.ensures.network ∙ ap (λ q. short_network h q a b inside) (sym c.requires.blocks)
    ∙ ap (short_network h p.blocks a b) c.requires.region in
    let nodes = c.in_ok-cut.ensures.kept.0 ∙ ap (λ n. n.nodes) network in
    let filled = IsFilledCut c.max_flow_in.new.self source_node sink_node c.in_ok-cut.cut.value in
    let cut : filled c.balanced_side-side.result.now =
    ⊎_elim (λ (e : c.balanced_side-side.result.now ≡ c.slice-near.result.now). subst filled (sym (e ∙ c.slice-near.ensures)) c.in_ok-cut.ensures.near)
    (λ (e : c.balanced_side-side.result.now ≡ c.slice-far.result.now). subst filled (sym (e ∙ c.slice-far.ensures)) c.in_ok-cut.ensures.cut)
    c.balanced_side-side.ensures in
    let pays =
    built_pays h p.blocks a b (region h p.limit p.blocks a b) c.in_ok-short.short.network c.max_flow_in.new.self.arcs c.in_ok-short.short.fixed
    c.requires.order (region_pair h p.limit p.blocks a b) network c.in_ok-cut.ensures.kept.1 fixed in
    pair_end h p.k p.limit p.blocks a b c.in_ok-blocks.blocks c.max_flow_in.new.self c.in_ok-cut.cut.value c.balanced_side-side.result.now c.in_ok-short.short.fixed
    (subst IsHypergraph c.requires.belongs parted.sound) (subst IsWithinLimits c.requires.belongs parted.bounds)
    (subst (λ x. IsPartition x p.k p.blocks) c.requires.belongs parted.partition) (subst (λ x. Fits x p.k p.limit p.blocks) c.requires.belongs
    c.requires.fits) c.requires.order c.requires.second (omega arith) pays
    c.in_ok-cut.ensures.sound c.in_ok-cut.ensures.flow cut
    (c.in_ok-blocks.ensures.count ∙ ap length c.requires.region)
    c.in_ok-blocks.ensures.each
    (record { region = c.args.pair.region.now; blocks = c.in_ok-blocks.blocks; value = c.in_ok-cut.cut.value + c.in_ok-short.short.fixed })
    c.requires.region refl refl
